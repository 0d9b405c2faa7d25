-- `audit_feed::audit` meets its contract. Assumes nothing.
use Rattle.std.proofs.lemmas.List.{take_min, drop_min}
use Rattle.audit_feed.specs.Program.{input_number}
use Rattle.audit_feed.proofs.audit.Goals as goal

pub returns : goal.returns
unfolding input_number
returns c = rw (c.split_at.ensures.front, c.split_at.ensures.back, c.min.ensures, take_min, drop_min) at c.audit.ensures
