-- `tlp_fields::head_at` meets its contract. Assumes nothing.
use Rattle.tlp_fields.specs.Fields.{head_at}
use Rattle.tlp_fields.proofs.head_at.Goals as goal

pub returns : goal.returns
unfolding head_at
returns c = rw (c.from.ensures, c.from-2.ensures)
