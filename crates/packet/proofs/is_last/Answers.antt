-- `packet::is_last` meets its contract: the patterns are bits of a number. Assumes nothing.
use Rattle.packet.proofs.Patterns.{last_patterns}
use Rattle.packet.proofs.is_last.Goals as goal

pub returns : goal.returns
returns c = last_patterns c.args.x
