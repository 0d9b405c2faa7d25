-- `packet::is_first` meets its contract: the patterns are bits of a number. Assumes nothing.
use Rattle.packet.proofs.Patterns.{first_patterns}
use Rattle.packet.proofs.is_first.Goals as goal

pub returns : goal.returns
returns c = first_patterns c.args.x
