-- `bar::is_memory`: not I/O. Assumes nothing.
use mathlib.Core.Path.{ap}
use mathlib.Core.Bool.{not}
use Rattle.bar.proofs.is_memory.Goals as goal

pub returns : goal.returns
returns c = ap not c.is_io.ensures
