-- `trace::number_after` meets its contract: only a whole record is counted. Assumes nothing.
use Rattle.trace.specs.Annotated.{number_after}
use Rattle.trace.proofs.number_after.Goals as goal

pub returns-in-Line : goal.returns-in-Line
unfolding number_after
returns-in-Line c = rw c.in-Line.is c.wrapping_add_u64.ensures.value
