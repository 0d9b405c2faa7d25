-- `trace_line::label_by_bytes` meets its contract: by the finder. Assumes nothing.
use Rattle.trace_line.specs.Finder.{routing_by}
use Rattle.trace_line.proofs.label_by_bytes.Goals as goal

pub returns-in-Sheet : goal.returns-in-Sheet
returns-in-Sheet c = λ told. absurd (told c.untold.ensures)

pub returns-in-Index : goal.returns-in-Index
unfolding routing_by
returns-in-Index c = rw c.in-Index.is c.label_by_index.ensures
