-- `trace_line::label_of` meets its contract: what is told, or by a packet. Assumes nothing.
use Rattle.trace_line.proofs.label_of.Goals as goal

pub returns-then-told-ne-UNTOLD : goal.returns-then-told-ne-UNTOLD
returns-then-told-ne-UNTOLD c = c.requires.1 c.if-told-ne-UNTOLD.true
