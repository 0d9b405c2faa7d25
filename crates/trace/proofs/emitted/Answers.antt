-- `trace::emitted` meets its contract. Assumes nothing.
use Rattle.trace.proofs.emitted.Goals as goal

pub returns-in-Begins : goal.returns-in-Begins
returns-in-Begins c = rw c.in-Begins.is c.line_at.ensures

pub returns-in-Byte : goal.returns-in-Byte
returns-in-Byte c = rw c.in-Byte.is c.line_at-in-Byte.ensures
