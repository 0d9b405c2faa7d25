-- `trace::keep` meets its contract: only bytes of a record are stored. Assumes nothing.
use Rattle.trace.proofs.keep.Goals as goal

pub returns-in-Byte : goal.returns-in-Byte
returns-in-Byte c = rw c.in-Byte.is (c.put_byte.ensures.place, c.put_byte.ensures.stored)
