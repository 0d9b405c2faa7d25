-- `tlp::read_row` meets its contract: 16 bytes for the four-dword form. Assumes nothing.
use borrow.Author.Tests.{lt-ltb, le-ltb}
use Rattle.tlp.proofs.read_row.Goals as goal

pub returns-then-s-size_of : goal.returns-then-s-size_of
returns-then-s-size_of c = rw (← c.size_of.ensures, lt-ltb _ _ c.if-s-size_of.true)

pub returns : goal.returns
returns c = rw (← c.size_of.ensures, le-ltb _ _ c.if-s-size_of.false, ← c.kind_named.ensures) c.read_as.ensures
