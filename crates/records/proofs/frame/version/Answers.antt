-- `records::frame::version` meets its contract. Assumes nothing.
use borrow.Author.Tests.{eq-eqb, ne_eqb}
use Rattle.records.specs.Frame.{version_of}
use Rattle.records.proofs.frame.version.Goals as goal

pub returns-then-byte-eq1 : goal.returns-then-byte-eq1
unfolding version_of
returns-then-byte-eq1 c = rw (eq-eqb _ _ c.if-byte-eq1.true)

pub returns : goal.returns
unfolding version_of
returns c = rw (ne_eqb _ _ c.if-byte-eq1.false)
