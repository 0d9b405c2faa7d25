-- `tlp::read` meets its contract: 12 bytes, then the pair. Assumes nothing.
use Rattle.tlp.specs.Reading.{read_of}
use borrow.Author.Tests.{lt-ltb, le-ltb}
use Rattle.tlp.proofs.read.Goals as goal

pub returns-then-header-lt12 : goal.returns-then-header-lt12
unfolding read_of
returns-then-header-lt12 c = rw (lt-ltb _ 12 c.if-header-lt12.true)

pub returns-in-Unknown : goal.returns-in-Unknown
unfolding read_of
returns-in-Unknown c = rw (le-ltb _ 12 c.if-header-lt12.false, ← c.pair_of.ensures, c.in-Unknown.is)

pub returns-in-NotCarried : goal.returns-in-NotCarried
unfolding read_of
returns-in-NotCarried c = rw (le-ltb _ 12 c.if-header-lt12.false, ← c.pair_of.ensures, c.in-NotCarried.is)

pub returns-in-Carried : goal.returns-in-Carried
unfolding read_of
returns-in-Carried c = rw (le-ltb _ 12 c.if-header-lt12.false, ← c.pair_of.ensures, c.in-Carried.is) c.read_row.ensures
