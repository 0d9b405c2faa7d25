-- `records::frame::inside` meets its contract. Assumes nothing.
use borrow.Author.Tests.{eq-eqb, ne_eqb}
use Rattle.records.specs.Frame.{inside_of}
use Rattle.records.proofs.frame.inside.Goals as goal

pub returns-then-left-eq0 : goal.returns-then-left-eq0
unfolding inside_of
returns-then-left-eq0 c = rw (eq-eqb _ _ c.if-left-eq0.true)

pub returns : goal.returns
unfolding inside_of
returns c = rw (ne_eqb _ _ c.if-left-eq0.false)
