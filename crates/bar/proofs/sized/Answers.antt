-- `bar::sized`: a size of 0 is no size. Assumes nothing.
use borrow.Author.Tests.{eq-eqb, ne_eqb}
use Rattle.bar.specs.Bar.{sized}
use Rattle.bar.proofs.sized.Goals as goal

pub returns-then-size-eq0 : goal.returns-then-size-eq0
unfolding sized
returns-then-size-eq0 c = simp (eq-eqb _ _ c.if-size-eq0.true)

pub returns-else-size-eq0 : goal.returns-else-size-eq0
unfolding sized
returns-else-size-eq0 c = simp (ne_eqb _ _ c.if-size-eq0.false)
