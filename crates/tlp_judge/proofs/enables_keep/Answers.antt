-- `tlp_judge::enables_keep` meets its contract: Length 1, two dwords on an 8-byte edge, or by the patterns. Assumes nothing.
use borrow.Author.Tests.{eq-eqb, ne_eqb}
use mathlib.Core.Path.{ap₂}
use mathlib.Core.Bool.{◌&&◌}
use Rattle.tlp_judge.proofs.enables_keep.Goals as goal

pub returns-then-n-eq1 : goal.returns-then-n-eq1
returns-then-n-eq1 c = rw (eq-eqb _ _ c.if-n-eq1.true)

pub returns-then-n-a : goal.returns-then-n-a
returns-then-n-a c = rw (ne_eqb _ _ c.if-n-eq1.false, c.if-n-a.true)

pub returns : goal.returns
returns c = rw (ne_eqb _ _ c.if-n-eq1.false, c.if-n-a.false)
    (ap₂ ◌&&◌ c.is_first.ensures c.is_last.ensures)
