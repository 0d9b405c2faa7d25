-- `bar::wide_slot`: a 64-bit read-back on the joined bits, in the high pool or the low one. Assumes nothing.
use mathlib.Core.Path.{◌≡◌, refl}
use borrow.Author.Tests.{eq-eqb, ne_eqb}
use Rattle.bar.specs.Bar.{joined, wide_slot}
use Rattle.bar.proofs.wide_slot.Goals as goal

pub returns-then-r-eq1 : goal.returns-then-r-eq1
unfolding wide_slot
returns-then-r-eq1 c = let j : c.joined.result ≡ joined c.args.r c.args.upper = c.joined.ensures.0 in
    let z = rw j at (c.size_of-size.ensures 64 7 refl refl) in
    simp (eq-eqb _ _ c.if-r-eq1.true) (rw (← z) c.sized.ensures)

pub returns-else-r-eq1 : goal.returns-else-r-eq1
unfolding wide_slot
returns-else-r-eq1 c = let j : c.joined.result ≡ joined c.args.r c.args.upper = c.joined.ensures.0 in
    let z = rw j at (c.size_of-size.ensures 64 7 refl refl) in
    simp (ne_eqb _ _ c.if-r-eq1.false) (rw (← z) c.sized-else-r-eq1.ensures)
