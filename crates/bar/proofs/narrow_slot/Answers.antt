-- `bar::narrow_slot`: a read-back of 32 bits, by its four cases. Assumes nothing.
use mathlib.Core.Path.{refl, sym, ◌∙◌}
use borrow.Author.Tests.{eq-eqb, ne_eqb}
use Rattle.bar.specs.Bar.{narrow_slot}
use Rattle.bar.proofs.narrow_slot.Goals as goal

pub returns-then-r-eq0 : goal.returns-then-r-eq0
unfolding narrow_slot
returns-then-r-eq0 c = simp (eq-eqb _ _ c.if-r-eq0.true)

pub returns-then-is_io : goal.returns-then-is_io
unfolding narrow_slot
returns-then-is_io c = simp (ne_eqb _ _ c.if-r-eq0.false, sym c.is_io.ensures ∙ c.if-is_io.true)
    c.io_slot.ensures

pub returns-then-r-ne0 : goal.returns-then-r-ne0
unfolding narrow_slot
returns-then-r-ne0 c = simp (
  ne_eqb _ _ c.if-r-eq0.false,
  sym c.is_io.ensures
      ∙ c.if-is_io.false,
  ne_eqb _ _ c.if-r-ne0.true,
)

pub returns : goal.returns
unfolding narrow_slot
returns c = simp (ne_eqb _ _ c.if-r-eq0.false, sym c.is_io.ensures ∙ c.if-is_io.false, eq-eqb _ _ c.if-r-ne0.false)
    (rw (← c.size_of.ensures 32 7 refl refl) c.sized.ensures)
