-- `bar::io_slot`: an I/O read-back, its size by `size_of` at 16 bits. Assumes nothing.
use mathlib.Core.Path.{◌≡◌, refl, sym, ◌∙◌}
use mathlib.Core.Bool.{true, false}
use Rattle.bar.specs.Bar.{io_wrong, io_slot}
use Rattle.bar.proofs.io_slot.Goals as goal

pub returns-then-io_wrong : goal.returns-then-io_wrong
unfolding io_slot
returns-then-io_wrong c = let w : io_wrong c.args.r ≡ true = sym c.io_wrong.ensures ∙ c.if-io_wrong.true in
    simp w

pub returns : goal.returns
unfolding io_slot
returns c = let w : io_wrong c.args.r ≡ false = sym c.io_wrong.ensures ∙ c.if-io_wrong.false in
    simp w (rw (← c.size_of.ensures 16 2 refl refl) c.sized.ensures)
