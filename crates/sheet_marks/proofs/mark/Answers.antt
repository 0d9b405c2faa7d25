-- `sheet_marks::mark` meets its contract: `1 << k` is a power of two, since k is below 64. Assumes nothing.
use Prim.Native.Nat.{◌%◌}
use native.Mathlib.Nat.{mod-lt, zero-lt-suc}
use Rattle.sheet_marks.specs.Marks.{marked}
use Rattle.sheet_marks.specs.MarksLaws.{shift_one}
use Rattle.sheet_marks.proofs.mark.Goals as goal

pub returns : goal.returns
unfolding marked
returns c = rw (c.from-word.ensures, shift_one (c.args.id % 64) (mod-lt c.args.id (zero-lt-suc 63)))
