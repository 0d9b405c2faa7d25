-- `bar::is_lawful`: the loop. Invariant: what is left from i on is unlawful just where the whole set is.
-- Measure: the places left of six. Assumes nothing.
use mathlib.Core.Path.{◌≡◌}
use Prim.Native.Nat.{◌-◌}
use lib.ListN.{take, drop}
use Rattle.bar.specs.Bar.{any_bad, slots}
use Rattle.bar.proofs.is_lawful.Given as goal

abbrev pub invariant-loop-i : goal.invariant-loop-i
invariant-loop-i l = any_bad (slots (drop l.i (take l.n l.set))) ≡ any_bad (slots (take l.n l.set))

abbrev pub decreases-loop-i : goal.decreases-loop-i
decreases-loop-i l = 6 - l.i
