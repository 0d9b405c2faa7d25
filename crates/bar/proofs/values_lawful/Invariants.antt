-- `bar::values_lawful`: the loop. Invariant: the values are lawful from i on just where they all are.
-- Measure: the places left of six. Assumes nothing.
use mathlib.Core.Path.{◌≡◌}
use Prim.Native.Nat.{◌-◌}
use lib.ListN.{take}
use Rattle.bar.specs.Values.{values_lawful}
use Rattle.bar.specs.ValuesLaws.{values_from}
use Rattle.bar.proofs.values_lawful.Given as goal

abbrev pub invariant-loop-i : goal.invariant-loop-i
invariant-loop-i l = values_from (take l.n l.set) (take l.n l.values) l.i ≡ values_lawful (take l.n l.set) (take l.n l.values)

abbrev pub decreases-loop-i : goal.decreases-loop-i
decreases-loop-i l = 6 - l.i
