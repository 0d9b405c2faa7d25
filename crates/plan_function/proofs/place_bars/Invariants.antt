-- `place_bars` meets its contract. The loop's invariant is `Placing`: what is stored, with what the slots from i on come to from the
-- cursors at i, is the answer. The measure is what is left of the first n read-backs. Assumes nothing.
use Prim.Native.Nat.{◌-◌}
use Rattle.plan_function.specs.Kept.{ends_of}
use Rattle.plan_function.proofs.KeptLaws.{Placing}
use Rattle.plan_function.proofs.place_bars.Given as goal

abbrev pub invariant-loop-i : goal.invariant-loop-i
invariant-loop-i l = Placing l.set l.n (ends_of l.initial.at) l.values l.at l.i

abbrev pub decreases-loop-i : goal.decreases-loop-i
decreases-loop-i l = l.n - l.i
