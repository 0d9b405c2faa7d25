-- `plan_sizing::with_bars` meets its contract. The invariant: the BARs from place i on, laid out after what is done, come to what all come
-- to. The measure is the places left. Assumes nothing.
use mathlib.Core.Path.{◌≡◌}
use mathlib.Core.Bool.{false}
use Prim.Native.Nat.{◌-◌}
use lib.ListN.{take, drop}
use Rattle.bar.specs.Bar.{slots, any_bad}
use Rattle.plan_bars.specs.Bars.{bars_from}
use Rattle.plan_sizing.specs.Cut.{says, cut, Whole, add_bars}
use Rattle.plan_sizing.specs.CutLaws.{rest_of}
use Rattle.plan_sizing.proofs.with_bars.Given as goal

abbrev pub invariant-loop-i : goal.invariant-loop-i
invariant-loop-i l =
    (Whole l.done) × ((any_bad (slots (drop l.i (take l.n l.set))) ≡ false)
    × (cut (add_bars (rest_of (take l.n l.set) l.i) (says l.done)) ≡ cut (add_bars (bars_from 0 (slots (take l.n l.set))) (says l.initial.done))))

abbrev pub decreases-loop-i : goal.decreases-loop-i
decreases-loop-i l = l.n - l.i
