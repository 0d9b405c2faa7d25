-- `audit_rising::take_ranges`: the loop over a function's ranges. Invariant: where those from i on are taken from here, all are taken from
-- the start. Assumes nothing.
use mathlib.Core.Path.{◌≡◌}
use mathlib.Core.List.{List, map}
use Prim.Native.Nat.{ℕ, ◌-◌}
use lib.ListN.{length}
use Rattle.sheet_ranges.specs.Items.{ranges_from, ranges_in}
use Rattle.audit_rising.specs.Rising.{Takes}
use Rattle.audit_rising.specs.Spots.{spot_of}
use Rattle.audit_rising.proofs.take_ranges.Given as goal

abbrev pub invariant-loop-i : goal.invariant-loop-i
invariant-loop-i l =
    (length l.table ≡ 768)
    × ((v : List ℕ) → Takes l.table (map (spot_of l.bus) (ranges_from l.own l.i (l.n - l.i))) v → Takes l.initial.table (map (spot_of l.bus) (ranges_in l.n l.own)) v)
