-- `audit_spans::hold_ranges`: the loop over a function's ranges. Invariant: where those from i on are held from here, all are held from the
-- start. Assumes nothing.
use mathlib.Core.Path.{◌≡◌}
use mathlib.Core.List.{map}
use Prim.Native.Nat.{◌-◌, ◌≤◌}
use lib.ListN.{length}
use Rattle.sheet_ranges.specs.Items.{ranges_from, ranges_in}
use Rattle.audit_rising.specs.Spots.{spot_of}
use Rattle.audit_rising.specs.PassLaws.{Leaves}
use Rattle.audit_spans.specs.Spans.{Spans, Spread}
use Rattle.audit_spans.proofs.hold_ranges.Given as goal

abbrev pub invariant-loop-i : goal.invariant-loop-i
invariant-loop-i l =
    (length l.spans ≡ 384)
    × (l.m ≤ 128)
    × ((v : Spans) → Leaves Spread (l.spans, l.m) (map (spot_of l.bus) (ranges_from l.own l.i (l.count - l.i))) v
    → Leaves Spread (l.initial.spans, l.n) (map (spot_of l.bus) (ranges_in l.count l.own)) v)
