-- `audit_disjoint::overlaps_any`: the loop over the others. Invariant: one from j on is overlapped just where one of all is. Assumes
-- nothing.
use mathlib.Core.Path.{◌≡◌}
use Prim.Native.Nat.{◌-◌}
use Rattle.lists.specs.Lists.{any}
use Rattle.sheet_ranges.specs.Ranges.{overlap}
use Rattle.sheet_ranges.specs.Items.{range_of, ranges_from}
use Rattle.audit_disjoint.proofs.overlaps_any.Given as goal

abbrev pub invariant-loop-j : goal.invariant-loop-j
invariant-loop-j l =
    any (overlap (range_of l.a)) (ranges_from l.others l.j (l.m - l.j)) ≡ any (overlap (range_of l.a)) (ranges_from l.others l.from (l.m - l.from))
