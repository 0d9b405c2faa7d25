-- `audit_disjoint::meets_later`: the loop over the later records. Invariant: one from j on is met just where one of all is. Assumes
-- nothing.
use mathlib.Core.Path.{◌≡◌}
use lib.ListN.{length}
use Rattle.lists.specs.Lists.{any}
use Rattle.sheet.specs.Sheet.{entries_from, record_at}
use Rattle.sheet_ranges.specs.Items.{ranges_in}
use Rattle.audit_disjoint.specs.Disjoint.{overlaps_on}
use Rattle.audit_disjoint.proofs.meets_later.Given as goal

abbrev pub invariant-loop-j : goal.invariant-loop-j
invariant-loop-j l =
    (length l.room ≡ 18)
    × (any (overlaps_on l.bus (ranges_in l.n l.own)) (entries_from l.sheet (record_at l.j))
    ≡ any (overlaps_on l.bus (ranges_in l.n l.own)) (entries_from l.sheet (record_at l.from)))
