-- `audit_disjoint::any_overlap`: the loop over the first ranges. Invariant: one from i on overlaps one of the others just where one of all
-- does. Assumes nothing.
use mathlib.Core.Path.{◌≡◌}
use Prim.Native.Nat.{◌-◌}
use Rattle.sheet_ranges.specs.Items.{ranges_from, ranges_in}
use Rattle.audit_rule.specs.Audit.{any_overlap}
use Rattle.audit_disjoint.proofs.any_overlap.Given as goal

abbrev pub invariant-loop-i : goal.invariant-loop-i
invariant-loop-i l = any_overlap (ranges_from l.own l.i (l.n - l.i)) (ranges_in l.m l.others) ≡ any_overlap (ranges_in l.n l.own) (ranges_in l.m l.others)
