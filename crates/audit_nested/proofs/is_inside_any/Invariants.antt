-- `audit_nested::is_inside_any`: the loop over those above. Invariant: it lies in one from j on just where it lies in one of all. Assumes
-- nothing.
use mathlib.Core.Path.{◌≡◌}
use Prim.Native.Nat.{◌-◌}
use Rattle.lists.specs.Lists.{any}
use Rattle.audit_rule.specs.Audit.{inside}
use Rattle.sheet_ranges.specs.Items.{range_of, ranges_from, ranges_in}
use Rattle.audit_nested.proofs.is_inside_any.Given as goal

abbrev pub invariant-loop-j : goal.invariant-loop-j
invariant-loop-j l =
    any (inside l.nesting (range_of l.a)) (ranges_from l.above l.j (l.m - l.j)) ≡ any (inside l.nesting (range_of l.a)) (ranges_in l.m l.above)
