-- `audit_nested::any_outside`: the loop over the ranges. Invariant: one from i on lies in none above just where one of all does. Assumes
-- nothing.
use mathlib.Core.Path.{◌≡◌}
use Prim.Native.Nat.{◌-◌}
use Rattle.lists.specs.Lists.{any}
use Rattle.sheet_ranges.specs.Items.{ranges_from, ranges_in}
use Rattle.audit_rule.specs.Audit.{outside_all}
use Rattle.audit_nested.proofs.any_outside.Given as goal

abbrev pub invariant-loop-i : goal.invariant-loop-i
invariant-loop-i l =
    any (outside_all l.nesting (ranges_in l.m l.above)) (ranges_from l.own l.i (l.n - l.i)) ≡ any (outside_all l.nesting (ranges_in l.m l.above)) (ranges_in l.n l.own)
