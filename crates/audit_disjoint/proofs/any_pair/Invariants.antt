-- `audit_disjoint::any_pair`: the loop over the first of two. Invariant: two from i on overlap just where two of all do. Assumes nothing.
use mathlib.Core.Path.{◌≡◌}
use Prim.Native.Nat.{◌-◌}
use Rattle.sheet_ranges.specs.Ranges.{overlap}
use Rattle.sheet_ranges.specs.Items.{ranges_from, ranges_in}
use Rattle.audit_rule.specs.Audit.{any_pair}
use Rattle.audit_disjoint.proofs.any_pair.Given as goal

abbrev pub invariant-loop-i : goal.invariant-loop-i
invariant-loop-i l = any_pair overlap (ranges_from l.own l.i (l.n - l.i)) ≡ any_pair overlap (ranges_in l.n l.own)
