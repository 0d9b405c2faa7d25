-- `audit_disjoint::overlaps_by_pairs`: the loop over the records. Invariant: there is an overlap from record k on just where there is one.
-- Assumes nothing.
use mathlib.Core.Path.{◌≡◌}
use Rattle.sheet.specs.Sheet.{entries_from, entries_of, record_at}
use Rattle.audit_rule.specs.Audit.{not_disjoint}
use Rattle.audit_disjoint.proofs.overlaps_by_pairs.Given as goal

abbrev pub invariant-loop-k : goal.invariant-loop-k
invariant-loop-k l = not_disjoint (entries_from l.sheet (record_at l.k)) ≡ not_disjoint (entries_of l.sheet)
