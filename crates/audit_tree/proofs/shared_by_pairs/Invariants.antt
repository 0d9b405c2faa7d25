-- `audit_tree::shared_by_pairs` meets its contract. Invariant: whether two of the records that are left share a bus is whether two of all
-- do. Assumes nothing.
use mathlib.Core.Path.{◌≡◌}
use Rattle.sheet.specs.Sheet.{entries_from, entries_of, record_at}
use Rattle.audit_rule.specs.Audit.{any_pair, buses_shared}
use Rattle.audit_tree.proofs.shared_by_pairs.Given as goal

abbrev pub invariant-loop-k : goal.invariant-loop-k
invariant-loop-k l = any_pair buses_shared (entries_from l.sheet (record_at l.k)) ≡ any_pair buses_shared (entries_of l.sheet)
