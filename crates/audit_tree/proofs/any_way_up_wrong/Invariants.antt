-- `audit_tree::any_way_up_wrong` meets its contract. Invariant: whether a record that is left has no way up is whether one of all has.
-- Assumes nothing.
use mathlib.Core.Path.{◌≡◌}
use Rattle.lists.specs.Lists.{any}
use Rattle.sheet.specs.Sheet.{entries_from, entries_of, record_at}
use Rattle.audit_rule.specs.Audit.{way_up_wrong}
use Rattle.audit_tree.proofs.any_way_up_wrong.Given as goal

abbrev pub invariant-loop-k : goal.invariant-loop-k
invariant-loop-k l =
    any (way_up_wrong l.host (entries_of l.sheet)) (entries_from l.sheet (record_at l.k)) ≡ any (way_up_wrong l.host (entries_of l.sheet)) (entries_of l.sheet)
