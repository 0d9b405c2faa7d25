-- `audit_tree::shared_with_later` meets its contract. Invariant: whether one of the records that are left shares a bus with this one is
-- whether one of all after it does. Assumes nothing.
use mathlib.Core.Path.{◌≡◌}
use Prim.Native.Nat.{◌+◌}
use Rattle.lists.specs.Lists.{any}
use Rattle.sheet_record.specs.Entry.{entry_of}
use Rattle.sheet.specs.Sheet.{entries_from, part_at, record_at}
use Rattle.audit_rule.specs.Audit.{buses_shared}
use Rattle.audit_tree.proofs.shared_with_later.Given as goal

abbrev pub invariant-loop-j : goal.invariant-loop-j
invariant-loop-j l =
    any (buses_shared (entry_of l.part)) (entries_from l.sheet (record_at l.j))
    ≡ any (buses_shared (entry_of (part_at l.sheet l.k))) (entries_from l.sheet (record_at (l.k + 1)))
