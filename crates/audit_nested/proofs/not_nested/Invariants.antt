-- `audit_nested::not_nested`: the loop over the records. Invariant: one from record k on has a range outside just where one of all has.
-- Assumes nothing.
use mathlib.Core.Path.{◌≡◌}
use lib.ListN.{length}
use Rattle.lists.specs.Lists.{any}
use Rattle.sheet.specs.Sheet.{entries_from, entries_of, record_at}
use Rattle.audit_rule.specs.Audit.{outside_above}
use Rattle.audit_nested.proofs.not_nested.Given as goal

abbrev pub invariant-loop-k : goal.invariant-loop-k
invariant-loop-k l =
    (length l.own ≡ 18)
    × (length l.above ≡ 18)
    × (any (outside_above l.nesting l.host (entries_of l.sheet)) (entries_from l.sheet (record_at l.k))
    ≡ any (outside_above l.nesting l.host (entries_of l.sheet)) (entries_of l.sheet))
