-- `sheet::any_breaks` meets its contract. Invariant: whether a record from record k on breaks the rule is whether one of the sheet does.
-- Assumes nothing.
use Rattle.std.proofs.Common.{◌≡◌}
use Rattle.sheet.specs.Sheet.{entries_from, any_breaks, record_at}
use Rattle.sheet.proofs.any_breaks.Given as goal

abbrev pub invariant-loop-k : goal.invariant-loop-k
invariant-loop-k l = any_breaks l.rule (entries_from l.sheet (record_at l.k)) ≡ any_breaks l.rule (entries_from l.sheet 1)
