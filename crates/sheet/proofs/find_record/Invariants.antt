-- `sheet::find_record` meets its contract. Invariant: what is found from record k on is what is found at all. Assumes nothing.
use Rattle.std.proofs.Common.{◌≡◌}
use Rattle.sheet.specs.Sheet.{entries_from, find_from, record_at}
use Rattle.sheet.proofs.find_record.Given as goal

abbrev pub invariant-loop-k : goal.invariant-loop-k
invariant-loop-k l =
    find_from l.id (record_at l.k) (entries_from l.sheet (record_at l.k)) ≡ find_from l.id 1 (entries_from l.sheet 1)
