-- `sheet::id_twice` meets its contract. Invariant: exactly the IDs of the records before record k are marked. Assumes nothing.
use Rattle.std.proofs.Common.{◌≡◌, length}
use Rattle.sheet.specs.Sheet.{record_at}
use Rattle.sheet.specs.ReadSoFar.{ReadSoFar}
use Rattle.sheet.proofs.id_twice.Given as goal

abbrev pub invariant-loop-k : goal.invariant-loop-k
invariant-loop-k l = record { read : ReadSoFar l.sheet (record_at l.k) l.seen; room : length l.seen ≡ 1024 }
