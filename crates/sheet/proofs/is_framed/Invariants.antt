-- `sheet::is_framed` meets its contract. Invariant: what is left from record k on is framed where the sheet is. Assumes nothing.
use Rattle.std.proofs.Common.{◌≡◌, drop}
use Rattle.sheet.specs.Sheet.{is_framed, record_at}
use Rattle.sheet.proofs.is_framed.Given as goal

abbrev pub invariant-loop-k : goal.invariant-loop-k
invariant-loop-k l = is_framed (drop (record_at l.k) l.sheet) ≡ is_framed (drop 1 l.sheet)
