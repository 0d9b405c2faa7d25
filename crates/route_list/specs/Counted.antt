-- Document 02, E1: numbers in order. A broadcast's list has the record numbers of the sheet, those from 1 on. Assumes nothing.
use Rattle.std.specs.Prelude.{List, [], ◌∷◌, ℕ, zero, suc, ◌+◌}

-- the n numbers from k on
unfoldable pub counted : ℕ → ℕ → List ℕ
counted k zero = []
counted k (suc n) = k ∷ counted (k + 1) n
