-- The records from a place on as an iterator: what it has left, and what one call gives. Assumes nothing.
use Rattle.std.specs.Prelude.{◌≡◌, ℕ, List, [], Option, MatchOption, drop}
use denote.Ref.{Bor}
use Rattle.records.specs.declared.Records.{Records}
use Rattle.records.specs.Records.{Parts, after, parts_of}

-- the parts from the cursor on, and whether their lengths end at the end
abbrev pub left_of : Records → Parts
left_of s = parts_of (drop s.at s.bytes.now)

abbrev pub parts_left : Records → List (List ℕ)
parts_left s = (left_of s).parts

-- the part at the cursor, or nothing where no part is left
abbrev pub PartsGive : Records → Option (Bor (List ℕ)) → Records → Type 0
PartsGive s r t = MatchOption r ((parts_left s ≡ []) × (left_of t ≡ left_of s)) (λ x. left_of s ≡ after x.now (left_of t))
