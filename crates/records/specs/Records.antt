-- Document 01: "Then records; each has a two-byte length first; numbers are big-endian; each record is read as the part after its own
-- length." Assumes nothing.
use Rattle.std.specs.Prelude.{ℕ, zero, suc, ◌+◌, ◌*◌, Bool, true, false, cond, ◌||◌, List, [], ◌∷◌, length, take, drop, ltb}
use Rattle.records.specs.declared.Next.{Next}
use Rattle.records.specs.declared.Next.TheVariants.{End, Record, Broken}

-- what bytes start with
unfoldable pub next_of : List ℕ → Next
next_of [] = End
next_of (a ∷ []) = Broken
next_of (a ∷ b ∷ s) = cond (ltb (length s) (a * 256 + b)) Broken (Record (a * 256 + b))

-- the parts of the records in order, and whether their lengths end at the end; where they do not, the parts are those before the break
pub record Parts : Type 0 where
  pub parts : List (List ℕ)
  pub whole : Bool

abbrev pub after : List ℕ → Parts → Parts
after part rest = record { parts = part ∷ rest.parts; whole = rest.whole }

-- one record, with the parts of what follows it handed in
abbrev pub step : Next → List ℕ → (List ℕ → Parts) → Parts
step End s rest = record { parts = []; whole = true }
step Broken s rest = record { parts = []; whole = false }
step (Record n) s rest = after (take n (drop 2 s)) (rest (drop (2 + n) s))

-- of fewer than n records
unfoldable pub parts_over : ℕ → List ℕ → Parts
parts_over zero s = record { parts = []; whole = false }
parts_over (suc n) s = step (next_of s) s (parts_over n)

-- there are no more records than bytes
unfoldable pub parts_of : List ℕ → Parts
parts_of s = parts_over (suc (length s)) s

-- the parts that a pass with its cursor at a place has left
abbrev pub parts_from : List ℕ → ℕ → List (List ℕ)
parts_from s at = (parts_of (drop at s)).parts

-- the bytes of records with these parts
unfoldable pub total : List (List ℕ) → ℕ
total [] = 0
total (part ∷ parts) = 2 + length part + total parts

-- some part passes the test
unfoldable pub any_part : (List ℕ → Bool) → List (List ℕ) → Bool
any_part test [] = false
any_part test (part ∷ parts) = test part || any_part test parts
