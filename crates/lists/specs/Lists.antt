-- What the definitions say of lists: all elements, some element, all pairs in order, one element on a condition, the elements that pass a
-- test, the longest front that does. Assumes nothing.
use Rattle.std.specs.Prelude.{◌≡◌, ◌⊎◌, Bool, false, cond, ◌||◌}
use mathlib.Core.List.{List, [], ◌∷◌, Memᴰ}

module _ {A : Type 0} where
  infix 5 ◌∈◌
  abbrev pub ◌∈◌ : A → List A → Type 0
  x ∈ xs = Memᴰ x xs

  -- Every element has P
  abbrev pub All : (A → Type 0) → List A → Type 0
  All P [] = Unit {0}
  All P (x ∷ xs) = P x × All P xs

  -- Some element has P
  abbrev pub Some : (A → Type 0) → List A → Type 0
  Some P [] = ⊥
  Some P (x ∷ xs) = P x ⊎ Some P xs

  -- Every element stands in R to every later one
  abbrev pub Pairwise : (A → A → Type 0) → List A → Type 0
  Pairwise R [] = Unit {0}
  Pairwise R (x ∷ xs) = All (R x) xs × Pairwise R xs

  abbrev pub AtMostOne : List A → Type 0
  AtMostOne xs = (xs ≡ []) ⊎ ((x : A) × (xs ≡ x ∷ []))

  -- One element, on a condition
  abbrev pub one_if : Bool → A → List A
  one_if b x = cond b (x ∷ []) []

  -- The elements that pass the test, in their order
  unfoldable pub keep : (A → Bool) → List A → List A
  keep t [] = []
  keep t (x ∷ xs) = let r = keep t xs in cond (t x) (x ∷ r) r

  -- The longest front whose elements all pass the test
  unfoldable pub front : (A → Bool) → List A → List A
  front t [] = []
  front t (x ∷ xs) = let r = front t xs in cond (t x) (x ∷ r) []

  -- Does some element pass the test?
  unfoldable pub any : (A → Bool) → List A → Bool
  any t [] = false
  any t (x ∷ xs) = t x || any t xs
