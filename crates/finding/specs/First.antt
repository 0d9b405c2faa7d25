-- The first element of a list that passes a test. Assumes nothing.
use Rattle.std.specs.Prelude.{Bool, cond, List, [], ◌∷◌}

module _ {A B : Type 0} where
  -- what is said of the first element that passes the test, or else this
  unfoldable pub first : (A → Bool) → (A → B) → B → List A → B
  first t say else_this [] = else_this
  first t say else_this (x ∷ xs) = let later = first t say else_this xs in cond (t x) (say x) later
