-- Insertion in order of keys, over anything that has one. Assumes nothing.
use Rattle.std.specs.Prelude.{cond, List, [], ◌∷◌, ℕ, leb}

module _ {A : Type 0} (key : A → ℕ) where
  -- before the first whose key is above its own
  unfoldable pub insert : A → List A → List A
  insert x [] = x ∷ []
  insert x (y ∷ ys) = let rest = insert x ys in cond (leb (key y) (key x)) (y ∷ rest) (x ∷ y ∷ ys)

  -- one after the other
  unfoldable pub inserted : List A → List A → List A
  inserted ys [] = ys
  inserted ys (x ∷ xs) = inserted (insert x ys) xs
