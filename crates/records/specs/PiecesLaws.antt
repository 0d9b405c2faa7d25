-- What each piece keeps of a state and of the bytes fed so far, all pieces keep, wherever the cuts fall. Assumes nothing.
use Rattle.std.specs.Prelude.{ℕ}
use mathlib.Core.List.{List, [], ◌∷◌, ◌++◌, append-nil, append_assoc, flatten}
use Rattle.records.specs.Pieces.{fed_all}

module _ {S : Type 0} (next : S → List ℕ → S) (Fed : List ℕ → S → Type 0)
    (more : (s : List ℕ) (t : S) → Fed s t → (piece : List ℕ) → Fed (s ++ piece) (next t piece)) where
  pub fed_all_lem : (s : List ℕ) (t : S) (pieces : List (List ℕ)) → Fed s t → Fed (s ++ flatten pieces) (fed_all next t pieces)
  unfolding fed_all flatten
  fed_all_lem s t [] f = rw (append-nil s) f
  fed_all_lem s t (piece ∷ pieces) f =
      rw (← append_assoc s piece (flatten pieces)) (fed_all_lem (s ++ piece) (next t piece) pieces (more s t f piece))
