-- Bytes fed in pieces, one after the other: over any state, and any way in which a piece more is taken. Assumes nothing.
use Rattle.std.specs.Prelude.{ℕ, List, [], ◌∷◌}

-- an account of the bytes so far, and the room that keeps the first of them
pub record State (F : Type 0) : Type 0 where
  pub feed : F
  pub room : List ℕ

module _ {S : Type 0} (next : S → List ℕ → S) where
  unfoldable pub fed_all : S → List (List ℕ) → S
  fed_all t [] = t
  fed_all t (piece ∷ pieces) = fed_all (next t piece) pieces
