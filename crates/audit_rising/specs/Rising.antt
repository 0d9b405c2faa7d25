-- Ranges under keys that rise: each starts where those before it under its key stop, or later. Assumes nothing.
use Rattle.std.specs.Prelude.{◌≡◌, ◌⊎◌, Bool, true, List, [], ◌∷◌, ◌++◌, ℕ, suc, ◌≤◌, ◌<◌, length, get_or, set}

-- a range, and whether the pass may tell of it
pub record Spot : Type 0 where
  pub key : ℕ
  pub start : ℕ
  pub stop : ℕ
  pub told : Bool

-- by its last number
abbrev pub spot : ℕ → ℕ → ℕ → Bool → Spot
spot key first last told = record { key = key; start = first; stop = suc last; told = told }

-- the table has at each key the first number that is not yet taken
pub record Fits (table : List ℕ) (x : Spot) : Type 0 where
  pub in_table : x.key < length table
  pub above : get_or table x.key 0 ≤ x.start
  pub some : x.start < x.stop
  pub is_told : x.told ≡ true

abbrev pub Rising : List ℕ → List Spot → Type 0
Rising table [] = Unit {0}
Rising table (x ∷ xs) = Fits table x × Rising (set table x.key x.stop) xs

-- these rise from the one table, and leave the other
abbrev pub Takes : List ℕ → List Spot → List ℕ → Type 0
Takes table xs left = (ys : List Spot) → Rising left ys → Rising table (xs ++ ys)

-- ## Two of them

-- one starts where the other stops, or later
abbrev pub Beside : Spot → Spot → Type 0
Beside x y = x.key ≡ y.key → (x.stop ≤ y.start) ⊎ (y.stop ≤ x.start)

abbrev pub Clear : Spot → Spot → Type 0
Clear x y = (x.told ≡ true) × (y.told ≡ true) × Beside x y
