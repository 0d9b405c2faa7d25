-- Spans of addresses under keys, three numbers each in a slice, that hold every range taken so far. Assumes nothing.
use Rattle.std.specs.Prelude.{◌≡◌, true, List, ℕ, ◌<◌}
use Rattle.lists.specs.Lists.{All, Pairwise}
use Rattle.sheet_ranges.specs.declared.Item.{Item}
use Rattle.sheet_ranges.specs.Items.{item_at}
use Rattle.audit_rising.specs.Rising.{Spot, spot, Beside, Clear}
use Rattle.audit_rising.specs.PassLaws.{Leaves}

-- a key takes the place of the pool
abbrev pub span_of : Item → Spot
span_of x = spot x.pool x.first x.last true

-- it meets none of n spans
abbrev pub Free : List ℕ → ℕ → Spot → Type 0
Free xs n y = (i : ℕ) → i < n → Beside (span_of (item_at xs i)) y

-- a slice, and how many spans it has
abbrev pub Spans : Type 0
Spans = List ℕ × ℕ

-- ranges that are clear of each other, and meet none of the spans
unfoldable pub Spread : Spans → List Spot → Type 0
Spread s ys = Pairwise Clear ys × All (λ y. (y.told ≡ true) × Free s.0 s.1 y) ys

-- these ranges, taken where there are n spans, leave m
abbrev pub Held : List ℕ → ℕ → List Spot → List ℕ → ℕ → Type 0
Held xs n ys us m = Leaves Spread (xs, n) ys (us, m)

-- what meets none of the new spans meets none of the old, and not the range
unfoldable pub Grown : List ℕ → ℕ → Spot → List ℕ → ℕ → Type 0
Grown xs n x us m = (y : Spot) → Free us m y → Free xs n y × Beside x y
