-- The bridges above a bus, told by bus numbers: none on the root bus, else the bridge whose secondary it is, and then the bridges above
-- that one. Assumes nothing.
use Rattle.std.specs.Prelude.{◌≡◌, Bool, true, false, ◌&&◌, List, [], ◌∷◌, ℕ, zero, suc, eqb}
use Rattle.lists.specs.Lists.{◌∈◌, keep}
use Rattle.walk.specs.Registers.{Node}

-- a bridge whose secondary bus it is
abbrev pub is_above : ℕ → Node → Bool
is_above bus n = n.bridge && eqb n.secondary bus

-- the bridges that lead to a bus
abbrev pub bridges_to : ℕ → List Node → List Node
bridges_to bus ns = keep (is_above bus) ns

pub record LeadsTo (bus : ℕ) (ns : List Node) (b : Node) : Type 0 where
  pub in_sheet : b ∈ ns
  pub is_bridge_lem : b.bridge ≡ true
  pub leads : b.secondary ≡ bus

-- The bridges on a way from a bus up to another, the nearest to the lower bus first.
unfoldable pub Above : ℕ → List Node → ℕ → List Node → Type 0
Above top ns bus [] = bus ≡ top
Above top ns bus (b ∷ bs) = LeadsTo bus ns b × Above top ns b.bus bs

-- One step upstream: on the root bus the way ends, else it goes on from the first of the bridges that lead here, by the way up handed in.
abbrev pub upstream : Bool → List Node → (ℕ → List Node) → List Node
upstream true leading up = []
upstream false [] up = []
upstream false (b ∷ bs) up = b ∷ up b.bus

unfoldable pub above_over : ℕ → ℕ → List Node → ℕ → List Node
above_over zero root ns bus = []
above_over (suc n) root ns bus = upstream (eqb bus root) (bridges_to bus ns) (λ b. above_over n root ns b)

-- Bus numbers fall on the way up, so the bus's own number bounds it (`above_is`).
unfoldable pub above : ℕ → List Node → ℕ → List Node
above root ns bus = above_over bus root ns bus
