-- Document 03, E15, "Promise", for sound bus numbers, by record numbers: what becomes of a packet by ID from function k. Who has the ID, and
-- which bridges stand above a function, is handed in, so that it is said the same of a planned board and of any accepted sheet. Assumes
-- nothing.
use Rattle.std.specs.Prelude.{◌≡◌, ◌↔◌, true, List, ℕ, ◌+◌, length}
use Rattle.lists.specs.Lists.{◌∈◌}
use Rattle.walk.specs.Ranges.{Holds}
use Rattle.walk.specs.Registers.{Node}
use Rattle.walk.specs.Walk.{no_owner}
use Rattle.walk.specs.Good.{bus_range}
use Rattle.walk.specs.Climb.{Sent, arrives, leaves, stops}
use Rattle.walk.specs.Cards.{without}

-- a bridge on the root bus has the ID's bus among its buses
pub record RootLeads (root target : ℕ) (ns : List Node) : Type 0 where
  pub bridge : Node
  pub in_sheet : bridge ∈ ns
  pub is_bridge_lem : bridge.bridge ≡ true
  pub on_root_lem : bridge.bus ≡ root
  pub buses_hold_lem : Holds (bus_range bridge) target

-- `Has j`: function j has the ID; `above j`: the bridges above it, the nearest first; `Leads`: some bridge on the root bus leads to the ID's
module _ (Has : ℕ → Type 0) (above : ℕ → List ℕ) (Leads : Type 0) where
  -- "delivered to function j exactly when j has the ID and is not k"
  abbrev pub GoesTo : ℕ → ℕ → Type 0
  GoesTo k j = Has j × ¬ (j ≡ k)

  -- "it goes to the host exactly when no function has the ID and no bridge on the root bus has the ID's bus among its buses"
  abbrev pub GoesToHost : Type 0
  GoesToHost = ((j : ℕ) → ¬ Has j) × ¬ Leads

  -- "It crosses exactly the bridges above the one and not above the other"
  abbrev pub crossed_up : ℕ → ℕ → List ℕ
  crossed_up k j = without (above j) (above k)

  abbrev pub crossed_down : ℕ → ℕ → List ℕ
  crossed_down k j = without (above k) (above j)

  pub record AnswersById (k : ℕ) (o : Sent) : Type 0 where
    -- "both ways counted"
    pub arrives_exactly : (j count : ℕ)
        → (o ≡ arrives j count) ↔ (GoesTo k j × (count ≡ length (crossed_up k j) + length (crossed_down k j)))
    pub leaves_exactly : (count : ℕ) → (o ≡ leaves count) ↔ (GoesToHost × (count ≡ length (above k)))
    -- "else it is 40; never 41"
    pub else_no_owner : ((j : ℕ) → ¬ GoesTo k j) → ¬ GoesToHost → o ≡ stops no_owner
    pub no_other_number : (n : ℕ) → o ≡ stops n → n ≡ no_owner
