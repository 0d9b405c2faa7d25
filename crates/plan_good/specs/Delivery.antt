-- Demand 3's delivery for a planned board, in document 01's words: where its BARs are placed and which bridges stand above by parent
-- records. Nothing here speaks of how a walk finds its way. `planned_delivers` of DeliveryLaws proves it. Assumes nothing.
use Rattle.std.specs.Prelude.{◌≡◌, ◌↔◌, Bool, true, false, List, ℕ, ◌+◌, ◌≤◌, ◌<◌, length}
use Rattle.lists.specs.Lists.{All, Some}
use Rattle.pools.specs.declared.Space.{Space}
use Rattle.pools.specs.Pools.{in_space}
use Rattle.plan_rule.specs.Records.{Host, Function}
use Rattle.plan_rule.specs.Layout.{Placed, is_window}
use Rattle.plan_rule.specs.Placing.{placed}
use Rattle.plan_rule.specs.Above.{above_by_parents}
use Rattle.walk.specs.Walk.{Outcome, delivered, refused}

-- x is a BAR of record k in the space, and holds the address: its size in addresses from where it is placed
pub record BarHolds (sp : Space) (k address : ℕ) (x : Placed) : Type 0 where
  pub owner_is : x.piece.owner ≡ k
  pub is_bar_lem : is_window x.piece.part ≡ false
  pub in_space_lem : in_space sp x.piece.pool ≡ true
  pub from_start : x.start ≤ address
  pub before_end : address < x.start + x.piece.size

-- Record k has a BAR that holds the address, and it and each bridge above it have the space enabled
pub record OwnsAsPlaced (sp : Space) (h : Host) (fs : List Function) (enabled : ℕ → Bool) (address k : ℕ) : Type 0 where
  pub bar_holds_lem : Some (BarHolds sp k address) (placed h fs)
  pub is_enabled : enabled k ≡ true
  pub bridges_enabled : All (λ b. enabled b ≡ true) (above_by_parents fs k)

-- What a request with this start address comes to
pub record DeliversAsPlaced (sp : Space) (h : Host) (fs : List Function) (enabled : ℕ → Bool) (address : ℕ) (outcome : Outcome)
    : Type 0 where
  pub delivered_exactly : (k count : ℕ)
      → (outcome ≡ delivered k count) ↔ (OwnsAsPlaced sp h fs enabled address k × (count ≡ length (above_by_parents fs k)))
  pub else_no_owner : (outcome ≡ refused 40) ↔ ((k : ℕ) → OwnsAsPlaced sp h fs enabled address k → ⊥)
  pub one_owner : (j k : ℕ) → OwnsAsPlaced sp h fs enabled address j → OwnsAsPlaced sp h fs enabled address k → j ≡ k
  pub never_contested : outcome ≡ refused 41 → ⊥
