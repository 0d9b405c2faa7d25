-- Laws of the tally: what its answers say of the claims, and what a search that stops at the second claim goes by. Assumes nothing.
use Rattle.std.specs.Prelude.{◌≡◌, Bool, true, ℕ}
use Rattle.walk.specs.Ranges.{Holds}
use Rattle.walk.specs.Registers.{Item}

-- An item that claims: what the test says, as facts.
pub record Claims (enabled : ℕ → Bool) (address bus : ℕ) (i : Item) : Type 0 where
  pub on_bus_lem : i.owner.node.bus ≡ bus
  pub is_enabled : enabled i.owner.node.number ≡ true
  pub in_range : Holds i.range address
