-- Document 02, E10, of a bridge and its spare buses: "Spare buses come right after all buses below that bridge, inside its subordinate."
-- And document 01 of a bridge without spares: its subordinate is the greatest number at or below it. Assumes nothing.
use Rattle.std.specs.Prelude.{◌≡◌, ◌⊎◌, true, List, ℕ, suc, ◌+◌, ◌≤◌, ◌<◌, drop}
use Rattle.plan_rule.specs.Records.{Function, run}
use Rattle.plan_rule.proofs.RecordLaws.{IsAt}
use Rattle.plan_rule.proofs.Preorder.{AtOrAbove}
use Rattle.plan_rule.specs.Numbering.{bridges, bus_number, subordinate_of}

-- f is a bridge, record i + 1
pub record BridgeAt (fs : List Function) (i : ℕ) (f : Function) : Type 0 where
  pub stands : IsAt fs i f
  pub is_bridge_lem : f.bridge ≡ true

-- The spare buses of the bridge f, record i + 1, are the last numbers up to its subordinate
pub record SparesLast (first : ℕ) (fs : List Function) (i : ℕ) (f : Function) : Type 0 where
  -- its secondary, what the records below it take, and its own spares
  pub after_all_below : subordinate_of first fs (suc i)
      ≡ bus_number first fs (suc i) + bridges (run (suc i) (drop (suc i) fs)) + f.spare_buses
  pub children_before : (j : ℕ) (g : Function) → BridgeAt fs j g → g.parent ≡ suc i
      → subordinate_of first fs (suc j) + f.spare_buses ≤ subordinate_of first fs (suc i)
  -- every bridge, above, below or beside, has a number before them or past them
  pub no_bridge_there : (j : ℕ) (g : Function) → BridgeAt fs j g
      → (bus_number first fs (suc j) + f.spare_buses ≤ subordinate_of first fs (suc i))
      ⊎ (subordinate_of first fs (suc i) < bus_number first fs (suc j))

-- A bridge at or below record k that has the number n
pub record NumberBelow (first : ℕ) (fs : List Function) (k n : ℕ) : Type 0 where
  pub index : ℕ
  pub function : Function
  pub bridge : BridgeAt fs index function
  pub at_or_below : AtOrAbove fs k (suc index)
  pub number_is : bus_number first fs (suc index) ≡ n

-- n is "the greatest number at or below" record k
pub record GreatestBelow (first : ℕ) (fs : List Function) (k n : ℕ) : Type 0 where
  pub at_most : (j : ℕ) (g : Function) → BridgeAt fs j g → AtOrAbove fs k (suc j) → bus_number first fs (suc j) ≤ n
  pub reached : NumberBelow first fs k n
