-- Demand 3, "bus ranges, BARs and open windows lie within their parent's, and siblings never overlap", in document 01's words: the parent
-- is the bridge just above, or the host; siblings share a bus. Assumes nothing.
use Rattle.std.specs.Prelude.{◌≡◌, ◌⊎◌, true, List, suc}
use Rattle.lists.specs.Lists.{All, Some, Pairwise}
use Rattle.pools.specs.declared.Space.{Space}
use Rattle.pools.specs.Pools.{in_space}
use Rattle.plan_rule.specs.Records.{Host, Function}
use Rattle.plan_rule.specs.Layout.{Placed}
use Rattle.plan_rule.proofs.LayoutLaws.{Within}
use Rattle.plan_rule.specs.Placing.{placed}
use Rattle.plan_rule.proofs.Placed.{Holds}
use Rattle.plan_rule.specs.Numbering.{Numbered}
use Rattle.plan_rule.specs.Siblings.{bus_of, Disjoint}
use Rattle.plan_good.specs.Registers.{plan_rows}
use Rattle.plan_good.specs.BusRanges.{BusesWithin, BusesBefore}

-- y is the bridge just above the bridge x, and its numbers take in x's
pub record InBridge (x y : Numbered) : Type 0 where
  pub parent_is : y.number ≡ x.parent
  pub is_bridge_lem : y.bridge ≡ true
  pub on_its_bus : x.bus ≡ y.secondary
  pub within : BusesWithin y.secondary y.subordinate x

-- Below the host: on its first bus, with numbers that it has
pub record InHost (h : Host) (x : Numbered) : Type 0 where
  pub parent_is : x.parent ≡ 0
  pub on_first_bus : x.bus ≡ h.first_bus
  pub within : BusesWithin h.first_bus h.last_bus x

-- On the root bus: in the pool of its kind
pub record InPool (h : Host) (x : Placed) : Type 0 where
  pub parent_is : x.piece.bus ≡ 0
  pub within : Within (h.base x.piece.pool) (suc (h.last x.piece.pool)) x

-- Both are of the space and on one bus
pub record Siblings (sp : Space) (h : Host) (fs : List Function) (x y : Placed) : Type 0 where
  pub one_bus : bus_of h.first_bus fs x ≡ bus_of h.first_bus fs y
  pub in_space_lem : in_space sp x.piece.pool ≡ true
  pub also_in_space : in_space sp y.piece.pool ≡ true

-- `placed h fs` is all BARs and open windows, `Holds x w` says that w is the window of x's kind just above x, and that x lies in it
pub record NestedAndApart (h : Host) (fs : List Function) : Type 0 where
  pub bus_ranges_in_parent : All (λ x. x.bridge ≡ true → InHost h x ⊎ Some (InBridge x) (plan_rows h fs)) (plan_rows h fs)
  pub bars_and_windows_in_parent : All (λ x. InPool h x ⊎ Some (Holds x) (placed h fs)) (placed h fs)
  pub bus_ranges_apart : Pairwise
      (λ x y. x.bridge ≡ true → y.bridge ≡ true → x.bus ≡ y.bus → BusesBefore x y ⊎ BusesBefore y x)
      (plan_rows h fs)
  pub bars_and_windows_apart : (sp : Space) → Pairwise (λ x y. Siblings sp h fs x y → Disjoint x y) (placed h fs)
