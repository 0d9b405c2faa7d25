-- Delivery by ID for a planned board, in document 01's words: which bus a function is on by the numbering rule, and which bridges stand
-- above by parent records. Nothing here speaks of how a walk finds its way. `planned_delivers_by_id` of ByIdLaws proves it. Assumes
-- nothing.
use Rattle.std.specs.Prelude.{◌≡◌, ◌↔◌, List, reverse, ℕ, ◌+◌, ◌*◌, ◌≤◌, length}
use Rattle.plan_rule.specs.Records.{Host, Function}
use Rattle.plan_rule.specs.Preorder.{parent_of}
use Rattle.plan_rule.specs.Numbering.{bus_number}
use Rattle.walk.specs.Tally.{Tally}
use Rattle.walk.specs.Walk.{delivered, refused, walk_from, Trail}
use Rattle.plan_rule.specs.Above.{above_by_parents}

-- The number of the bus that record k is on, the one below its parent: the first bus below the host, else the bridge's secondary
abbrev pub bus_of : Host → List Function → ℕ → ℕ
bus_of h fs k = bus_number h.first_bus fs (parent_of fs k)

-- Record k of those numbered from 1 has the ID. `devfn` is the device/function byte of each record, by its number
pub record HasIdAsNumbered (h : Host) (fs : List Function) (devfn : ℕ → ℕ) (id k : ℕ) : Type 0 where
  pub from_1 : 1 ≤ k
  pub in_list : k ≤ length fs
  pub id_is : id ≡ bus_of h fs k * 256 + devfn k

-- What a packet for this ID comes to, from the first bus on, where the buses have this tally
pub record DeliversAsNumbered (h : Host) (fs : List Function) (devfn : ℕ → ℕ) (id : ℕ) (tally : ℕ → Tally) : Type 0 where
  pub delivered_exactly : (k count : ℕ)
      → (walk_from tally h.first_bus 0 ≡ delivered k count) ↔ (HasIdAsNumbered h fs devfn id k × (count ≡ length (above_by_parents fs k)))
  pub else_no_owner : (walk_from tally h.first_bus 0 ≡ refused 40) ↔ ((k : ℕ) → ¬ HasIdAsNumbered h fs devfn id k)
  pub one_owner : (j k : ℕ) → HasIdAsNumbered h fs devfn id j → HasIdAsNumbered h fs devfn id k → j ≡ k
  pub crosses_above : (k : ℕ) → HasIdAsNumbered h fs devfn id k → Trail tally h.first_bus (reverse (above_by_parents fs k)) k
