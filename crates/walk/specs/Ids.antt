-- Document 01, The walk, by ID: on the target's bus the function with that ID, else by the bridges whose bus range holds the target's bus.
-- It is the same walk over other registers: the address is the target's bus, a bridge's window its bus range, and a function with the
-- target's device/function has its own bus as a BAR. Assumes nothing.
use Rattle.std.specs.Prelude.{◌≡◌, Bool, true, cond, ◌&&◌, List, [], ◌∷◌, map, ℕ, suc, eqb}
use Rattle.lists.specs.Lists.{◌∈◌, Pairwise, keep}
use Rattle.walk.specs.Ranges.{Range, buses, holds}
use Rattle.walk.specs.Registers.{Node, Registers, Claim, bar, window}
use Rattle.walk.specs.Tally.{Tally, none, one, join}
use Rattle.walk.specs.Good.{bus_range}

abbrev pub has_id : ℕ → ℕ → Node → Bool
has_id bus devfn n = eqb n.bus bus && eqb n.devfn devfn

-- a bridge on this bus whose range holds the target's bus
abbrev pub leads_toward : ℕ → ℕ → Node → Bool
leads_toward target bus n = eqb n.bus bus && (n.bridge && holds (bus_range n) target)

abbrev pub function_claim : Node → Claim
function_claim n = bar n.number

abbrev pub bridge_claim : Node → Claim
bridge_claim n = window n.number n.secondary

abbrev pub first_of : List Node → Tally
first_of [] = none
first_of (n ∷ ns) = one (function_claim n)

-- As document 01 says it: on the target's bus only the exact ID counts, before any bridge's range.
unfoldable pub tally_by_id : List Node → ℕ → ℕ → ℕ → Tally
tally_by_id ns target devfn bus =
    cond (eqb bus target) (first_of (keep (has_id target devfn) ns)) (join none (map bridge_claim (keep (leads_toward target bus) ns)))

abbrev pub own_bus : Node → Range
own_bus n = record { pool = buses; start = n.bus; stop = suc n.bus }

-- As registers. The range of a bridge on the target's bus starts past it (27), so there only the exact ID is claimed: `tally_by_id_agree`.
abbrev pub by_id : ℕ → Node → Registers
by_id devfn n = record { node = n; bars = cond (eqb n.devfn devfn) (own_bus n ∷ []) []; windows = bus_range n ∷ [] }

-- Command bits do not matter.
abbrev pub always : ℕ → Bool
always number = true

-- Check 28.
abbrev pub DistinctIds : List Node → Type 0
DistinctIds ns = Pairwise (λ n m. n.bus ≡ m.bus → n.devfn ≡ m.devfn → ⊥) ns

pub record HasId (target devfn : ℕ) (ns : List Node) (n : Node) : Type 0 where
  pub in_sheet : n ∈ ns
  pub bus_is : n.bus ≡ target
  pub devfn_is : n.devfn ≡ devfn
