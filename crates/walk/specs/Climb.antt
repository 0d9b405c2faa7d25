-- Document 02, E11: a request that starts at a function. On each bus the others claim; with no claim it goes up through the bridge above,
-- and from the root bus to the host. From a window's claim on, document 01's walk decides. The tally of a bus and the way up from it are
-- any functions of its number, as the walk's tally is. Assumes nothing.
use Rattle.std.specs.Prelude.{◌≡◌, Bool, true, false, cond, not, ◌&&◌, List, [], ◌∷◌, ℕ, zero, suc, ◌+◌, eqb}
use Rattle.lists.specs.Lists.{keep, any}
use Rattle.walk.specs.Ranges.{holds}
use Rattle.walk.specs.Registers.{Registers, Item, items, Claim, bar, window}
use Rattle.walk.specs.Above.{is_above}
use Rattle.walk.specs.Tally.{Tally, none, one, several, join, claims, claims_in, tally_on}
use Rattle.walk.specs.Walk.{Outcome, delivered, refused, no_owner, contested, walk_from, Trail}

-- Document 02's number for a function, or a bridge on the way up, that is no bus master.
abbrev pub not_master : ℕ
not_master = 44

-- ## The way up from a bus

-- To the host; through the bridge with this number, to the bus that it stands on; or refused by number.
pub data Up : Type 0 where
  to_host : Up
  across : ℕ → ℕ → Up
  halts : ℕ → Up

-- the bridges that lead to a bus, with their registers
abbrev pub leading_to : ℕ → List Registers → List Registers
leading_to bus fs = keep (λ f. is_above bus f.node) fs

-- does one of its BARs, or one of its windows, hold the address, enabled or not?
abbrev pub bar_holds : ℕ → Registers → Bool
bar_holds address f = any (λ r. holds r address) f.bars

abbrev pub window_holds : ℕ → Registers → Bool
window_holds address f = any (λ r. holds r address) f.windows

-- "the request goes up through the bridge above (none 40, two 41), unless one of that bridge's windows of the request's space holds the
-- address, enabled or not; then 40, before that bridge's 44"
abbrev pub up_through : (ℕ → Bool) → ℕ → List Registers → Up
up_through master address [] = halts no_owner
up_through master address (b ∷ []) =
    cond (window_holds address b) (halts no_owner) (cond (master b.node.number) (across b.node.number b.node.bus)
    (halts not_master))
up_through master address (b ∷ c ∷ bs) = halts contested

-- "From the root bus it goes to the host."
unfoldable pub up_from : (ℕ → Bool) → List Registers → ℕ → ℕ → ℕ → Up
up_from master fs address root bus = cond (eqb bus root) to_host (up_through master address (leading_to bus fs))

-- ## The climb

-- At the record with this number after so many bridges both ways; at the host after so many; or refused by number.
pub data Sent : Type 0 where
  arrives : ℕ → ℕ → Sent
  leaves : ℕ → Sent
  stops : ℕ → Sent

abbrev pub sent_of : Outcome → Sent
sent_of (delivered n k) = arrives n k
sent_of (refused x) = stops x

-- One bus: what its tally says, with document 01's walk and the way up handed in.
abbrev pub settle_up : Tally → ℕ → (ℕ → Outcome) → Sent → Sent
settle_up none crossed down up = up
settle_up several crossed down up = stops contested
settle_up (one (bar n)) crossed down up = arrives n crossed
settle_up (one (window n secondary)) crossed down up = sent_of (down secondary)

-- Up from a bus that has no claim, with the climb from the bus above handed in: by the bridge come through and that bus.
abbrev pub go_up : Up → ℕ → (ℕ → ℕ → Sent) → Sent
go_up to_host crossed next = leaves crossed
go_up (across number bus) crossed next = next number bus
go_up (halts n) crossed next = stops n

module _ (tally : ℕ → Tally) (up : ℕ → Up) where
  -- Over at most so many buses, with every claim counted.
  unfoldable pub climb_over : ℕ → ℕ → ℕ → Sent
  climb_over zero bus crossed = stops no_owner
  climb_over (suc n) bus crossed =
      settle_up (tally bus) crossed (λ b. walk_from tally b (crossed + 1)) (go_up (up bus) crossed (λ number b. climb_over n b (crossed + 1)))

  -- Bus numbers fall on the way up, so the bus's own number bounds it (`climb_step`).
  unfoldable pub climb_from : ℕ → ℕ → Sent
  climb_from bus crossed = climb_over (suc bus) bus crossed

  -- As document 02 has it: on each bus those that may claim, by the bridge come through (0: none).
  unfoldable pub climb_beside : (ℕ → ℕ → Tally) → ℕ → ℕ → ℕ → ℕ → Sent
  climb_beside beside zero came bus crossed = stops no_owner
  climb_beside beside (suc n) came bus crossed =
      settle_up (beside came bus) crossed (λ b. walk_from tally b (crossed + 1))
      (go_up (up bus) crossed (λ number b. climb_beside beside n number b (crossed + 1)))

-- The way of a request from a bus on: up through the bridges with these numbers, where nothing claims, and then down document 01's walk.
unfoldable pub CardTrail : (ℕ → Tally) → (ℕ → Up) → ℕ → List ℕ → List ℕ → ℕ → Type 0
CardTrail tally up bus [] downs number = Trail tally bus downs number
CardTrail tally up bus (n ∷ ups) downs number =
    (own : ℕ) × (tally bus ≡ none) × (up bus ≡ across n own) × CardTrail tally up own ups downs number

-- ## Who may claim

abbrev pub is_window_claim : Claim → Bool
is_window_claim (bar n) = false
is_window_claim (window n secondary) = true

-- "the other functions and bridges claim"; of the bridge come through "its own BARs may claim but its windows may not"
abbrev pub may_claim : ℕ → ℕ → Item → Bool
may_claim start came i = not (eqb i.owner.node.number start) && not (is_window_claim i.claim && eqb i.owner.node.number came)

unfoldable pub tally_beside : (ℕ → Bool) → List Registers → ℕ → ℕ → ℕ → ℕ → Tally
tally_beside enabled fs address start came bus =
    join none (claims_in (keep (may_claim start came) (keep (claims enabled address bus) (items fs))))

-- ## A request from a function: its bus master, then its own BAR, then its bus

module _ (enabled master : ℕ → Bool) (fs : List Registers) (address root : ℕ) where
  unfoldable pub from_bus : Registers → Sent
  from_bus f =
      climb_beside (tally_on enabled fs address) (up_from master fs address root) (tally_beside enabled fs address f.node.number)
      (suc f.node.bus) 0 f.node.bus 0

  unfoldable pub send_from : Registers → Sent
  send_from f = cond (master f.node.number) (cond (bar_holds address f) (stops no_owner) (from_bus f)) (stops not_master)

-- ## The start: the function with a record's number, if it is no bridge

pub data Start : Type 0 where
  starts : Registers → Start
  nowhere : Start

abbrev pub start_of : List Registers → Start
start_of [] = nowhere
start_of (f ∷ fs) = cond f.node.bridge nowhere (starts f)

unfoldable pub start_at : List Registers → ℕ → Start
start_at fs number = start_of (keep (λ f. eqb f.node.number number) fs)
