-- What becomes of a packet that goes by ID, a configuration request or a completion, over the sheet of a planned board: document 01's "The
-- walk" in words of the board. It stands beside `Routed` of Demand3; `by_id_routed` of ByIdLaws proves it, and AuditLaws the same of any
-- sheet that the audit accepts. Assumes nothing.
use Rattle.std.specs.Prelude.{◌≡◌, ◌⊎◌, ◌↔◌, List, reverse, ℕ, ◌/◌, ◌≤◌, ◌<◌, ◌^◌, length}
use Rattle.pairs.specs.declared.ConfigKind.{ConfigKind}
use Rattle.pairs.specs.declared.ConfigKind.TheVariants.{CfgRd0, CfgWr0, CfgRd1, CfgWr1}
use Rattle.pairs.specs.declared.MessageRouting.{MessageRouting}
use Rattle.pairs.specs.declared.MessageRouting.TheVariants.{ToRoot, ByAddress, ById, Broadcast, Local, Gathered}
use Rattle.packet.specs.declared.Packet.{Packet}
use Rattle.packet.specs.declared.Packet.TheVariants.{Memory, Io, Config, Completion, Message}
use Rattle.records.specs.Limits.{most_above}
use Rattle.board.specs.Board.{functions_of}
use Rattle.plan_good.specs.ById.{HasIdAsNumbered}
use Rattle.board.specs.ToPlacing.{devfn_of}
use Rattle.claims.specs.declared.Aim.TheVariants.{Id}
use Rattle.route_answer.specs.declared.Delivery.{Delivery}
use Rattle.route_answer.specs.declared.Routing.TheVariants.{Delivered}
use Rattle.route.specs.Route.{route_of}
use Rattle.demands.specs.Demand3.{host, functions, bridges_above, route_number, DeliveredTo, Crosses}

-- ## The packet

-- a message by ID: document 02, E1, "010 by ID in bytes 8-9", the first two of the tail's eight
abbrev pub GoesByIdAs : MessageRouting → ℕ → ℕ → Type 0
GoesByIdAs ToRoot tail id = ⊥
GoesByIdAs ByAddress tail id = ⊥
GoesByIdAs ById tail id = id ≡ tail / 2 ^ 48
GoesByIdAs Broadcast tail id = ⊥
GoesByIdAs Local tail id = ⊥
GoesByIdAs Gathered tail id = ⊥

-- p goes by this ID: "a completion's is its requester"
abbrev pub GoesById : Packet → ℕ → Type 0
GoesById (Memory k h e a) id = ⊥
GoesById (Io k h e a) id = ⊥
GoesById (Config k h e t) id = id ≡ t.id
GoesById (Completion k h o) id = id ≡ h.requester
GoesById (Message k h routing code tail) id = GoesByIdAs routing tail id

-- a configuration request's type, and the same read or write as type 0
abbrev pub type_of : ConfigKind → ℕ
type_of CfgRd0 = 0
type_of CfgWr0 = 0
type_of CfgRd1 = 1
type_of CfgWr1 = 1

abbrev pub as_type0 : ConfigKind → ConfigKind
as_type0 CfgRd0 = CfgRd0
as_type0 CfgWr0 = CfgWr0
as_type0 CfgRd1 = CfgRd0
as_type0 CfgWr1 = CfgWr0

-- "Configuration type 1 becomes type 0 on the last bus", and nothing else changes
abbrev pub arrival : Packet → Packet
arrival (Memory k h e a) = Memory k h e a
arrival (Io k h e a) = Io k h e a
arrival (Config k h e t) = Config (as_type0 k) h e t
arrival (Completion k h o) = Completion k h o
arrival (Message k h routing code tail) = Message k h routing code tail

-- "type 0 for another bus, or type 1 for the root bus"
abbrev pub Misfits : ConfigKind → ℕ → ℕ → Type 0
Misfits k bus root = ((type_of k ≡ 0) × ¬ (bus ≡ root)) ⊎ ((type_of k ≡ 1) × (bus ≡ root))

-- a configuration request of the wrong type for its bus, where there are functions. "An ID is bus 8, device 5, function 3 bits."
abbrev pub WrongType : ℕ → ℕ → Packet → Type 0
WrongType functions root (Memory k h e a) = ⊥
WrongType functions root (Io k h e a) = ⊥
WrongType functions root (Config k h e t) = (0 < functions) × Misfits k (t.id / 256) root
WrongType functions root (Completion k h o) = ⊥
WrongType functions root (Message k h routing code tail) = ⊥

-- ## What becomes of it

-- What becomes of a header that is read as p, which goes by this ID, over a sheet t of so many functions below this root bus. `Has k` says
-- that function k has the ID, so that the same is said of any accepted sheet (Audit). "Command bits do not matter.": none is asked for
pub record RoutedById (functions root : ℕ) (Has : ℕ → Type 0) (above : ℕ → List ℕ) (most : ℕ) (t header : List ℕ) (p : Packet) (id : ℕ)
    : Type 0 where
  -- "A sheet with no functions gives 40, tried before 42, .."
  pub no_functions_40 : functions ≡ 0 → route_number header t ≡ 40
  -- ".. and 42 before the walk": "type 0 for another bus, or type 1 for the root bus, is 42."
  pub wrong_type_42 : (route_number header t ≡ 42) ↔ WrongType functions root p
  -- Else it is delivered exactly to "the function with that ID ..", of which there is at most one
  pub delivered_exactly : (k : ℕ) → DeliveredTo header t k ↔ (¬ WrongType functions root p × Has k)
  pub one_owner : (j k : ℕ) → Has j → Has k → j ≡ k
  -- ".. or 40"
  pub else_no_owner : (route_number header t ≡ 40) ↔ (¬ WrongType functions root p × ((k : ℕ) → ¬ Has k))
  -- one of the three: never 41, and no other number
  pub delivered_40_or_42 : ((k : ℕ) × DeliveredTo header t k) ⊎ ((route_number header t ≡ 40) ⊎ (route_number header t ≡ 42))
  -- "Delivery returns record number, bridges crossed, and the packet as it arrives."
  pub arrives : (d : Delivery) → route_of header t ≡ Delivered d → d.packet ≡ arrival p
  -- the walk crosses exactly the bridges above the function, those and no others, the uppermost first
  pub crosses_exactly : (d : Delivery) → route_of header t ≡ Delivered d
      → (bridges : List ℕ) → Crosses (Id id) t bridges d.owner ↔ (bridges ≡ reverse (above d.owner))
  -- and their number, at most 32 (`most`), is the one reported
  pub count_reported : (d : Delivery) → route_of header t ≡ Delivered d → (d.bridges ≡ length (above d.owner)) × (d.bridges ≤ most)

-- ## A planned board

-- "The root bus is the first bus."
abbrev pub root_bus : List ℕ → ℕ
root_bus b = (host b).first_bus

-- function k has the ID: its bus, which is the first bus below the host and else its parent's secondary, and its device/function
abbrev pub HasId : List ℕ → ℕ → ℕ → Type 0
HasId b id k = HasIdAsNumbered (host b) (functions b) (devfn_of (functions_of b)) id k

-- over a sheet t of it
abbrev pub PlannedById : List ℕ → List ℕ → List ℕ → Packet → ℕ → Type 0
PlannedById b t header p id = RoutedById (length (functions b)) (root_bus b) (HasId b id) (bridges_above b) most_above t header p id
