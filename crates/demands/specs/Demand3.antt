-- Demand 3 in the user's sentences, over document 01's paragraph "Words of demand 3": when a lawful board is refused, how a planned one
-- lies, and what becomes of a request over its sheet. Bytes are what a slice of u8 holds. `demand_3` of Demand3Laws proves it. Assumes
-- nothing.
use Rattle.std.specs.Prelude.{◌≡◌, ◌⊎◌, ◌↔◌, List, reverse, ℕ, ◌≤◌, ◌<◌, length, take, drop}
use Rattle.endian.specs.Endian.{Bytes}
use Rattle.pairs.specs.declared.MessageRouting.{MessageRouting}
use Rattle.pairs.specs.declared.MessageRouting.TheVariants.{ToRoot, ByAddress, ById, Broadcast, Local, Gathered}
use Rattle.packet.specs.declared.Packet.{Packet}
use Rattle.packet.specs.declared.Packet.TheVariants.{Memory, Io, Config, Completion, Message}
use Rattle.tlp.specs.declared.Reading.TheVariants.{Accepted}
use Rattle.tlp.specs.Reading.{read_of}
use Rattle.lists.specs.Lists.{Some}
use Rattle.pools.specs.declared.Space.{Space}
use Rattle.pools.specs.declared.Space.TheVariants.{Memory as memory_space, Io as io_space}
use Rattle.records.specs.Limits.{most_above}
use Rattle.plan_rule.specs.Pools.{Pool, low, high, io}
use Rattle.plan_rule.specs.Records.{Host, Function}
use Rattle.plan_rule.specs.Placing.{placed}
use Rattle.plan_rule.proofs.Placed.{WellPlaced}
use Rattle.plan_rule.specs.Above.{above_by_parents}
use Rattle.board.specs.Board.{board_number, host_of, functions_of}
use Rattle.board.specs.ToPlacing.{to_host, to_placing, devfn_of}
use Rattle.walk.specs.Good.{Good}
use Rattle.walk.specs.Walk.{Trail}
use Rattle.sheet.specs.Sheet.{sheet_number, sheet_length}
use Rattle.sheet.specs.Spaces.{registers_of, enabled_of}
use Rattle.sheet.specs.Commands.{SameButCommands}
use Rattle.plan_good.specs.Registers.{plan_registers, plan_host}
use Rattle.plan_good.proofs.RefusedExactly.{BusesRunOut, PoolRunsOut}
use Rattle.plan_good.specs.NestedAndApart.{NestedAndApart}
use Rattle.plan_good.specs.Delivery.{BarHolds, OwnsAsPlaced}
use Rattle.plan_answer.specs.declared.Planning.TheVariants.{Planned, Refused}
use Rattle.plan_answer.specs.Plan.{number_of as planning_number, planning, sheet_after}
use Rattle.claims.specs.declared.Aim.{Aim}
use Rattle.claims.specs.declared.Aim.TheVariants.{Address}
use Rattle.claims.specs.Claims.{tally_for}
use Rattle.route_answer.specs.declared.Delivery.{Delivery}
use Rattle.route_answer.specs.declared.Routing.TheVariants.{Delivered}
use Rattle.route_answer.specs.Routing.{number_of as routing_number}
use Rattle.route.specs.Route.{root, route_of}

-- ## A board

-- "now lawful": none of the board's checks fails
abbrev pub Lawful : List ℕ → Type 0
Lawful b = board_number b ≡ 0

-- its host and its functions, as numbering and placing see them
abbrev pub host : List ℕ → Host
host b = to_host (host_of b)

abbrev pub functions : List ℕ → List Function
functions b = to_placing (functions_of b)

abbrev pub length_of_sheet : List ℕ → ℕ
length_of_sheet b = sheet_length (length (functions_of b))

-- "Buses run out as refusal 30 says, a pool when a root bus item's last byte is above the pool's last."
abbrev pub NoBusesLeft : List ℕ → Type 0
NoBusesLeft b = BusesRunOut (host b) (functions b)

abbrev pub NoRoomIn : Pool → List ℕ → Type 0
NoRoomIn q b = PoolRunsOut (host b) (functions b) q

-- "its bus numbers, or one of three address pools, run out"
abbrev pub RunsOut : List ℕ → Type 0
RunsOut b = NoBusesLeft b ⊎ ((q : Pool) × NoRoomIn q b)

-- document 01's number of what the planner answers, 0 where the board is planned
abbrev pub plan_number : List ℕ → List ℕ → ℕ
plan_number b room = planning_number (planning b (length room))

-- A lawful board's number, whatever the room: the buses come first, then the pools in their order, then short room. Else it is planned
pub record AnswersByNumber (b room : List ℕ) : Type 0 where
  pub no_buses_left : (plan_number b room ≡ 30) ↔ NoBusesLeft b
  pub no_low_room : (plan_number b room ≡ 31) ↔ (¬ NoBusesLeft b × NoRoomIn low b)
  pub no_high_room : (plan_number b room ≡ 32) ↔ (¬ NoBusesLeft b × ¬ NoRoomIn low b × NoRoomIn high b)
  pub no_io_room : (plan_number b room ≡ 33) ↔ (¬ NoBusesLeft b × ¬ NoRoomIn low b × ¬ NoRoomIn high b × NoRoomIn io b)
  pub short_room_lem : (plan_number b room ≡ 11) ↔ (¬ RunsOut b × (length room < length_of_sheet b))
  pub planned_else : (planning b (length room) ≡ Planned (length_of_sheet b)) ↔ (¬ RunsOut b × (length_of_sheet b ≤ length room))

-- ## Its sheet

-- What the sheet of a planned board says, whatever its command words: none of its checks fails, its registers are the plan's, and by their
-- own values they lie within their parent's and siblings are apart
pub record SheetSays (b t : List ℕ) : Type 0 where
  pub passes : sheet_number t ≡ 0
  pub registers_are : (sp : Space) → registers_of sp t ≡ plan_registers sp (host b) (functions b) (devfn_of (functions_of b))
  pub nested_and_apart : (sp : Space) → Good (plan_host sp (host b)) (registers_of sp t)

-- ## A request

-- a message by address is one in memory space: document 02, E1, "001 goes by address as a memory request does" and "demand 3 form 001"
abbrev pub IsMessageRequest : MessageRouting → ℕ → Space → ℕ → Type 0
IsMessageRequest ToRoot tail sp address = ⊥
IsMessageRequest ByAddress tail sp address = (sp ≡ memory_space) × (address ≡ tail)
IsMessageRequest ById tail sp address = ⊥
IsMessageRequest Broadcast tail sp address = ⊥
IsMessageRequest Local tail sp address = ⊥
IsMessageRequest Gathered tail sp address = ⊥

-- p is a memory or I/O request in this space, from this start address on
abbrev pub IsRequest : Packet → Space → ℕ → Type 0
IsRequest (Memory k h e a) sp address = (sp ≡ memory_space) × (address ≡ a)
IsRequest (Io k h e a) sp address = (sp ≡ io_space) × (address ≡ a)
IsRequest (Config k h e t) sp address = ⊥
IsRequest (Completion k h o) sp address = ⊥
IsRequest (Message k h routing code tail) sp address = IsMessageRequest routing tail sp address

-- one of function k's BARs in the space holds the address: "its size in addresses from where it is placed"
abbrev pub HasBarOver : List ℕ → Space → ℕ → ℕ → Type 0
HasBarOver b sp address k = Some (BarHolds sp k address) (placed (host b) (functions b))

-- "Bridges above a function: its parent record, that one's parent and so on, stopping short of the host."
abbrev pub bridges_above : List ℕ → ℕ → List ℕ
bridges_above b k = above_by_parents (functions b) k

-- function k has such a BAR, and k and each bridge above it have the space enabled: "the space's bit in the sheet's command word"
abbrev pub Owns : List ℕ → List ℕ → Space → ℕ → ℕ → Type 0
Owns b t sp address k = OwnsAsPlaced sp (host b) (functions b) (enabled_of sp t) address k

-- document 01's number of what the router answers for a packet from the host, 0 where it is delivered
abbrev pub route_number : List ℕ → List ℕ → ℕ
route_number header t = routing_number (route_of header t)

abbrev pub DeliveredTo : List ℕ → List ℕ → ℕ → Type 0
DeliveredTo header t k = (d : Delivery) × (route_of header t ≡ Delivered d) × (d.owner ≡ k)

-- the router's walk to an address of a space, or to an ID, goes through these bridges, in this order, and ends at function k
abbrev pub Crosses : Aim → List ℕ → List ℕ → ℕ → Type 0
Crosses aim t bridges k = Trail (tally_for aim t) (root t) bridges k

-- What becomes of a header that is read as p, such a request, over a sheet t. `Owner k` says that function k owns the address, so that the
-- same is said of any accepted sheet (Audit)
pub record Routed (Owner : ℕ → Type 0) (above : ℕ → List ℕ) (most : ℕ) (t header : List ℕ) (p : Packet) (sp : Space) (address : ℕ)
    : Type 0 where
  -- "It is delivered to a function exactly when one of that function's BARs in the request's space holds its start address and that
  -- function, and each bridge above it, has that space enabled."
  pub delivered_exactly : (k : ℕ) → DeliveredTo header t k ↔ Owner k
  -- "Otherwise it is refused with 40, no owner."
  pub else_no_owner : (route_number header t ≡ 40) ↔ ((k : ℕ) → ¬ Owner k)
  -- one or the other: never 41, and no other number
  pub delivered_or_40 : ((k : ℕ) × DeliveredTo header t k) ⊎ (route_number header t ≡ 40)
  pub one_owner : (j k : ℕ) → Owner j → Owner k → j ≡ k
  -- "A delivered request arrives unchanged."
  pub arrives_unchanged : (d : Delivery) → route_of header t ≡ Delivered d → d.packet ≡ p
  -- "It crosses exactly the bridges above the owner, ..": those and no others, the uppermost first
  pub crosses_exactly : (d : Delivery) → route_of header t ≡ Delivered d
      → (bridges : List ℕ) → Crosses (Address sp address) t bridges d.owner ↔ (bridges ≡ reverse (above d.owner))
  -- ".. and their number, at most 32 (`most`), is the one reported."
  pub count_reported : (d : Delivery) → route_of header t ≡ Delivered d → (d.bridges ≡ length (above d.owner)) × (d.bridges ≤ most)

-- ## The demand

pub record Demand3 : Type 0 where
  -- "Given room for its sheet, a lawful board is refused exactly when its bus numbers, or one of three address pools, run out under
  -- document 01's placing rule."
  pub refused_exactly : (b room : List ℕ) → Lawful b → length_of_sheet b ≤ length room → (¬ (plan_number b room ≡ 0)) ↔ RunsOut b
  -- with these numbers; an unlawful board has its own, in any room
  pub answers_by_number : (b room : List ℕ) → Lawful b → AnswersByNumber b room
  pub unlawful_by_number : (b room : List ℕ) → ¬ Lawful b → plan_number b room ≡ board_number b
  -- the placing rule: on the root bus from the pool's base on, "inside a window at window start plus offset"
  pub placed_by_rule : (b : List ℕ) → Lawful b → WellPlaced (host b) (functions b)
  -- a board that is refused leaves the room as it was, one that is planned what lies past its sheet
  pub refused_keeps_room : (b room : List ℕ) (n : ℕ) → planning b (length room) ≡ Refused n → sheet_after b room ≡ room
  pub planned_keeps_rest : (b room : List ℕ) (n : ℕ) → planning b (length room) ≡ Planned n → drop n (sheet_after b room) ≡ drop n room
  -- "If it is planned, bus ranges, BARs and open windows lie within their parent's, and siblings never overlap."
  pub nested_and_apart : (b room : List ℕ) (n : ℕ) → Bytes b → planning b (length room) ≡ Planned n → NestedAndApart (host b) (functions b)
  -- and so no two functions have BARs over one address: "one owner for each address"
  pub one_holder : (b room : List ℕ) (n : ℕ) → Bytes b → planning b (length room) ≡ Planned n
      → (sp : Space) (address j k : ℕ) → HasBarOver b sp address j → HasBarOver b sp address k → j ≡ k
  -- its sheet says the same, "as planned or rewritten since"
  pub sheet_says : (b room : List ℕ) (n : ℕ) → Bytes b → planning b (length room) ≡ Planned n
      → (t : List ℕ) → SameButCommands (take n (sheet_after b room)) t → SheetSays b t
  -- "Then take any accepted memory or I/O request entering from the host, whatever the sheet's command words say, as planned or rewritten
  -- since."
  pub requests_routed : (b room : List ℕ) (n : ℕ) → Bytes b → planning b (length room) ≡ Planned n
      → (t : List ℕ) → SameButCommands (take n (sheet_after b room)) t
      → (header : List ℕ) (p : Packet) → read_of header ≡ Accepted p
      → (sp : Space) (address : ℕ) → IsRequest p sp address
      → Routed (Owns b t sp address) (bridges_above b) most_above t header p sp address
