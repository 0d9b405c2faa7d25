-- Document 02, E10: boards of version 2, whose bridges keep spare buses and spare low memory for cards plugged in later. Demand 3 and what
-- the other requests say of planned boards are said of both versions already, and that a sheet has the numbers and windows of its board
-- (`sheet_says`); this says where the spares are, which demand 3 leaves open. `empty_slots` of EmptySlotsLaws proves it. Assumes nothing.
use Rattle.std.specs.Prelude.{◌≡◌, ◌↔◌, true, false, List, ℕ, suc, ◌+◌, ◌/◌, ◌≤◌, ◌<◌, length, get_or, take}
use Rattle.endian.specs.Endian.{Bytes, be}
use Rattle.lists.specs.Lists.{◌∈◌, All}
use Rattle.packet.specs.declared.Packet.{Packet}
use Rattle.tlp.specs.declared.Reading.TheVariants.{Accepted}
use Rattle.tlp.specs.Reading.{read_of}
use Rattle.pools.specs.declared.Space.TheVariants.{Memory as memory_space}
use Rattle.records.specs.Records.{parts_from}
use Rattle.bar.specs.Header.{is_bridge as is_bridge_header}
use Rattle.plan_rule.specs.Pools.{Pool}
use Rattle.plan_rule.specs.Records.{Function}
use Rattle.plan_rule.specs.Layout.{Piece, Placed, select}
use Rattle.plan_rule.specs.Pieces.{content_of}
use Rattle.plan_rule.specs.Placing.{placed}
use Rattle.plan_rule.specs.Numbering.{bridge_count, spare_count, bus_number, subordinate_of}
use Rattle.plan_rule.proofs.NoSpares.{NoSpares}
use Rattle.board_record.specs.Function.{function_of_part, bridge_length, spare_buses, spare_low, spares_at}
use Rattle.board_record.specs.Host.{functions_at}
use Rattle.board.specs.Board.{is_version, board_number}
use Rattle.sheet.specs.Commands.{SameButCommands}
use Rattle.plan_good.specs.SpareBuses.{BridgeAt, SparesLast, GreatestBelow}
use Rattle.plan_good.specs.SpareRoom.{LowWindow, OpenExactly, RoomKept, InSpareRoom, InGap, NobodyAt}
use Rattle.plan_answer.specs.declared.Planning.TheVariants.{Planned}
use Rattle.plan_answer.specs.Plan.{planning, sheet_after}
use Rattle.demands.specs.Demand3.{Lawful, host, functions, plan_number, IsRequest, route_number}
use Rattle.demands.specs.ById.{GoesById, WrongType, root_bus, HasId}

-- ## A board's version

abbrev pub version_of : List ℕ → ℕ
version_of b = get_or b 0 0

-- "one byte of spare buses and two bytes of spare low memory in MiB", "at the end of each bridge record": after its 14 bytes
pub record Spares (p : List ℕ) : Type 0 where
  pub buses : spare_buses (function_of_part p) ≡ get_or p spares_at 0
  pub room : spare_low (function_of_part p) ≡ be 2 p (spares_at + 1)

-- "zero spares and the old plan": document 01's numbers, and windows over what lies on their bus
pub record AsBefore (b : List ℕ) : Type 0 where
  pub no_spares : NoSpares (functions b)
  -- "bridges take the next numbers in record order as secondary"
  pub secondaries : (k : ℕ) → bus_number (host b).first_bus (functions b) k ≡ (host b).first_bus + bridge_count (take k (functions b))
  -- "subordinate is the greatest number at or below the bridge"
  pub subordinates : (i : ℕ) (f : Function) → BridgeAt (functions b) i f
      → GreatestBelow (host b).first_bus (functions b) (suc i) (subordinate_of (host b).first_bus (functions b) (suc i))
  -- what a window is sized by, opened by and aligned by is what lies on its bus
  pub windows : (f : Function) → f ∈ functions b → (k : ℕ) (q : Pool) (later : List Piece) → content_of k f.spare_low q later
      ≡ select k q later

-- one of the spare buses of the bridge f, record i + 1: so many numbers up to its subordinate, the last of all below it (`SparesLast`)
abbrev pub IsSpareBus : List ℕ → ℕ → Function → ℕ → Type 0
IsSpareBus b i f bus =
    let last = subordinate_of (host b).first_bus (functions b) (suc i) in
    (bus ≤ last) × (last < bus + f.spare_buses)

-- ## The request

pub record EmptySlots : Type 0 where
  -- "so the record is 17 bytes", and of version 1 14
  pub bridges_by_version : (b : List ℕ) → Lawful b
      → All (λ p. is_bridge_header (get_or p 3 0) ≡ true → length p ≡ bridge_length (version_of b)) (parts_from b functions_at)
  pub spares_read : (p : List ℕ) → Bytes p → is_bridge_header (get_or p 3 0) ≡ true → Spares p
  -- "the new one takes both", 1 and 2, and no other
  pub versions_known : (b : List ℕ) → (length b ≡ 0 → ⊥) → (board_number b ≡ 21) ↔ (is_version (version_of b) ≡ false)
  -- "version 1 meaning zero spares and the old plan"
  pub version_1_as_before : (b : List ℕ) → Lawful b → version_of b ≡ 1 → AsBefore b
  -- "Spare buses come right after all buses below that bridge, inside its subordinate."
  pub spare_buses_last : (b : List ℕ) → Lawful b → (i : ℕ) (f : Function) → BridgeAt (functions b) i f
      → SparesLast (host b).first_bus (functions b) i f
  -- "Spare memory is added to the rounded end of its low window, .."
  pub spare_room_kept : (b : List ℕ) → Lawful b → (i : ℕ) (f : Function) → BridgeAt (functions b) i f
      → (w : Placed) → w ∈ placed (host b) (functions b) → LowWindow (suc i) w → RoomKept (host b) (functions b) (suc i) f w
  -- ".. which is then open even with nothing below."
  pub opened_by_spares : (b : List ℕ) → Lawful b → (i : ℕ) (f : Function) → BridgeAt (functions b) i f
      → OpenExactly (host b) (functions b) (suc i) f
  -- "Refusal 30 now counts bridges and spares"; that 31 reads the larger windows is demand 3's `refused_exactly` over them
  pub spares_counted : (b room : List ℕ) → Lawful b
      → (plan_number b room ≡ 30) ↔ ((host b).last_bus < (host b).first_bus + (bridge_count (functions b) + spare_count (functions b)))
  -- "no function owns an address in spare room", nor any other in a bridge's low window that nothing on its bus holds
  pub spare_room_is_gap : (b : List ℕ) → Lawful b → (i : ℕ) (f : Function) → BridgeAt (functions b) i f
      → (w : Placed) → w ∈ placed (host b) (functions b) → LowWindow (suc i) w
      → (a : ℕ) → InSpareRoom f w a → InGap (placed (host b) (functions b)) w a
  pub nobody_in_gap : (b room : List ℕ) (n : ℕ) → Bytes b → planning b (length room) ≡ Planned n
      → (k : ℕ) (w : Placed) → w ∈ placed (host b) (functions b) → LowWindow k w
      → (a : ℕ) → InGap (placed (host b) (functions b)) w a → NobodyAt (host b) (functions b) a
  pub nobody_in_spare_room : (b room : List ℕ) (n : ℕ) → Bytes b → planning b (length room) ≡ Planned n
      → (i : ℕ) (f : Function) → BridgeAt (functions b) i f
      → (w : Placed) → w ∈ placed (host b) (functions b) → LowWindow (suc i) w
      → (a : ℕ) → InSpareRoom f w a → NobodyAt (host b) (functions b) a
  -- so that a request there is refused, whatever the sheet's command words say
  pub spare_room_refused : (b room : List ℕ) (n : ℕ) → Bytes b → planning b (length room) ≡ Planned n
      → (t : List ℕ) → SameButCommands (take n (sheet_after b room)) t
      → (header : List ℕ) (p : Packet) → read_of header ≡ Accepted p → (a : ℕ) → IsRequest p memory_space a
      → (i : ℕ) (f : Function) → BridgeAt (functions b) i f
      → (w : Placed) → w ∈ placed (host b) (functions b) → LowWindow (suc i) w → InSpareRoom f w a
      → route_number header t ≡ 40
  -- nor is any function on a spare bus, so that a packet by an ID there is 40, where it is no configuration request of the wrong type
  pub nobody_on_spare_bus : (b : List ℕ) → Bytes b → Lawful b → (i : ℕ) (f : Function) → BridgeAt (functions b) i f
      → (id : ℕ) → IsSpareBus b i f (id / 256) → (k : ℕ) → ¬ HasId b id k
  pub spare_bus_refused : (b room : List ℕ) (n : ℕ) → Bytes b → planning b (length room) ≡ Planned n
      → (t : List ℕ) → SameButCommands (take n (sheet_after b room)) t
      → (header : List ℕ) (p : Packet) → read_of header ≡ Accepted p → (id : ℕ) → GoesById p id
      → (i : ℕ) (f : Function) → BridgeAt (functions b) i f → IsSpareBus b i f (id / 256)
      → ¬ WrongType (length (functions b)) (root_bus b) p → route_number header t ≡ 40
