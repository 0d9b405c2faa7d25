-- Document 02, E1, "Messages", in its sentences. Reading and writing is demand 2, which covers messages as any packet; over a planned sheet
-- form 001 is demand 3's and form 010 `RoutedById`'s. What is left is said here, for any header and any sheet. `messages` of MessagesLaws
-- proves it. Assumes nothing.
use Rattle.std.specs.Prelude.{◌≡◌, ◌⊎◌, ◌↔◌, cond, not, ◌&&◌, ◌||◌, List, ℕ, ◌+◌, ◌*◌, ◌/◌, ◌%◌, ◌^◌, ◌<◌, ◌≤◌, eqb, length, get_or, take, drop}
use Rattle.pairs.specs.declared.MessageKind.{MessageKind}
use Rattle.pairs.specs.declared.MessageRouting.{MessageRouting}
use Rattle.pairs.specs.declared.MessageRouting.TheVariants.{ToRoot, ByAddress, ById, Broadcast, Local, Gathered}
use Rattle.packet.specs.declared.Head.{Head}
use Rattle.packet.specs.declared.Packet.{Packet}
use Rattle.packet.specs.declared.Packet.TheVariants.{Memory, Io, Config, Completion, Message}
use Rattle.packet.specs.Rules.{is_by_address, rule_number}
use Rattle.packet.specs.RulesLaws.{is_without_data}
use Rattle.tlp.specs.declared.Reading.TheVariants.{Accepted, Refused as NotRead}
use Rattle.tlp.specs.Reading.{read_of}
use Rattle.sheet.specs.Sheet.{sheet_number}
use Rattle.sheet.specs.Spaces.{nodes_of}
use Rattle.route_answer.specs.declared.Routing.{Routing}
use Rattle.route_answer.specs.declared.Routing.TheVariants.{Delivered, Broadcast as ToEvery, Port, Refused}
use Rattle.route.specs.Route.{route_of}
use Rattle.route.specs.Listed.{list_of, list_after}
use Rattle.demands.specs.Demand3.{route_number}
use Rattle.route_answer.specs.Listed.{on_room}

-- p is a message with this routing, and this is the number that its bytes 8 to 15 are
abbrev pub IsMessage : Packet → MessageRouting → ℕ → Type 0
IsMessage (Memory k h e a) routing tail = ⊥
IsMessage (Io k h e a) routing tail = ⊥
IsMessage (Config k h e t) routing tail = ⊥
IsMessage (Completion k h o) routing tail = ⊥
IsMessage (Message k h r code x) routing tail = (r ≡ routing) × (x ≡ tail)

-- p is a memory request from this start address on
abbrev pub IsMemoryRequest : Packet → ℕ → Type 0
IsMemoryRequest (Memory k h e a) address = a ≡ address
IsMemoryRequest (Io k h e a) address = ⊥
IsMemoryRequest (Config k h e t) address = ⊥
IsMemoryRequest (Completion k h o) address = ⊥
IsMemoryRequest (Message k h r code x) address = ⊥

-- p is a completion for this requester
abbrev pub IsCompletionFor : Packet → ℕ → Type 0
IsCompletionFor (Memory k h e a) id = ⊥
IsCompletionFor (Io k h e a) id = ⊥
IsCompletionFor (Config k h e t) id = ⊥
IsCompletionFor (Completion k h o) id = h.requester ≡ id
IsCompletionFor (Message k h r code x) id = ⊥

-- byte 0 has Msg's or MsgD's Fmt, and a Type of 10110 or 10111
abbrev pub ReservedRouting : ℕ → Type 0
ReservedRouting byte =
    ((byte ≡ 0b001 * 32 + 0b10110) ⊎ (byte ≡ 0b001 * 32 + 0b10111)) ⊎ ((byte ≡ 0b011 * 32 + 0b10110) ⊎ (byte ≡ 0b011 * 32 + 0b10111))

-- where a packet goes, whatever the packet: the record and the bridges, every function, the port, or the number that it is refused with
pub data Place : Type 0 where
  function : ℕ → ℕ → Place
  every_function : ℕ → Place
  port : Place
  refused : ℕ → Place

abbrev pub place_of : Routing → Place
place_of (Delivered d) = function d.owner d.bridges
place_of (ToEvery n p) = every_function n
place_of (Port p) = port
place_of (Refused n) = refused n

-- a sheet that passes its checks and has functions
pub record Populated (s : List ℕ) : Type 0 where
  pub passes : sheet_number s ≡ 0
  pub some : ¬ (length (nodes_of s) ≡ 0)

pub record Messages : Type 0 where
  -- "AT is 00 (4), Msg has Length code 0 (5) and Length 0; rules 6 to 8 do not apply; .. 001's address with low two bits zero (4)."
  pub rules_4_and_5 : (k : MessageKind) (h : Head) (routing : MessageRouting) (code tail : ℕ) → rule_number (Message k h routing code tail)
      ≡ cond (not (eqb h.at 0) || is_by_address routing && not (eqb (tail % 4) 0)) 4
      (cond (is_without_data k && not (eqb h.length 0)) 5 0)
  -- "110 and 111 get 2."
  pub reserved_get_2 : (s : List ℕ) → 12 ≤ length s → ReservedRouting (get_or s 0 0) → read_of s ≡ NotRead 2
  -- "From the host, 001 goes by address as a memory request does;" over any sheet, where one with that start address goes
  pub by_address : (header request s : List ℕ) (p q : Packet) (address : ℕ) → read_of header ≡ Accepted p → read_of request ≡ Accepted q
      → IsMessage p ByAddress address → IsMemoryRequest q address → place_of (route_of header s) ≡ place_of (route_of request s)
  -- "010 by ID in bytes 8-9;" over any sheet, where a completion for a requester with that ID goes
  pub by_id_lem : (header completion s : List ℕ) (p q : Packet) (tail : ℕ) → read_of header ≡ Accepted p → read_of completion ≡ Accepted q
      → IsMessage p ById tail → IsCompletionFor q (tail / 2 ^ 48) → place_of (route_of header s) ≡ place_of (route_of completion s)
  -- a sheet with no functions is 40 for every routing
  pub no_functions_40 : (header s : List ℕ) (p : Packet) → read_of header ≡ Accepted p → sheet_number s ≡ 0 → length (nodes_of s) ≡ 0
      → route_number header s ≡ 40
  -- "011 lists every function once, in record order": the answer is every function, and the list 1, 2, .. to the last record
  pub to_every_function : (header s : List ℕ) (p : Packet) (tail : ℕ) → read_of header ≡ Accepted p → Populated s
      → IsMessage p Broadcast tail → route_of header s ≡ ToEvery (length (nodes_of s)) p
  pub lists_once : (s : List ℕ)
      → (length (list_of s) ≡ length (nodes_of s)) × ((i : ℕ) → i < length (nodes_of s) → get_or (list_of s) i 0 ≡ i + 1)
  -- "(short room 11)", and then the room stays as it was
  pub short_room_11 : (header s list : List ℕ) (n : ℕ) (p : Packet) → route_of header s ≡ ToEvery n p → length list < n
      → let r = on_room (route_of header s) (length list) in (r ≡ Refused 11) × (list_after r s list ≡ list)
  -- with room, it starts the lent slice, and what lies past it is kept
  pub list_starts_room : (header s list : List ℕ) (n : ℕ) (p : Packet) → route_of header s ≡ ToEvery n p → n ≤ length list
      → let r = on_room (route_of header s) (length list) in
      (r ≡ ToEvery n p) × (take n (list_after r s list) ≡ list_of s) × (drop n (list_after r s list) ≡ drop n list)
  -- "100 ends at the port, a named answer;" exactly so, and the packet there is the one that was read
  pub port_exactly : (header s : List ℕ) (p q : Packet) → read_of header ≡ Accepted p → sheet_number s ≡ 0
      → (route_of header s ≡ Port q) ↔ ((q ≡ p) × ((tail : ℕ) × IsMessage p Local tail) × Populated s)
  -- "000 and 101 only travel up: new number 43, tried where 42 is;" exactly so
  pub up_exactly : (header s : List ℕ) (p : Packet) → read_of header ≡ Accepted p → sheet_number s ≡ 0
      → (route_number header s ≡ 43) ↔ (((tail : ℕ) × (IsMessage p ToRoot tail ⊎ IsMessage p Gathered tail)) × Populated s)
