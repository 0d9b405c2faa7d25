-- Worked examples of routing, as five tables under one claim: P10's reads and foreign sheets, routing by ID, messages of each routing,
-- each number in its order, and a broadcast's list. Assumes nothing.
use Rattle.std.specs.Prelude.{◌≡◌, ℕ, ◌+◌, length, set}
use mathlib.Core.List.{List, [], ◌∷◌}
use Rattle.packet.specs.declared.Packet.{Packet}
use Rattle.tlp.specs.declared.Reading.{Reading}
use Rattle.tlp.specs.declared.Reading.TheVariants.{Accepted, Refused as NotRead}
use Rattle.tlp.specs.Reading.{read_of}
use Rattle.sheet.specs.Examples.{p8, p10, sunk}
use Rattle.route_answer.specs.declared.Routing.{Routing}
use Rattle.route_answer.specs.declared.Routing.TheVariants.{Delivered, Broadcast, Port, Refused}
use Rattle.route_answer.specs.Routing.{number_of}
use Rattle.route.specs.Route.{route_of}
use Rattle.route_answer.specs.Listed.{on_room}
use Rattle.route.specs.Listed.{list_after}

-- ## Headers of twelve bytes, by byte 0

-- a request of one dword: what its bytes 8 to 11 are
abbrev pub request : ℕ → List ℕ → List ℕ
request pair rest = pair ∷ 0 ∷ 0 ∷ 1 ∷ 0 ∷ 0 ∷ 0 ∷ 0x0F ∷ rest

-- a completion without data, for a requester
abbrev pub completion : ℕ → ℕ → List ℕ
completion bus devfn = 0x0A ∷ 0 ∷ 0 ∷ 0 ∷ 0 ∷ 0 ∷ 0 ∷ 4 ∷ bus ∷ devfn ∷ 0 ∷ 0 ∷ []

abbrev pub MRd : List ℕ → List ℕ
MRd rest = request 0x00 rest

abbrev pub IORd : List ℕ → List ℕ
IORd rest = request 0x02 rest

abbrev pub CfgWr0 : List ℕ → List ℕ
CfgWr0 rest = request 0x44 rest

abbrev pub CfgWr1 : List ℕ → List ℕ
CfgWr1 rest = request 0x45 rest

-- register 04h of a target
abbrev pub target : ℕ → ℕ → List ℕ
target bus devfn = bus ∷ devfn ∷ 0 ∷ 4 ∷ []

abbrev pub F9000FFC : List ℕ
F9000FFC = 0xF9 ∷ 0 ∷ 0x0F ∷ 0xFC ∷ []

abbrev pub F9001000 : List ℕ
F9001000 = 0xF9 ∷ 0 ∷ 0x10 ∷ 0 ∷ []

abbrev pub FA000000 : List ℕ
FA000000 = 0xFA ∷ 0 ∷ 0 ∷ 0 ∷ []

abbrev pub h4000 : List ℕ
h4000 = 0 ∷ 0 ∷ 0x40 ∷ 0 ∷ []

-- ## Messages, of sixteen bytes, by their routing

-- with no data, and what their bytes 8 to 15 are
abbrev pub Msg : ℕ → List ℕ → List ℕ
Msg routing tail = (0x30 + routing) ∷ 0 ∷ 0 ∷ 0 ∷ 0 ∷ 0 ∷ 0 ∷ 0x14 ∷ tail

-- with one dword
abbrev pub MsgD : ℕ → List ℕ → List ℕ
MsgD routing tail = (0x70 + routing) ∷ 0 ∷ 0 ∷ 1 ∷ 0 ∷ 0 ∷ 0 ∷ 0x7E ∷ tail

abbrev pub zeros : List ℕ
zeros = 0 ∷ 0 ∷ 0 ∷ 0 ∷ 0 ∷ 0 ∷ 0 ∷ 0 ∷ []

-- an ID in bytes 8-9
abbrev pub to_id : ℕ → ℕ → List ℕ
to_id bus devfn = bus ∷ devfn ∷ 0 ∷ 0 ∷ 0 ∷ 0 ∷ 0 ∷ 0 ∷ []

-- an address below 4 GiB, which a memory request of sixteen bytes may not have
abbrev pub to_address : List ℕ → List ℕ
to_address low = 0 ∷ 0 ∷ 0 ∷ 0 ∷ low

-- ## P10's sheet rewritten

-- the bridge's command word, and the function's
abbrev pub bridge_command : ℕ → List ℕ
bridge_command c = set p10 9 c

abbrev pub function_command : ℕ → List ℕ
function_command c = set p10 101 c

-- the function's low BAR at FA000000, outside the window above it
abbrev pub bar_outside : List ℕ
bar_outside = set p10 116 0xFA

-- the bridge's high window over its low one
abbrev pub two_windows : List ℕ
two_windows = set (set (set (set (set p10 42 0xF9) 43 0x01) 44 0xF9) 45 0) 49 0

-- ## The tables

-- a header over a sheet, and what becomes of it
pub record Claim : Type 0 where
  pub header : List ℕ
  pub sheet : List ℕ
  pub routing : Routing

abbrev pub Holds : Claim → Type 0
Holds c = route_of c.header c.sheet ≡ c.routing

-- with the packet that is read: of a header that is not accepted no such claim holds
abbrev pub with : (Packet → Routing) → Reading → Routing
with routing (Accepted p) = routing p
with routing (NotRead n) = Refused 0

-- to the function with this record number, after so many bridges
abbrev pub delivers : ℕ → ℕ → Packet → Routing
delivers number crossed p = Delivered (record { owner = number; bridges = crossed; packet = p })

-- it arrives as another header would be read
abbrev pub goes : List ℕ → List ℕ → ℕ → ℕ → List ℕ → Claim
goes h s number bridges arrives = record { header = h; sheet = s; routing = with (delivers number bridges) (read_of arrives) }

abbrev pub unchanged : List ℕ → List ℕ → ℕ → ℕ → Claim
unchanged h s number bridges = goes h s number bridges h

-- to every function, so many
abbrev pub broadcasts : List ℕ → List ℕ → ℕ → Claim
broadcasts h s functions = record { header = h; sheet = s; routing = with (Broadcast functions) (read_of h) }

abbrev pub ends : List ℕ → List ℕ → Claim
ends h s = record { header = h; sheet = s; routing = with Port (read_of h) }

abbrev pub refuses : List ℕ → List ℕ → ℕ → Claim
refuses h s n = record { header = h; sheet = s; routing = Refused n }

abbrev pub requests : List Claim
requests =
    -- P10
    unchanged (MRd F9000FFC) p10 2 1
    ∷ refuses (MRd F9001000) p10 40
    -- the same over foreign sheets: a BAR outside the window above it, two windows over one address
    ∷ refuses (MRd FA000000) bar_outside 40
    ∷ refuses (MRd F9000FFC) two_windows 41
    -- I/O goes by command bit 0, memory by bit 1, of the function and of the bridge above it
    ∷ unchanged (IORd h4000) p10 2 1
    ∷ unchanged (IORd h4000) (bridge_command 1) 2 1
    ∷ refuses (IORd h4000) (bridge_command 2) 40
    ∷ refuses (IORd h4000) (function_command 2) 40
    ∷ unchanged (MRd F9000FFC) (bridge_command 2) 2 1
    ∷ refuses (MRd F9000FFC) (bridge_command 1) 40
    ∷ refuses (MRd F9000FFC) (function_command 1) 40
    ∷ []

abbrev pub by_id : List Claim
by_id =
    -- whatever the command words; type 1 arrives as type 0
    unchanged (CfgWr0 (target 0 0)) p10 1 0
    ∷ goes (CfgWr1 (target 1 0)) (bridge_command 0) 2 1 (CfgWr0 (target 1 0))
    ∷ refuses (CfgWr1 (target 1 8)) p10 40
    ∷ refuses (CfgWr1 (target 5 0)) p10 40
    ∷ unchanged (completion 1 0) p10 2 1
    ∷ unchanged (completion 0 0) p10 1 0
    ∷ refuses (completion 0 8) p10 40
    -- type 0 for another bus, type 1 for the root bus
    ∷ refuses (CfgWr0 (target 1 0)) p10 42
    ∷ refuses (CfgWr1 (target 0 0)) p10 42
    ∷ []

abbrev pub messages : List Claim
messages =
    -- 001 by address, by the memory bit
    unchanged (Msg 0b001 (to_address F9000FFC)) p10 2 1
    ∷ unchanged (MsgD 0b001 (to_address F9000FFC)) (bridge_command 2) 2 1
    ∷ refuses (Msg 0b001 (to_address F9000FFC)) (bridge_command 1) 40
    -- 010 by ID, 011 to every function, 100 to the port, whatever the command words
    ∷ unchanged (Msg 0b010 (to_id 1 0)) (bridge_command 0) 2 1
    ∷ refuses (MsgD 0b010 (to_id 1 8)) p10 40
    ∷ broadcasts (Msg 0b011 zeros) (bridge_command 0) 2
    ∷ ends (Msg 0b100 zeros) (bridge_command 0)
    -- 000 and 101 only travel up
    ∷ refuses (Msg 0b000 zeros) p10 43
    ∷ refuses (MsgD 0b101 zeros) p10 43
    ∷ []

abbrev pub ordered : List Claim
ordered =
    -- 40 for no functions is tried before 42 and 43, and for every packet
    refuses (CfgWr0 (target 1 0)) p8 40
    ∷ refuses (Msg 0b000 zeros) p8 40
    ∷ refuses (Msg 0b001 zeros) p8 40
    ∷ refuses (Msg 0b010 zeros) p8 40
    ∷ refuses (Msg 0b011 zeros) p8 40
    ∷ refuses (Msg 0b100 zeros) p8 40
    ∷ refuses (MsgD 0b101 zeros) p8 40
    -- the sheet before these, the header before the sheet
    ∷ refuses (CfgWr0 (target 1 0)) (sunk p10) 27
    ∷ refuses (Msg 0b000 zeros) (sunk p10) 27
    ∷ refuses (Msg 0b011 zeros) (sunk p10) 27
    ∷ refuses (MRd []) (sunk p10) 1
    ∷ refuses (Msg 0b110 zeros) (sunk p10) 2
    ∷ []

-- ## A slice lent for a broadcast's list

-- the number of a header over a sheet with this slice, and what the slice then holds
pub record Listing : Type 0 where
  pub header : List ℕ
  pub sheet : List ℕ
  pub slice : List ℕ
  pub number : ℕ
  pub after : List ℕ

abbrev pub HoldsListed : Listing → Type 0
HoldsListed c =
    let r = on_room (route_of c.header c.sheet) (length c.slice) in
    (number_of r ≡ c.number) × (list_after r c.sheet c.slice ≡ c.after)

abbrev pub lists : List ℕ → List ℕ → List ℕ → ℕ → List ℕ → Listing
lists h s slice n after = record { header = h; sheet = s; slice = slice; number = n; after = after }

abbrev pub listings : List Listing
listings =
    -- more room than the list takes, just enough, and short room, which stays as it was
    lists (Msg 0b011 zeros) p10 (7 ∷ 7 ∷ 7 ∷ []) 0 (1 ∷ 2 ∷ 7 ∷ [])
    ∷ lists (Msg 0b011 zeros) p10 (7 ∷ 7 ∷ []) 0 (1 ∷ 2 ∷ [])
    ∷ lists (Msg 0b011 zeros) p10 (7 ∷ []) 11 (7 ∷ [])
    -- room is tried last, and for a broadcast only
    ∷ lists (Msg 0b011 zeros) p8 [] 40 []
    ∷ lists (Msg 0b100 zeros) p10 [] 0 []
    ∷ []
