-- Worked examples of both ends on bytes, as three tables under one claim: P10's sheet with a card beside its bridge; packets from its
-- functions, by ID and otherwise; who sends; and each number in its order. Assumes nothing.
use Rattle.std.specs.Prelude.{◌≡◌, ℕ, drop, set}
use mathlib.Core.List.{List, [], ◌∷◌, ◌++◌}
use Rattle.packet.specs.declared.Packet.{Packet}
use Rattle.tlp.specs.declared.Reading.{Reading}
use Rattle.tlp.specs.declared.Reading.TheVariants.{Accepted, Refused as NotRead}
use Rattle.tlp.specs.Reading.{read_of}
use Rattle.sheet.specs.Examples.{p8, p10, sunk}
use Rattle.route_answer.specs.declared.Routing.{Routing}
use Rattle.route_answer.specs.declared.Routing.TheVariants.{Broadcast, Refused as NotRouted}
use Rattle.route.specs.Examples.{MRd, CfgWr0, Msg, completion, target, to_id, to_address, zeros, F9000FFC, FA000000, delivers}
use Rattle.route_sent.specs.declared.Fate.TheVariants.{Delivered, Host, Port, Refused}
use Rattle.route_sent.specs.declared.BothEnds.{BothEnds}
use Rattle.route_sent.specs.declared.BothEnds.TheVariants.{FromHost, FromFunction, Refused as NotSent}
use Rattle.route_sent.specs.BothEnds.{both_ends_of}

-- ## P10's sheet: the bridge at 0000h, its function at 0100h; and a third record, a function at 0008h, its low BAR at FB000000

abbrev beside : List ℕ
beside = set (set (set (drop 93 p10) 2 0) 3 8) 23 0xFB

-- with these low bytes of the three command words
abbrev commanded : ℕ → ℕ → ℕ → List ℕ
commanded a b c = set (set (set (p10 ++ beside) 9 a) 101 b) 193 c

-- memory, I/O and bus master; none of them
abbrev all : List ℕ
all = commanded 7 7 7

abbrev none : List ℕ
none = commanded 0 0 0

abbrev FB000000 : List ℕ
FB000000 = 0xFB ∷ 0 ∷ 0 ∷ 0 ∷ []

-- a header that names this sender: bytes 4-5 are a request's requester and a completion's completer
abbrev sent_by : ℕ → ℕ → List ℕ → List ℕ
sent_by bus devfn h = set (set h 4 bus) 5 devfn

-- ## The tables

-- a header over a sheet below a host with this ID, and both ends
pub record Claim : Type 0 where
  pub host_id : ℕ
  pub header : List ℕ
  pub sheet : List ℕ
  pub ends : BothEnds

abbrev pub Holds : Claim → Type 0
Holds c = both_ends_of c.host_id c.header c.sheet ≡ c.ends

-- with the packet that is read: of a header that is not accepted no such claim holds
abbrev with : (Packet → BothEnds) → Reading → BothEnds
with ends (Accepted p) = ends p
with ends (NotRead n) = NotSent 0

abbrev arrives : ℕ → List ℕ → List ℕ → ℕ → ℕ → Claim
arrives k h s number bridges =
    record {
      host_id = 0xFFFF;
      header = h;
      sheet = s;
      ends = with (λ p. FromFunction k (Delivered (record { owner = number; bridges = bridges; packet = p }))) (read_of h);
    }

abbrev reaches_host : ℕ → ℕ → List ℕ → List ℕ → ℕ → Claim
reaches_host id k h s bridges =
    record { host_id = id; header = h; sheet = s; ends = with (λ p. FromFunction k (Host bridges p)) (read_of h) }

abbrev leaves : ℕ → List ℕ → List ℕ → ℕ → Claim
leaves k h s bridges = reaches_host 0xFFFF k h s bridges

abbrev ends_at_port : ℕ → List ℕ → List ℕ → Claim
ends_at_port k h s = record { host_id = 0xFFFF; header = h; sheet = s; ends = with (λ p. FromFunction k (Port p)) (read_of h) }

abbrev refuses : ℕ → List ℕ → List ℕ → ℕ → Claim
refuses k h s n = record { host_id = 0xFFFF; header = h; sheet = s; ends = FromFunction k (Refused n) }

abbrev from_host_lem : ℕ → List ℕ → List ℕ → (Packet → Routing) → Claim
from_host_lem id h s routing = record { host_id = id; header = h; sheet = s; ends = with (λ p. FromHost (routing p)) (read_of h) }

abbrev not_sent : List ℕ → List ℕ → ℕ → Claim
not_sent h s n = record { host_id = 0xFFFF; header = h; sheet = s; ends = NotSent n }

abbrev pub by_id_lem : List Claim
by_id_lem =
    -- for the host's own ID, also where a function beside or a bridge above has it; no command bit is asked for
    leaves 2 (sent_by 1 0 (completion 0xFF 0xFF)) none 1
    ∷ leaves 2 (sent_by 1 0 (Msg 0b010 (to_id 0xFF 0xFF))) none 1
    ∷ reaches_host 0x0008 2 (sent_by 1 0 (completion 0 8)) none 1
    ∷ reaches_host 0x0008 1 (sent_by 0 0 (completion 0 8)) none 0
    ∷ reaches_host 0x0000 2 (sent_by 1 0 (completion 0 0)) none 1
    -- for an ID that nobody has, on no bus of the root bus's bridges
    ∷ leaves 2 (sent_by 1 0 (completion 0xFF 0)) none 1
    ∷ leaves 3 (sent_by 0 8 (completion 0xFF 0)) none 0
    -- up and beside, down, and to the bridge come through
    ∷ arrives 2 (sent_by 1 0 (completion 0 8)) none 3 1
    ∷ arrives 3 (sent_by 0 8 (completion 1 0)) none 2 1
    ∷ arrives 2 (sent_by 1 0 (completion 0 0)) none 1 1
    -- from a bridge: down through itself, and beside it
    ∷ arrives 1 (sent_by 0 0 (completion 1 0)) none 2 1
    ∷ arrives 1 (sent_by 0 0 (completion 0 8)) none 3 0
    -- its own ID, and IDs that nobody has on a bus below the root bus
    ∷ refuses 2 (sent_by 1 0 (completion 1 0)) none 40
    ∷ refuses 3 (sent_by 0 8 (completion 0 8)) none 40
    ∷ refuses 2 (sent_by 1 0 (completion 1 8)) none 40
    ∷ refuses 3 (sent_by 0 8 (completion 1 8)) none 40
    -- messages 010 the same
    ∷ arrives 2 (sent_by 1 0 (Msg 0b010 (to_id 0 8))) none 3 1
    ∷ leaves 2 (sent_by 1 0 (Msg 0b010 (to_id 0x40 0))) none 1
    ∷ refuses 3 (sent_by 0 8 (Msg 0b010 (to_id 0 8))) none 40
    ∷ []

abbrev pub others : List Claim
others =
    -- requests as E11 has them
    arrives 2 (sent_by 1 0 (MRd FB000000)) all 3 1
    ∷ leaves 2 (sent_by 1 0 (MRd FA000000)) all 1
    ∷ refuses 2 (sent_by 1 0 (MRd FB000000)) none 44
    ∷ refuses 1 (sent_by 0 0 (MRd FB000000)) all 45
    -- messages: up, to the port, and by address
    ∷ leaves 2 (sent_by 1 0 (Msg 0b000 zeros)) none 1
    ∷ leaves 1 (sent_by 0 0 (Msg 0b101 zeros)) none 0
    ∷ ends_at_port 2 (sent_by 1 0 (Msg 0b100 zeros)) none
    ∷ refuses 2 (sent_by 1 0 (Msg 0b001 (to_address FB000000))) all 45
    ∷ []

abbrev pub senders : List Claim
senders =
    -- the host's own ID, also where a function has it; an ID that no function has
    from_host_lem 0x0100 (sent_by 1 0 (MRd FB000000)) all (delivers 3 0)
    ∷ from_host_lem 0xFFFF (sent_by 0 9 (MRd F9000FFC)) all (delivers 2 1)
    -- configuration and broadcasts, whoever they name
    ∷ from_host_lem 0xFFFF (sent_by 1 0 (CfgWr0 (target 0 8))) all (delivers 3 0)
    ∷ from_host_lem 0xFFFF (sent_by 1 0 (Msg 0b011 zeros)) all (Broadcast 3)
    -- messages that only travel up, from the host
    ∷ from_host_lem 0x0100 (sent_by 1 0 (Msg 0b000 zeros)) all (λ p. NotRouted 43)
    -- no functions
    ∷ from_host_lem 0xFFFF (sent_by 1 0 (completion 0 0)) p8 (λ p. NotRouted 40)
    -- the sheet's number, and the header's before it
    ∷ not_sent (sent_by 1 0 (completion 0 0)) (sunk p10) 27
    ∷ not_sent (MRd []) (sunk p10) 1
    ∷ []
