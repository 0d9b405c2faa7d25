-- Document 02, E11, "Card to card", in its order: the header's number before the sheet is read, the sheet's number, 45 for any other record
-- than a type 0 function of the sheet and any other packet than a memory or I/O request, and then the climb. Assumes nothing.
use Rattle.std.specs.Prelude.{ℕ, cond, Option, Some, None, List, eqb}
use Rattle.packet.specs.declared.Packet.{Packet}
use Rattle.packet.specs.declared.Packet.TheVariants.{Memory, Io, Config, Completion, Message}
use Rattle.tlp.specs.declared.Reading.{Reading}
use Rattle.tlp.specs.declared.Reading.TheVariants.{Accepted, Refused as NotRead}
use Rattle.tlp.specs.Reading.{read_of}
use Rattle.pools.specs.declared.Space.{Space}
use Rattle.pools.specs.declared.Space.TheVariants.{Memory as InMemory, Io as InPorts}
use Rattle.walk.specs.Climb.{Sent, arrives, leaves, stops, Start, starts, nowhere, start_at, up_from, climb_from, send_from}
use Rattle.sheet.specs.Sheet.{sheet_number}
use Rattle.sheet.specs.Spaces.{registers_of, enabled_of, master_of}
use Rattle.claims.specs.declared.Aim.TheVariants.{Address}
use Rattle.claims.specs.Claims.{tally_for}
use Rattle.route.specs.Route.{root}
use Rattle.route_cards.specs.declared.Sending.{Sending}
use Rattle.route_cards.specs.declared.Sending.TheVariants.{Delivered, Host, Refused}

-- the papers' number of a sending
abbrev pub number_of : Sending → ℕ
number_of (Delivered d) = 0
number_of (Host bridges p) = 0
number_of (Refused n) = n

abbrev pub no_start : ℕ
no_start = 45

-- ## Who may start what

-- memory and I/O requests, in their space from their start address on; a message is none
abbrev pub request_of : Packet → Option (Space × ℕ)
request_of (Memory k h e a) = Some (InMemory, a)
request_of (Io k h e a) = Some (InPorts, a)
request_of (Config k h e t) = None
request_of (Completion k h o) = None
request_of (Message k h routing code tail) = None

-- ## A request over a sheet that passes its checks

-- it arrives as it was sent
abbrev pub answer : Packet → Sent → Sending
answer p (arrives number count) = Delivered (record { owner = number; bridges = count; packet = p })
answer p (leaves count) = Host count p
answer p (stops n) = Refused n

abbrev pub send_request : Packet → List ℕ → Space → ℕ → Start → Sending
send_request p s space address (starts f) = answer p (send_from (enabled_of space s) (master_of s) (registers_of space s) address (root s) f)
send_request p s space address nowhere = Refused no_start

-- the climb from a bus on, with so many bridges crossed
abbrev pub climbed : Space → ℕ → List ℕ → ℕ → ℕ → ℕ → Sent
climbed space address s top bus crossed =
    climb_from (tally_for (Address space address) s) (up_from (master_of s) (registers_of space s) address top) bus crossed

abbrev pub on_request : ℕ → Packet → List ℕ → Option (Space × ℕ) → Sending
on_request number p s (Some (space, address)) = send_request p s space address (start_at (registers_of space s) number)
on_request number p s None = Refused no_start

unfoldable pub send_packet : ℕ → Packet → List ℕ → Sending
send_packet number p s = on_request number p s (request_of p)

-- ## A header over a sheet

unfoldable pub from_sheet : ℕ → Packet → List ℕ → Sending
from_sheet number p s = cond (eqb (sheet_number s) 0) (send_packet number p s) (Refused (sheet_number s))

abbrev pub from_reading : ℕ → Reading → List ℕ → Sending
from_reading number (Accepted p) s = from_sheet number p s
from_reading number (NotRead n) s = Refused n

unfoldable pub sending_of : ℕ → List ℕ → List ℕ → Sending
sending_of number header s = from_reading number (read_of header) s
