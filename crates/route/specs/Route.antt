-- Document 01, "The walk", in its order: the header's number before the sheet is read, the sheet's number, 40 for a sheet with no
-- functions, 42, and then the walk from the bus of the first record. With document 02, E1: 43 where 42 is, and the messages that go to
-- every function or end at the port. Assumes nothing.
use Rattle.std.specs.Prelude.{ℕ, cond, List, length, eqb}
use Rattle.packet.specs.declared.Packet.{Packet}
use Rattle.tlp.specs.declared.Reading.{Reading}
use Rattle.tlp.specs.declared.Reading.TheVariants.{Accepted, Refused as NotRead}
use Rattle.tlp.specs.Reading.{read_of}
use Rattle.walk.specs.Registers.{root_of}
use Rattle.walk.specs.Walk.{Outcome, delivered, refused, no_owner, walk_from}
use Rattle.sheet.specs.Sheet.{sheet_number}
use Rattle.sheet.specs.Spaces.{nodes_of}
use Rattle.claims.specs.declared.Aim.{Aim}
use Rattle.claims.specs.Claims.{tally_for}
use Rattle.route_arrival.specs.declared.Heading.{Heading}
use Rattle.route_answer.specs.declared.Routing.{Routing}
use Rattle.route_answer.specs.declared.Routing.TheVariants.{Refused}
use Rattle.route_answer.specs.Routing.{headed_over, typed_over}
use Rattle.route.specs.declared.Walked.{Walked}
use Rattle.route.specs.declared.Walked.TheVariants.{Delivered as WalkedTo, Refused as WalkRefused}

-- ## The walk

-- where the code's walk ends, as the walk has it
abbrev pub outcome_of : Walked → Outcome
outcome_of (WalkedTo number bridges) = delivered number bridges
outcome_of (WalkRefused n) = refused n

-- what the walk comes to, from a bus on with so many bridges crossed
abbrev pub walked : Aim → List ℕ → ℕ → ℕ → Outcome
walked aim s bus crossed = walk_from (tally_for aim s) bus crossed

abbrev pub root : List ℕ → ℕ
root s = root_of (nodes_of s)

-- ## A packet over a sheet that passes its checks: the walk begins on the bus of the first record

abbrev pub on_heading : Heading → Packet → List ℕ → Routing
on_heading h p s = headed_over (length (nodes_of s)) (λ aim. walked aim s (root s) 0) h p

unfoldable pub from42 : Packet → List ℕ → Routing
from42 p s = typed_over (length (nodes_of s)) (root s) (λ aim. walked aim s (root s) 0) p

unfoldable pub route_packet : Packet → List ℕ → Routing
route_packet p s = cond (eqb (length (nodes_of s)) 0) (Refused no_owner) (from42 p s)

-- ## A header over a sheet

-- the sheet's number, if it has one, before anything of the packet
unfoldable pub from_sheet : Packet → List ℕ → Routing
from_sheet p s = cond (eqb (sheet_number s) 0) (route_packet p s) (Refused (sheet_number s))

-- only a header that was accepted is taken further
abbrev pub from_reading : Reading → List ℕ → Routing
from_reading (Accepted p) s = from_sheet p s
from_reading (NotRead n) s = Refused n

unfoldable pub route_of : List ℕ → List ℕ → Routing
route_of header s = from_reading (read_of header) s
