-- Document 03, E15, in its order: the header's number before the sheet is read, the sheet's number, the sender, and what becomes of the
-- packet from there: from the host what the router answers, from a function by the packet's heading. Assumes nothing.
use Rattle.std.specs.Prelude.{cond, List, ℕ, eqb}
use Rattle.packet.specs.declared.Packet.{Packet}
use Rattle.tlp.specs.declared.Reading.{Reading}
use Rattle.tlp.specs.declared.Reading.TheVariants.{Accepted, Refused as NotRead}
use Rattle.tlp.specs.Reading.{read_of}
use Rattle.walk.specs.Climb.{Sent, arrives, leaves, stops}
use Rattle.climb_ids.specs.ById.{sent_by_id, sent_up}
use Rattle.sheet.specs.Sheet.{sheet_number}
use Rattle.sheet.specs.Spaces.{nodes_of}
use Rattle.claims.specs.declared.Aim.TheVariants.{Address, Id}
use Rattle.route_arrival.specs.declared.Heading.{Heading}
use Rattle.route_arrival.specs.declared.Heading.TheVariants.{Aimed, Up, Every, Port as ToPort}
use Rattle.route_arrival.specs.Arrival.{heading_of}
use Rattle.route_answer.specs.Routing.{number_of as routing_number}
use Rattle.route_answer.specs.Listed as routing
use Rattle.route.specs.Route.{root, route_packet}
use Rattle.route_cards.specs.declared.Sending.{Sending}
use Rattle.route_cards.specs.declared.Sending.TheVariants.{Delivered as CardDelivered, Host as CardHost, Refused as CardRefused}
use Rattle.route_cards.specs.Sending.{no_start, send_packet}
use Rattle.route_sent.specs.declared.Fate.{Fate}
use Rattle.route_sent.specs.declared.Fate.TheVariants.{Delivered, Host, Port, Refused}
use Rattle.route_sent.specs.declared.BothEnds.{BothEnds}
use Rattle.route_sent.specs.declared.BothEnds.TheVariants.{FromHost, FromFunction, Refused as NotSent}
use Rattle.route_sender.specs.declared.Sender.{Sender}
use Rattle.route_sender.specs.declared.Sender.TheVariants.{Host as HostSends, Function as FunctionSends}
use Rattle.route_sender.specs.declared.SentBy.{SentBy}
use Rattle.route_sender.specs.declared.SentBy.TheVariants.{Told, Refused as NotTold}
use Rattle.route_sender.specs.Sender.{named_by, sender_of}

-- ## From a function

-- E11's answer
abbrev pub fate_of : Sending → Fate
fate_of (CardDelivered d) = Delivered d
fate_of (CardHost bridges p) = Host bridges p
fate_of (CardRefused n) = Refused n

-- it arrives as it was sent
abbrev pub answer : Packet → Sent → Fate
answer p (arrives number count) = Delivered (record { owner = number; bridges = count; packet = p })
answer p (leaves count) = Host count p
answer p (stops n) = Refused n

-- By where it is headed, below a host with this ID, from the record with this number and this ID. "A memory or I/O request goes as E11 has
-- it, with E11's numbers"; so does a message 001, which is 45 there. "Messages 000 and 101 go up to the host"; "100 ends at the port"; "A
-- completion, and a message 010, go by ID." No message 011 starts at a function.
abbrev pub on_heading : ℕ → ℕ → ℕ → Packet → List ℕ → Heading → Fate
on_heading host_id number own p s (Aimed (Address space address)) = fate_of (send_packet number p s)
on_heading host_id number own p s Up = answer p (sent_up (nodes_of s) (root s) own)
on_heading host_id number own p s ToPort = Port p
on_heading host_id number own p s (Aimed (Id id)) = answer p (sent_by_id host_id (nodes_of s) (root s) number own id)
on_heading host_id number own p s Every = Refused no_start

unfoldable pub from_function : ℕ → ℕ → ℕ → Packet → List ℕ → Fate
from_function host_id number own p s = on_heading host_id number own p s (heading_of p)

-- ## A packet over a sheet that passes its checks

-- "From the host the answer is the router's"; else "that record is named in the answer"
abbrev pub from_sender : ℕ → Packet → List ℕ → Sender → BothEnds
from_sender host_id p s HostSends = FromHost (route_packet p s)
from_sender host_id p s (FunctionSends number) = FromFunction number (from_function host_id number (named_by p) p s)

unfoldable pub ends_of : ℕ → Packet → List ℕ → BothEnds
ends_of host_id p s = from_sender host_id p s (sender_of host_id p s)

-- ## A header over a sheet: "Numbers: the reader's, then the sheet's checks, then those below."

unfoldable pub from_sheet : ℕ → Packet → List ℕ → BothEnds
from_sheet host_id p s = cond (eqb (sheet_number s) 0) (ends_of host_id p s) (NotSent (sheet_number s))

abbrev pub from_reading : ℕ → Reading → List ℕ → BothEnds
from_reading host_id (Accepted p) s = from_sheet host_id p s
from_reading host_id (NotRead n) s = NotSent n

unfoldable pub both_ends_of : ℕ → List ℕ → List ℕ → BothEnds
both_ends_of host_id header s = from_reading host_id (read_of header) s

-- "The answer names the sender also where it is refused with 40, 41, 44 or 45; with the reader's or the sheet's number there is none."
abbrev pub named_in : BothEnds → SentBy
named_in (FromHost r) = Told HostSends
named_in (FromFunction number f) = Told (FunctionSends number)
named_in (NotSent n) = NotTold n

-- the papers' number of it: 0 where it is not refused
abbrev pub fate_number : Fate → ℕ
fate_number (Delivered d) = 0
fate_number (Host bridges p) = 0
fate_number (Port p) = 0
fate_number (Refused n) = n

abbrev pub number_of : BothEnds → ℕ
number_of (FromHost r) = routing_number r
number_of (FromFunction number f) = fate_number f
number_of (NotSent n) = n

-- ## A broadcast's list, which only the host sends: as the router has it

abbrev pub on_room : BothEnds → ℕ → BothEnds
on_room (FromHost r) room = FromHost (routing.on_room r room)
on_room (FromFunction number f) room = FromFunction number f
on_room (NotSent n) room = NotSent n

-- what the slice holds after the answer
abbrev pub listed_after : BothEnds → List ℕ → List ℕ
listed_after (FromHost r) list = routing.listed_after r list
listed_after (FromFunction number f) list = list
listed_after (NotSent n) list = list
