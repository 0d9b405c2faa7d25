-- Document 03, E15, "The sender": who sends a packet, by the host's own ID, a header and a sheet. Assumes nothing.
use Rattle.std.specs.Prelude.{Bool, true, false, cond, ◌||◌, List, [], ◌∷◌, ℕ, ◌/◌, ◌%◌, eqb}
use Rattle.lists.specs.Lists.{keep}
use Rattle.pairs.specs.declared.MessageRouting.{MessageRouting}
use Rattle.pairs.specs.declared.MessageRouting.TheVariants.{ToRoot, ByAddress, ById, Broadcast, Local, Gathered}
use Rattle.packet.specs.declared.Packet.{Packet}
use Rattle.packet.specs.declared.Packet.TheVariants.{Memory, Io, Config, Completion, Message}
use Rattle.tlp.specs.declared.Reading.{Reading}
use Rattle.tlp.specs.declared.Reading.TheVariants.{Accepted, Refused as NotRead}
use Rattle.tlp.specs.Reading.{read_of}
use Rattle.walk.specs.Registers.{Node}
use Rattle.walk.specs.Ids.{has_id}
use Rattle.sheet.specs.Sheet.{sheet_number}
use Rattle.sheet.specs.Spaces.{nodes_of}
use Rattle.route_sender.specs.declared.Sender.{Sender}
use Rattle.route_sender.specs.declared.Sender.TheVariants.{Host, Function}
use Rattle.route_sender.specs.declared.SentBy.{SentBy}
use Rattle.route_sender.specs.declared.SentBy.TheVariants.{Told, Refused}

-- "A completion names its sender by its completer ID, any other header by its requester ID."
abbrev pub named_by : Packet → ℕ
named_by (Memory k h e a) = h.requester
named_by (Io k h e a) = h.requester
named_by (Config k h e t) = h.requester
named_by (Completion k h o) = o.completer
named_by (Message k h routing code tail) = h.requester

abbrev pub is_broadcast : MessageRouting → Bool
is_broadcast ToRoot = false
is_broadcast ByAddress = false
is_broadcast ById = false
is_broadcast Broadcast = true
is_broadcast Local = false
is_broadcast Gathered = false

-- "Configuration requests and messages 011 (broadcast) start at the host, whoever they name."
abbrev pub starts_at_host : Packet → Bool
starts_at_host (Memory k h e a) = false
starts_at_host (Io k h e a) = false
starts_at_host (Config k h e t) = true
starts_at_host (Completion k h o) = false
starts_at_host (Message k h routing code tail) = is_broadcast routing

-- "A header that names .. an ID that no function of the sheet has, starts at the host. Any other starts at the function with that ID
-- (28: there is one)"
abbrev pub first_named : List Node → Sender
first_named [] = Host
first_named (n ∷ ns) = Function n.number

abbrev pub named_in : List ℕ → ℕ → Sender
named_in s id = first_named (keep (has_id (id / 256) (id % 256)) (nodes_of s))

-- "A header that names the host's own ID .. starts at the host.", also where a function has that ID
unfoldable pub sender_of : ℕ → Packet → List ℕ → Sender
sender_of host_id p s = cond (starts_at_host p || eqb (named_by p) host_id) Host (named_in s (named_by p))

-- ## A header over a sheet: "Numbers: the reader's, then the sheet's checks"

unfoldable pub from_sheet : ℕ → Packet → List ℕ → SentBy
from_sheet host_id p s = cond (eqb (sheet_number s) 0) (Told (sender_of host_id p s)) (Refused (sheet_number s))

abbrev pub from_reading : ℕ → Reading → List ℕ → SentBy
from_reading host_id (Accepted p) s = from_sheet host_id p s
from_reading host_id (NotRead n) s = Refused n

unfoldable pub sent_by_of : ℕ → List ℕ → List ℕ → SentBy
sent_by_of host_id header s = from_reading host_id (read_of header) s

-- the papers' number of it: 0 where it is not refused
abbrev pub number_of : SentBy → ℕ
number_of (Told x) = 0
number_of (Refused n) = n
