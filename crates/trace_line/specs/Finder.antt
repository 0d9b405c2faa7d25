-- Document 02, E4 and E8: who finds a header's owner, and in which bytes: the router in a sheet, or the search in an index. Assumes
-- nothing.
use Rattle.std.specs.Prelude.{ℕ, ◌≡◌, List}
use Rattle.packet.specs.declared.Packet.{Packet}
use Rattle.sheet.specs.Sheet.{sheet_number}
use Rattle.route_answer.specs.declared.Routing.{Routing}
use Rattle.route.specs.Route.{from_sheet, route_of}
use Rattle.index_search.specs.Search.{search_packet, search_of}
use Rattle.trace_line.specs.declared.Finder.{Finder}
use Rattle.trace_line.specs.declared.Finder.TheVariants.{Sheet, Index}
use Rattle.trace_label.specs.Label.{label_with}
use Rattle.trace_line.specs.Line.{line_with}

-- the number that it has is its sheet's
abbrev pub Knows : Finder → List ℕ → Type 0
Knows (Sheet number) bytes = number ≡ sheet_number bytes
Knows Index bytes = Unit {0}

-- a packet, and a header
unfoldable pub packet_by : Finder → Packet → List ℕ → Routing
packet_by (Sheet number) p bytes = from_sheet p bytes
packet_by Index p bytes = search_packet p bytes

unfoldable pub routing_by : Finder → List ℕ → List ℕ → Routing
routing_by (Sheet number) bytes header = route_of header bytes
routing_by Index bytes header = search_of header bytes

abbrev pub label_by : Finder → List ℕ → List ℕ → List ℕ
label_by finder bytes = label_with (routing_by finder bytes)

abbrev pub line_by : Finder → List ℕ → ℕ → List ℕ → List ℕ
line_by finder bytes = line_with (routing_by finder bytes)
