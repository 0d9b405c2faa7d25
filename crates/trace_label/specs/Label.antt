-- Document 02, E4, of a record's line "`1 MRd owner 2` or `2 IOWr refused 40`" what follows its number: "the kind is as read, a refused
-- header's `-`, a broadcast's owner `all`, form 100's `port`." By document 01's reader and any routing. Assumes nothing.
use Rattle.std.specs.Prelude.{ℕ, List, ◌++◌}
use Rattle.text.specs.Text.{ascii}
use Rattle.packet.specs.Fields.{kind_of}
use Rattle.packet_text.specs.Labels.{kind_text, named}
use Rattle.tlp.specs.declared.Reading.{Reading}
use Rattle.tlp.specs.declared.Reading.TheVariants.{Accepted, Refused as NotRead}
use Rattle.tlp.specs.Reading.{read_of}
use Rattle.route_answer.specs.declared.Routing.{Routing}
use Rattle.route_answer.specs.declared.Routing.TheVariants.{Delivered, Broadcast, Port, Refused}

-- the kind as read
abbrev pub kind_read : Reading → List ℕ
kind_read (Accepted p) = kind_text (kind_of p)
kind_read (NotRead n) = ascii "-"

abbrev pub owner_text : Routing → List ℕ
owner_text (Delivered d) = named " owner " d.owner
owner_text (Broadcast functions p) = ascii " owner all"
owner_text (Port p) = ascii " owner port"
owner_text (Refused n) = named " refused " n

abbrev pub label_of : Reading → Routing → List ℕ
label_of reading routing = ascii " " ++ (kind_read reading ++ owner_text routing)

-- of a header that `route` takes somewhere
unfoldable pub label_with : (List ℕ → Routing) → List ℕ → List ℕ
label_with route header = label_of (read_of header) (route header)
