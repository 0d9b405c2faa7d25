-- Document 03, E15, of a trace: a record's line with both ends. Its number and its kind are E4's; then who sends the packet and who gets it:
-- `4 MWr from 3 to host`, `6 MRd from host to 4`, a broadcast's `from host to all`, form 100's `from 3 to port`. "The answer names the
-- sender also where it is refused with 40, 41, 44 or 45", as `7 MWr from 3 refused 44`; "with the reader's or the sheet's number there is
-- none". Assumes nothing.
use Rattle.std.specs.Prelude.{ℕ, List, ◌++◌}
use Rattle.text.specs.Text.{ascii, decimal}
use Rattle.packet_text.specs.Labels.{named}
use Rattle.tlp.specs.Reading.{read_of}
use Rattle.route_answer.specs.declared.Routing.{Routing}
use Rattle.route_answer.specs.declared.Routing.TheVariants.{Delivered as RoutedTo, Broadcast, Port as RoutedToPort, Refused as NotRouted}
use Rattle.route_sent.specs.declared.Fate.{Fate}
use Rattle.route_sent.specs.declared.Fate.TheVariants.{Delivered, Host, Port, Refused}
use Rattle.route_sent.specs.declared.BothEnds.{BothEnds}
use Rattle.route_sent.specs.declared.BothEnds.TheVariants.{FromHost, FromFunction, Refused as NotSent}
use Rattle.route_sent.specs.BothEnds.{both_ends_of}
use Rattle.trace_label.specs.Label.{kind_read}

-- from the host
abbrev pub routed_text : Routing → List ℕ
routed_text (RoutedTo d) = named " to " d.owner
routed_text (Broadcast functions p) = ascii " to all"
routed_text (RoutedToPort p) = ascii " to port"
routed_text (NotRouted n) = named " refused " n

-- from a function
abbrev pub fate_text : Fate → List ℕ
fate_text (Delivered d) = named " to " d.owner
fate_text (Host bridges p) = ascii " to host"
fate_text (Port p) = ascii " to port"
fate_text (Refused n) = named " refused " n

abbrev pub ends_text : BothEnds → List ℕ
ends_text (FromHost routing) = ascii " from host" ++ routed_text routing
ends_text (FromFunction number fate) = named " from " number ++ fate_text fate
ends_text (NotSent n) = named " refused " n

-- the kind is as read, a refused header's `-`
unfoldable pub label_ends : ℕ → List ℕ → List ℕ → List ℕ
label_ends host_id sheet header = ascii " " ++ (kind_read (read_of header) ++ ends_text (both_ends_of host_id header sheet))

-- of record n
unfoldable pub line_ends : ℕ → List ℕ → ℕ → List ℕ → List ℕ
line_ends host_id sheet n header = decimal n ++ (label_ends host_id sheet header ++ ascii "\n")
