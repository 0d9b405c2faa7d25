-- `trace_line::label_packet` meets its contract: a packet's name and way, or a refusal. Assumes nothing.
use Rattle.trace_label.specs.LabelLaws.{labels_accepted, labels_refused}
use Rattle.trace_line.specs.Finder.{routing_by}
use Rattle.trace_line.specs.LineLaws.{routing_accepted, routing_refused}
use Rattle.trace_line.proofs.label_packet.Goals as goal

pub returns-in-Accepted : goal.returns-in-Accepted
returns-in-Accepted c = let routed =
    routing_accepted c.args.finder c.args.bytes.now c.args.header.now _ c.read.ensures _ c.in-Accepted.is _ c.route_by.ensures in
    labels_accepted (routing_by c.args.finder c.args.bytes.now) c.args.header.now _ c.read.ensures _ c.in-Accepted.is
    _ c.name_of.ensures _ routed _ c.way_of.ensures

pub returns-in-Refused : goal.returns-in-Refused
returns-in-Refused c = let refused = routing_refused c.args.finder c.args.bytes.now c.args.header.now _ c.read.ensures _ c.in-Refused.is in
    labels_refused (routing_by c.args.finder c.args.bytes.now) c.args.header.now _ c.read.ensures _ c.in-Refused.is refused
