-- `route_sent::from_function`: by where the packet is headed. Assumes nothing.
use mathlib.Core.Path.{ap, ◌∙◌}
use Rattle.route_arrival.specs.declared.Heading.TheVariants.{Aimed, Up, Every, Port}
use Rattle.route_sent.specs.BothEnds.{fate_of}
use Rattle.route_sent.proofs.StepLaws.{headed_as}
use Rattle.route_sent.proofs.from_function.Goals as goal

pub returns-in-Address : goal.returns-in-Address
returns-in-Address c = c.fate_of.ensures ∙ ap fate_of c.send_packet.ensures ∙ headed_as c.args.host_id c.args.number c.args.own c.args.p _ c.heading_of.result c.heading_of.ensures _ (c.in-Aimed.is ∙ ap Aimed c.in-Address.is)

pub returns-in-Id : goal.returns-in-Id
returns-in-Id c = c.send_by_id.ensures ∙ headed_as c.args.host_id c.args.number c.args.own c.args.p _ c.heading_of.result c.heading_of.ensures _ (c.in-Aimed.is ∙ ap Aimed c.in-Id.is)

pub returns-in-Up : goal.returns-in-Up
returns-in-Up c = c.send_up.ensures ∙ headed_as c.args.host_id c.args.number c.args.own c.args.p _ c.heading_of.result c.heading_of.ensures Up c.in-Up.is

pub returns-in-Every : goal.returns-in-Every
returns-in-Every c = headed_as c.args.host_id c.args.number c.args.own c.args.p _ c.heading_of.result c.heading_of.ensures Every c.in-Every.is

pub returns-in-Port : goal.returns-in-Port
returns-in-Port c = headed_as c.args.host_id c.args.number c.args.own c.args.p _ c.heading_of.result c.heading_of.ensures Port c.in-Port.is
