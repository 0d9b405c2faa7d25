-- `route_sent::route_sent`: a header that was not accepted gives its number, then a sheet that does not pass; what is left is the packet's
-- own call. Assumes nothing.
use Rattle.route_sent.proofs.StepLaws.{header_refused, sheet_refused, packet_ends}
use Rattle.route_sent.proofs.route_sent.Goals as goal

pub returns-in_default : goal.returns-in_default
returns-in_default c = header_refused c.args.host_id _ _ _ c.read-reading.ensures _ _ c.in_default.is c.number.ensures

pub returns-then-n-ne0 : goal.returns-then-n-ne0
returns-then-n-ne0 c = sheet_refused c.args.host_id _ _ _ c.read-reading.ensures _ c.in-Accepted.is _ c.check-n.ensures c.if-n-ne0.true

pub returns : goal.returns
returns c = packet_ends c.args.host_id _ _ _ c.read-reading.ensures _ c.in-Accepted.is _ c.check-n.ensures _ c.if-n-ne0.false c.packet_sent.ensures
