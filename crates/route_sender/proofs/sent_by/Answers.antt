-- `route_sender::sent_by`: a header that was not accepted gives its number, then a sheet that does not pass; then who is named. Assumes nothing.
use Rattle.route_sender.specs.SenderLaws.{header_refused, sheet_refused, sender_told}
use Rattle.route_sender.proofs.sent_by.Goals as goal

pub returns-in_default : goal.returns-in_default
returns-in_default c = header_refused c.args.host_id _ _ _ c.read-reading.ensures _ _ c.in_default.is c.number.ensures

pub returns-then-n-ne0 : goal.returns-then-n-ne0
returns-then-n-ne0 c = sheet_refused c.args.host_id _ _ _ c.read-reading.ensures _ c.in-Accepted.is _ c.check-n.ensures c.if-n-ne0.true

pub returns : goal.returns
returns c = sender_told c.args.host_id _ _ _ c.read-reading.ensures _ c.in-Accepted.is _ c.check-n.ensures c.if-n-ne0.false _ c.sender_of.ensures
