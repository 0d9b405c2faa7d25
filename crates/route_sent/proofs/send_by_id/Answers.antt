-- `route_sent::send_by_id`: up for the host's own ID, else from the sender's bus on. Assumes nothing.
use Rattle.route_sent.proofs.StepLaws.{hosts_id, not_hosts_id}
use Rattle.route_sent.proofs.send_by_id.Goals as goal

pub returns-then-id-host_id : goal.returns-then-id-host_id
returns-then-id-host_id c = hosts_id c.args.host_id c.args.p _ c.args.number c.args.own c.args.id c.if-id-host_id.true _ c.send_up.ensures

pub returns : goal.returns
returns c = not_hosts_id c.args.host_id c.args.p _ c.args.number c.args.own c.args.id c.if-id-host_id.false _ c.send_to_other.ensures
