-- `route_sender::sender_of`: the host's own, else who is named. Assumes nothing.
use Rattle.route_sender.specs.SenderLaws.{sender_host, sender_named}
use Rattle.route_sender.proofs.sender_of.Goals as goal

pub returns-then-starts_at_host-id : goal.returns-then-starts_at_host-id
returns-then-starts_at_host-id c = sender_host c.args.host_id c.args.p _ _ c.named_by-id.ensures _ c.starts_at_host.ensures c.if-starts_at_host-id.true

pub returns : goal.returns
returns c = sender_named c.args.host_id c.args.p _ _ c.named_by-id.ensures _ c.starts_at_host.ensures c.if-starts_at_host-id.false _ c.named_in.ensures
