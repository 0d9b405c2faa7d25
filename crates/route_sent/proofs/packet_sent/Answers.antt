-- `route_sent::packet_sent`: by who sends. Assumes nothing.
use mathlib.Core.Path.{sym, ◌∙◌}
use Rattle.route_sent.proofs.FunctionLaws.{sender_is}
use Rattle.route_sent.proofs.StepLaws.{sent_by_host, sent_by_function}
use Rattle.route_sent.proofs.packet_sent.Goals as goal

pub from_function-requires : goal.from_function-requires
from_function-requires c = (c.requires, rw c.named_by.ensures (sender_is c.args.host_id c.args.p _ _ (sym c.sender_of.ensures ∙ c.in-Function.is)))

pub returns-in-Host : goal.returns-in-Host
returns-in-Host c = sent_by_host c.args.host_id c.args.p _ _ c.sender_of.ensures c.in-Host.is _ c.route_packet.ensures

pub returns-in-Function : goal.returns-in-Function
returns-in-Function c = sent_by_function c.args.host_id c.args.p _ _ c.sender_of.ensures _ c.in-Function.is _ c.named_by.ensures _ c.from_function.ensures
