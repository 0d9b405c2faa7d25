-- `route_cards::send_packet`: what is asked for, then whether the record is a type 0 function. Assumes nothing.
use Rattle.sheet.proofs.SheetLaws.{checked_of_zero}
use Rattle.route_cards.specs.StepLaws.{no_request, no_start, from_type_0}
use Rattle.route_cards.proofs.send_packet.Goals as goal

pub is_type_0-requires : goal.is_type_0-requires
is_type_0-requires c = checked_of_zero _ c.requires

pub returns-then-not-is_type_0 : goal.returns-then-not-is_type_0
returns-then-not-is_type_0 c = no_start c.args.p _ (checked_of_zero _ c.requires) _ c.request_of.result c.request_of.ensures _ _
    c.in-Some.is _ c.is_type_0.ensures (c.if-not-is_type_0.true)

pub send_request-requires : goal.send_request-requires
send_request-requires c = (checked_of_zero _ c.requires, c.is_type_0.ensures.yes (c.if-not-is_type_0.false))

pub returns-else-not-is_type_0 : goal.returns-else-not-is_type_0
returns-else-not-is_type_0 c = from_type_0 c.args.p _ (checked_of_zero _ c.requires) _ c.request_of.result c.request_of.ensures _ _
    c.in-Some.is _ c.is_type_0.ensures (c.if-not-is_type_0.false) _ c.send_request.ensures

pub returns-in-None : goal.returns-in-None
returns-in-None c = no_request c.args.p _ (checked_of_zero _ c.requires) _ c.request_of.result c.request_of.ensures
    c.in-None.is
