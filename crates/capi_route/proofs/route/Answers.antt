-- `capi_route::route` meets its contract: by what the router answers. Assumes nothing.
use Rattle.capi_route.specs.CallsLaws.{route_answered}
use Rattle.capi_route.proofs.route.Goals as goal

pub returns : goal.returns
returns c = let both = route_answered _ _ c.args.answer.now _ c.route.ensures _ _
    (c.give_routing.ensures.value, c.give_routing.ensures.out_after) in
    record { value = both.0; answer_after = both.1 }
