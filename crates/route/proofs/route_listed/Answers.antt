-- `route::route_listed`: the router's answer with its list, which is the sheet's. Assumes nothing.
use Rattle.route.proofs.ListedLaws.{route_listed}
use Rattle.route.proofs.route_listed.Goals as goal

pub returns : goal.returns
returns c = let both = route_listed _ _ _ _ c.route.ensures _ _ (c.listed.ensures.value, c.listed.ensures.list_after) in
    record { value = both.0; list_after = both.1 }
