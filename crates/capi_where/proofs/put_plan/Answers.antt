-- `capi_where::put_plan` meets its contract: eight stores by three calls. Assumes nothing.
use Rattle.capi_where.specs.CallsLaws.{plan_put}
use Rattle.capi_where.proofs.put_plan.Goals as goal

pub returns : goal.returns
returns c = plan_put c.args.found c.args.who.now _ _ _ c.put_party.ensures c.put_party-2.ensures c.put_needs.ensures
