-- `claims::ids::claims_on`: on the target's bus the exact ID, else the bridges. Assumes nothing.
use Rattle.claims.specs.IdsLaws.{tally_on_target, tally_off_target}
use Rattle.claims.proofs.ids.claims_on.Goals as goal

pub returns-then-bus-target : goal.returns-then-bus-target
returns-then-bus-target c = tally_on_target _ c.args.id c.args.bus _ c.if-bus-target.true c.owner_of.ensures

pub returns : goal.returns
returns c = tally_off_target _ c.args.id c.args.bus _ c.if-bus-target.false c.bridges_toward.ensures
