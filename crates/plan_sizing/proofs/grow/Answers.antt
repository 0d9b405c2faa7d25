-- `plan_sizing::grow` meets its contract: what is cut before a sum and after it is what is cut of the whole sum. Assumes nothing.
use Rattle.plan_rule.proofs.CapLaws.{cap_grow}
use Rattle.plan_sizing.proofs.grow.Goals as goal

pub returns : goal.returns
returns c = cap_grow c.args.e c.args.size c.args.align _ _ _ c.start_at-start.ensures.0 c.end_of.ensures c.max.ensures
