-- `plan_sizing::with_spare` meets its contract: no room moves nothing, and some is one item more in the low pool. Assumes nothing.
use Rattle.pools.specs.declared.Pool.TheVariants.{Low}
use Rattle.plan_rule.proofs.PoolLaws.{granule_power}
use Rattle.plan_sizing.specs.CutLaws.{with_spare_at, with_spare_none}
use Rattle.plan_sizing.proofs.with_spare.Goals as goal

pub returns-then-spare-eq0 : goal.returns-then-spare-eq0
returns-then-spare-eq0 c = with_spare_none c.args.spare c.args.l c.requires.0 c.if-spare-eq0.true

pub grow-requires : goal.grow-requires
grow-requires c = granule_power Low

pub returns : goal.returns
returns c = with_spare_at c.args.spare c.args.l c.grow.result c.requires.0 c.if-spare-eq0.false c.grow.ensures
