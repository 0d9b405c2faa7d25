-- `plan_rule::window_size` meets its contract: a granule is a power of two. Assumes nothing.
use mathlib.Core.Path.{ap₂, ◌∙◌}
use Rattle.arith.specs.Align.{align_up}
use Rattle.plan_rule.proofs.PoolLaws.{granule_power}
use Rattle.plan_rule.proofs.window_size.Goals as goal

pub align_up-requires : goal.align_up-requires
align_up-requires c = (rw c.granule-granule.ensures (granule_power c.args.q), c.cap.ensures.1)

pub returns : goal.returns
returns c = c.align_up.ensures ∙ ap₂ align_up c.granule-granule.ensures c.cap.ensures.0
