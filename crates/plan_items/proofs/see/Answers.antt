-- `see` meets its contract, field by field. Assumes nothing.
use Rattle.plan_items.specs.Walk.{see}
use Rattle.plan_items.proofs.see.Goals as goal

pub returns : goal.returns
unfolding see
returns c = λ i. record { out = c.out_after.ensures i; most = c.most_after.ensures i }
