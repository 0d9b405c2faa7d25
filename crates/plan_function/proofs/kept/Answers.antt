-- `kept` meets its contract, pool by pool. Assumes nothing.
use Rattle.plan_function.proofs.kept.Goals as goal

pub returns : goal.returns
returns c = cc
