-- `plan_sizing::root_from` meets its contract: each base is cut. Assumes nothing.
use Rattle.plan_sizing.proofs.root_from.Goals as goal

pub returns : goal.returns
returns c = cc
