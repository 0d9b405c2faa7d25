-- `plan_pass::bases_of` meets its contract. Assumes nothing.
use Rattle.plan_pass.proofs.bases_of.Goals as goal

pub returns : goal.returns
returns c = cc
