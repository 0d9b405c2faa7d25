-- `plan_pass::extents_at` meets its contract. Assumes nothing.
use Rattle.plan_pass.proofs.extents_at.Goals as goal

pub returns : goal.returns
returns c = cc
