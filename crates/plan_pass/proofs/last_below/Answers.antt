-- `plan_pass::last_below` meets its contract. Assumes nothing.
use Rattle.plan_pass.proofs.last_below.Goals as goal

pub returns : goal.returns
returns c = cc
