-- `plan_needs::laid_host` meets its contract. Assumes nothing.
use Rattle.plan_needs.specs.Bases.{laid_host_of}
use Rattle.plan_needs.proofs.laid_host.Goals as goal

pub returns : goal.returns
unfolding laid_host_of
returns c = cc
