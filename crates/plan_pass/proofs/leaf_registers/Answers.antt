use Rattle.plan_pass.proofs.leaf_registers.Goals as goal

-- src/lib.rt:178:1
pub returns : goal.returns
returns c = cc
