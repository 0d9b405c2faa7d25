-- `plan_pass::place_leaf` meets its contract. Assumes nothing.
use Rattle.plan_pass.specs.CallLaws.{leaf_registers_join, leaf_next_join}
use Rattle.plan_pass.proofs.place_leaf.Goals as goal

pub returns : goal.returns
returns c = (
  leaf_registers_join _ _ _ _ c.requires.1 c.leaf_registers-r.ensures,
  leaf_next_join _ _ c.requires.1
      c.store_cursors.ensures,
)
