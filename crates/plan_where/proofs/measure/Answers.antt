-- `plan_where::measure` meets its contract. Assumes nothing.
use native.Mathlib.Omega.{arith}
use Rattle.planner.specs.FilledLaws.{measurable, measured}
use Rattle.plan_where.proofs.measure.Goals as goal

pub count_and_size-requires : goal.count_and_size-requires
count_and_size-requires c = measurable _ c.requires.board_value (record { parents = omega arith; heads = omega arith; readbacks = omega arith }) c.fill-n.ensures _ _
    c.requires.most_functions_in_bounds.0 c.requires.most_functions_in_bounds.1

pub returns : goal.returns
returns c = measured _ c.requires.board_value (record { parents = omega arith; heads = omega arith; readbacks = omega arith }) c.fill-n.ensures _ _
    c.requires.most_functions_in_bounds.0 c.requires.most_functions_in_bounds.1 c.count_and_size.ensures
