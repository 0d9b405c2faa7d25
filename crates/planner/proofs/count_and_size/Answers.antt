-- `planner::count_and_size` meets its contract: its callees' are all that is asked. Assumes nothing.
use mathlib.Core.Path.{sym}
use native.Mathlib.Omega.{arith}
use lib.Seq.{length-take-le}
use Rattle.planner.proofs.count_and_size.Goals as goal

pub slice_bounds-ps-end : goal.slice_bounds-ps-end
slice_bounds-ps-end c = sym (length-take-le _ _ c.requires.arrays.parents)

pub slice_bounds-hs-end : goal.slice_bounds-hs-end
slice_bounds-hs-end c = sym (length-take-le _ _ c.requires.arrays.heads)

pub slice_bounds-sets-end : goal.slice_bounds-sets-end
slice_bounds-sets-end c = sym (length-take-le _ _ c.requires.arrays.readbacks)

pub size_board-root-requires : goal.size_board-root-requires
size_board-root-requires c = let few = length-take-le c.args.n c.args.parents.now c.requires.arrays.parents in
    (c.requires.board, omega (arith, few, c.requires.memo_room))
