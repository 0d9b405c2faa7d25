-- `plan_sizing::size_board` meets its contract: the root bus, from what is kept of the bases. Assumes nothing.
use native.Mathlib.Omega.{arith}
use Rattle.plan_sizing.specs.Board.{bases_of}
use Rattle.plan_sizing.specs.BoardLaws.{root_standing, board_sized}
use Rattle.plan_sizing.proofs.size_board.Goals as goal

pub bus_size-requires : goal.bus_size-requires
bus_size-requires c = let bases = bases_of c.args.base_low c.args.base_high c.args.base_io in
    root_standing c.args.memo.now bases c.requires.0 c.requires.1 (omega arith) c.root_from-start.ensures

pub returns : goal.returns
returns c = board_sized c.args.parents.now c.args.heads.now c.args.readbacks.now (bases_of c.args.base_low c.args.base_high c.args.base_io)
    c.root_from-start.ensures c.bus_size.ensures
