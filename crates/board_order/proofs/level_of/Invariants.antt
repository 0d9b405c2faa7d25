-- `board_order::level_of` meets its contract. The invariant: the levels left to search have the answer. Assumes nothing.
use Rattle.std.proofs.Common.{◌≡◌}
use Rattle.board_order.specs.Levels.{found_in}
use Rattle.board_order.proofs.level_of.Given as goal

abbrev pub invariant-loop-i : goal.invariant-loop-i
invariant-loop-i l = found_in l.parent l.buses l.i ≡ found_in l.parent l.buses l.levels
