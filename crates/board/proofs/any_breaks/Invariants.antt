-- `board::any_breaks` meets its contract. The invariant: no record left is asked too early, and those left decide. Assumes nothing.
use Rattle.std.proofs.Common.{◌≡◌, false, drop, length}
use Rattle.records.specs.Records.{parts_of, any_part}
use Rattle.records.specs.Iterating.{left_of, parts_left}
use Rattle.board_record.specs.Rules.{too_early}
use Rattle.board_record.specs.Host.{functions_at}
use Rattle.board.specs.Pass.{any_breaks}
use Rattle.board.proofs.any_breaks.Given as goal

abbrev pub invariant-loop-part : goal.invariant-loop-part
invariant-loop-part l =
    (any_part (too_early l.rule) (parts_left l.parts) ≡ false)
    × (any_breaks l.rule (left_of l.parts) ≡ any_breaks l.rule (parts_of (drop functions_at l.board)))

abbrev pub decreases-loop-part : goal.decreases-loop-part
decreases-loop-part l = length (parts_left l.parts)
