-- `test_boards::answer_lines` is safe and ends: the measure is the number of bytes that may still come. Assumes nothing.
use Rattle.std.specs.Prelude.{⊤}
use Rattle.console.specs.Console.{to_come}
use Rattle.test_boards.proofs.answer_lines.Given as goal

abbrev pub invariant-loop-line : goal.invariant-loop-line
invariant-loop-line l = ⊤

abbrev pub decreases-loop-line : goal.decreases-loop-line
decreases-loop-line l = to_come l.reader
