-- `board_record::readbacks_of` meets its contract. The loop's invariant: storing the rest of those that count gives all six. Assumes
-- nothing.
use mathlib.Core.Path.{◌≡◌}
use lib.ListN.{get_or, drop}
use lib.Seq.{sets}
use Rattle.board_record.specs.Function.{readbacks_for}
use Rattle.board_record.specs.FunctionLaws.{counted_for}
use Rattle.board_record.proofs.readbacks_of.Given as goal

abbrev pub invariant-loop-j : goal.invariant-loop-j
invariant-loop-j l = sets l.set l.j (drop l.j (counted_for (get_or l.part 3 0) l.part)) ≡ readbacks_for (get_or l.part 3 0) l.part
