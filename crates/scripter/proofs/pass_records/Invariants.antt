-- `scripter::pass_records` meets its contract. Assumes nothing.
use Prim.Native.Nat.{◌-◌}
use lib.ListN.{length}
use Rattle.scripter.specs.PassLaws.{Passed}
use Rattle.scripter.proofs.pass_records.Given as goal

abbrev pub invariant-loop-n : goal.invariant-loop-n
invariant-loop-n l = Passed l.pass l.board l.boot l.initial.cursors l.initial.next l.initial.room l.cursors l.room l.at l.i l.next

abbrev pub decreases-loop-n : goal.decreases-loop-n
decreases-loop-n l = length l.board - l.at
