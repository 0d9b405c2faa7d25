-- `plan_pass::place_records` meets its contract. The invariant is `Standing`: the records before the cursor are placed and written, and the
-- cursors hold what is left for the rest. The measure is the bytes left. Assumes nothing.
use Prim.Native.Nat.{◌-◌}
use lib.ListN.{length}
use Rattle.plan_pass.specs.Loop.{Standing}
use Rattle.plan_pass.proofs.place_records.Given as goal

abbrev pub invariant-loop-n : goal.invariant-loop-n
invariant-loop-n l = Standing l.board l.initial.cursors l.initial.sheet l.cursors l.sheet l.at l.i

abbrev pub decreases-loop-n : goal.decreases-loop-n
decreases-loop-n l = length l.board - l.at
