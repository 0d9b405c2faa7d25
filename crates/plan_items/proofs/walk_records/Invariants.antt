-- `plan_items::walk_records` meets its contract. The invariant is `Walked`: what is seen and what is still told come to the whole. The
-- measure is the bytes left. Assumes nothing.
use Prim.Native.Nat.{◌-◌}
use lib.ListN.{length}
use Rattle.plan_items.specs.Loop.{Walked}
use Rattle.plan_items.proofs.walk_records.Given as goal

abbrev pub invariant-loop-n : goal.invariant-loop-n
invariant-loop-n l = Walked l.board l.w l.initial.cursors l.cursors l.seen l.at l.i

abbrev pub decreases-loop-n : goal.decreases-loop-n
decreases-loop-n l = length l.board - l.at
