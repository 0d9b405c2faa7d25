-- `see_bars` meets its contract. The invariant is `Seeing`: the slots from where the walk stands on, seen after what is done, come to what
-- all come to. Assumes nothing.
use lib.ListN.{take}
use Rattle.bar.specs.WalkLaws.{Over}
use Rattle.plan_items.specs.WalkLaws.{Seeing}
use Rattle.plan_items.proofs.see_bars.Given as goal

abbrev pub invariant-loop-i : goal.invariant-loop-i
invariant-loop-i l = record {
  over : Over l.fn.set l.n l.i-iterator;
  seeing : Seeing l.w l.parent l.k (take l.n l.fn.set) l.initial.done l.done l.i-iterator.next;
}
