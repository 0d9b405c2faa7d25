-- `board_where::bad_slot`: the loop over the slots. Invariant: the first bad slot from where the walk stands on is the first of all.
-- Assumes nothing.
use mathlib.Core.Path.{◌≡◌}
use lib.ListN.{take}
use Rattle.board_record.specs.Function.{function_of_part}
use Rattle.bar.specs.WalkLaws.{Over}
use Rattle.board_where.specs.Where.{bad_slot}
use Rattle.board_where.specs.PassLaws.{bad_left}
use Rattle.board_where.proofs.bad_slot.Given as goal

abbrev pub invariant-loop-i : goal.invariant-loop-i
invariant-loop-i l = record {
  over : Over (function_of_part l.part).readbacks l.slots l.i-iterator;
  first : bad_left (take l.slots (function_of_part l.part).readbacks) l.i-iterator.next ≡ bad_slot (function_of_part l.part);
}
