-- `sheet_where::read_back_spot`: the loop over the slots. Invariant: what is left from where the walk stands on says what all say.
-- Assumes nothing.
use mathlib.Core.Path.{◌≡◌}
use lib.ListN.{take}
use Rattle.sheet_record.specs.Entry.{entry_of}
use Rattle.audit_finding.specs.Where.{read_back_marks}
use Rattle.audit_finding.specs.Spots.{spot_in}
use Rattle.bar.specs.WalkLaws.{Over}
use Rattle.sheet_where.specs.Own.{rest_of}
use Rattle.sheet_where.specs.SlotsLaws.{slots_left}
use Rattle.sheet_where.proofs.read_back_spot.Given as goal

abbrev pub invariant-loop-i : goal.invariant-loop-i
invariant-loop-i l = record {
  over : Over l.set l.slots l.i-iterator;
  left : slots_left (spot_in (rest_of l.part)) (take l.slots l.set) (take l.slots l.values) l.i-iterator.next
      ≡ spot_in (read_back_marks (entry_of l.part));
}
