-- `range_place::place_of`: the loop over the slots. Invariant: what is left of the places, without those that are left out, has at `left`
-- what all have at n; no slot from where the walk stands on is unlawful. Assumes nothing.
use mathlib.Core.Path.{◌≡◌}
use lib.ListN.{get_or, take}
use Rattle.endian.specs.Endian.{be}
use Rattle.sheet_record.specs.Places.{readbacks_at}
use Rattle.bar.specs.WalkLaws.{Over}
use Rattle.sheet_record.specs.Entry.{dwords, entry_of}
use Rattle.audit_finding.specs.Zipped.{places_of}
use Rattle.range_place.specs.PlaceLaws.{places_left, Lawful, windows_in}
use Rattle.range_place.proofs.place_of.Given as goal

abbrev pub invariant-loop-i : goal.invariant-loop-i
invariant-loop-i l = record {
  over : Over (dwords (be 4) 6 l.part readbacks_at) l.slots l.i-iterator;
  lawful : Lawful (take l.slots (dwords (be 4) 6 l.part readbacks_at)) l.i-iterator.next;
  same : get_or (places_left (take l.slots (dwords (be 4) 6 l.part readbacks_at)) (windows_in l.part) l.i-iterator.next) l.left 0 ≡ get_or (places_of (entry_of l.part)) l.n 0;
}
