-- `route_cards::holds::bars_hold`: the loop over slots. Invariant: the slots from where the walk stands on are lawful, and one of them
-- holds the address exactly where one of all does. Assumes nothing.
use mathlib.Core.Path.{◌≡◌}
use lib.ListN.{take}
use Rattle.endian.specs.Endian.{be}
use Rattle.bar.specs.WalkLaws.{Over}
use Rattle.sheet_record.specs.Places.{readbacks_at}
use Rattle.sheet_record.specs.Entry.{dwords, entry_of}
use Rattle.sheet_record.specs.Spaces.{bars_of}
use Rattle.sheet_record.specs.SpacesLaws.{bars_at}
use Rattle.claims.specs.HitsLaws.{LawfulFrom}
use Rattle.route_cards.specs.Search.{any_holds}
use Rattle.route_cards.proofs.holds.bars_hold.Given as goal

abbrev pub invariant-loop-i : goal.invariant-loop-i
invariant-loop-i l = record {
  over : Over (dwords (be 4) 6 l.part readbacks_at) l.slots l.i-iterator;
  lawful : LawfulFrom (take l.slots (dwords (be 4) 6 l.part readbacks_at)) l.i-iterator.next;
  rest : any_holds l.address (bars_at l.space (take l.slots (dwords (be 4) 6 l.part readbacks_at)) (take l.slots l.values) l.i-iterator.next)
      ≡ any_holds l.address (bars_of l.space (entry_of l.part));
}
