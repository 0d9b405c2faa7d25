-- `index_pass::put_bars`: the loop over the slots. Invariant: inserting the BARs of the slots from where the walk stands on gives what
-- inserting all gives; no slot from there on is unlawful. Assumes nothing.
use lib.ListN.{take}
use Rattle.endian.specs.Endian.{be}
use Rattle.sheet_record.specs.Places.{readbacks_at}
use Rattle.sheet_record.specs.Entry.{dwords, entry_of}
use Rattle.sheet_record.specs.Spaces.{bars_of}
use Rattle.claims.specs.HitsLaws.{LawfulFrom}
use Rattle.bar.specs.WalkLaws.{Over}
use Rattle.index_pass.specs.Pass.{bar_slots}
use Rattle.index_pass.specs.PlacingLaws.{Placing}
use Rattle.index_pass.specs.BarsLaws.{slots_at}
use Rattle.index_pass.proofs.put_bars.Given as goal

abbrev pub invariant-loop-i : goal.invariant-loop-i
invariant-loop-i l = record {
  over : Over (dwords (be 4) 6 l.part readbacks_at) l.slots l.i-iterator;
  lawful : LawfulFrom (take l.slots (dwords (be 4) 6 l.part readbacks_at)) l.i-iterator.next;
  placing : Placing l.n (bar_slots l.g l.end (bars_of l.g.space (entry_of l.part))) l.count l.initial.index
      (slots_at l.g l.end (take l.slots (dwords (be 4) 6 l.part readbacks_at)) (take l.slots l.values) l.i-iterator.next) l.at l.index;
}
