-- `index_slots::put_slot` meets its contract: two stores. Assumes nothing.
use Rattle.index_slots.specs.Slots.{put_slot}
use Rattle.index_slots.proofs.put_slot.Goals as goal

pub returns : goal.returns
unfolding put_slot
returns c = rw (← c.key_place.ensures, ← c.word_place.ensures, ← c.write_le64.ensures)
    c.write_le64-2.ensures
