-- `index_slots::word_at` meets its contract: the definition itself. Assumes nothing.
use Rattle.index_slots.specs.Slots.{word_at}
use Rattle.index_slots.proofs.word_at.Goals as goal

pub returns : goal.returns
unfolding word_at
returns c = rw (← c.word_place.ensures) c.read_le64.ensures.0
