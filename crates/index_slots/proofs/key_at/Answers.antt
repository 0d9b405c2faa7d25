-- `index_slots::key_at` meets its contract: the definition itself. Assumes nothing.
use Rattle.index_slots.specs.Slots.{key_at}
use Rattle.index_slots.proofs.key_at.Goals as goal

pub returns : goal.returns
unfolding key_at
returns c = rw (← c.key_place.ensures) c.read_le64.ensures.0
