-- `bar::slot_of`: a 64-bit read-back with the next one, else the read-back alone. Assumes nothing.
use Rattle.bar.proofs.slot_of.Goals as goal

pub returns-then-paired-is_wide : goal.returns-then-paired-is_wide
returns-then-paired-is_wide c = rw (← c.is_wide.ensures, c.if-paired-is_wide.true) c.wide_slot.ensures

pub returns : goal.returns
returns c = rw (← c.is_wide.ensures, c.if-paired-is_wide.false) c.narrow_slot.ensures
