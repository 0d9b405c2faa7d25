-- `bar::value_of`: the sum of base and type bits fits 64 bits. Assumes nothing.
use Rattle.bar.proofs.value_of.Goals as goal

pub returns-in-Bar : goal.returns-in-Bar
returns-in-Bar c = rw (c.in-Bar.is, c.without_type.ensures, c.type_of.ensures)
