-- `bar::base_of`: the base of a slot's number. Assumes nothing.
use Rattle.bar.proofs.base_of.Goals as goal

pub returns-in-Bar : goal.returns-in-Bar
returns-in-Bar c = rw c.in-Bar.is c.without_type.ensures
