-- `ledger::asked_by_kind` meets its contract. By its class. Assumes nothing.
use mathlib.Core.Path.{refl}
use Rattle.ledger.proofs.asked_by_kind.Goals as goal

pub returns-in-Some : goal.returns-in-Some
returns-in-Some c = rw (← c.class_of.ensures, c.in-Some.is) (c.key_of.ensures, refl)

pub returns-in-None : goal.returns-in-None
returns-in-None c = rw (← c.class_of.ensures, c.in-None.is) (refl, refl)
