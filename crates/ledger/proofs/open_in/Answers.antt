-- `ledger::open_in` meets its contract. The verdict's place is inside. Assumes nothing.
use Rattle.ledger.proofs.StepLaws.{opening_inside}
use Rattle.ledger.proofs.open_in.Goals as goal

pub perform-requires : goal.perform-requires
perform-requires c = rw c.opening-v.ensures (opening_inside _ _)

pub returns : goal.returns
returns c = rw (← c.opening-v.ensures) c.perform.ensures
