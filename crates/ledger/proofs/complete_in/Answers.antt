-- `ledger::complete_in` meets its contract. The verdict's place is inside. Assumes nothing.
use Rattle.ledger.proofs.StepLaws.{completing_inside}
use Rattle.ledger.proofs.complete_in.Goals as goal

pub perform-requires : goal.perform-requires
perform-requires c = rw c.completing-v.ensures (completing_inside _ _)

pub returns : goal.returns
returns c = rw (← c.completing-v.ensures) c.perform.ensures
