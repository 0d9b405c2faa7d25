-- `ledger::asked_of` meets its contract: what is told, or by a packet. Assumes nothing.
use Rattle.ledger.proofs.asked_of.Goals as goal

pub returns-then-asked-ne0 : goal.returns-then-asked-ne0
returns-then-asked-ne0 c = c.asked_by_bytes-asked.ensures c.if-asked-ne0.true
