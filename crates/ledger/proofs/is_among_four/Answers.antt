-- `ledger::is_among_four` meets its contract. The bools of the definition, joined as there. Assumes nothing.
use Rattle.ledger.proofs.is_among_four.Goals as goal

pub returns : goal.returns
returns c = rw (c.key_in.ensures, c.key_in-2.ensures, c.key_in-3.ensures, c.key_in-4.ensures)
