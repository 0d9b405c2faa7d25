-- `ledger::opening` meets its contract. By the key that is asked for. Assumes nothing.
use Rattle.ledger.proofs.AskedLaws.{asked_number, asked_word}
use Rattle.ledger.proofs.opening.Goals as goal

pub returns-then-key-eq0 : goal.returns-then-key-eq0
returns-then-key-eq0 c = asked_number _ _ _ c.asked_of-asked.ensures c.if-key-eq0.true

pub returns : goal.returns
returns c = asked_word _ _ _ c.asked_of-asked.ensures c.if-key-eq0.false _ c.word_of.ensures _ c.open_word.ensures
