-- `ledger::complete_word` meets its contract. One law for each answer. Assumes nothing.
use Rattle.ledger.proofs.LedgerLaws.{completion_held, completion_missing}
use Rattle.ledger.proofs.complete_word.Goals as goal

pub returns-then-place-words : goal.returns-then-place-words
returns-then-place-words c = completion_held _ _ _ c.find-place.ensures _ _ _ c.if-place-words.true _ c.settle.ensures

pub returns : goal.returns
returns c = completion_missing _ _ _ c.find-place.ensures _ _ _ c.if-place-words.false
