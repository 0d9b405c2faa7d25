-- `ledger::open_word` meets its contract. One law for each answer. Assumes nothing.
use Rattle.ledger.proofs.LedgerLaws.{request_held, request_placed, request_full}
use Rattle.ledger.proofs.open_word.Goals as goal

pub returns-then-find-words : goal.returns-then-find-words
returns-then-find-words c = request_held _ _ _ c.find.ensures _ c.if-find-words.true

pub returns-then-place-words : goal.returns-then-place-words
returns-then-place-words c = request_placed _ _ _ c.find.ensures _ _ c.find-place.ensures c.if-find-words.false c.if-place-words.true

pub returns : goal.returns
returns c = request_full _ _ _ c.find.ensures _ _ c.find-place.ensures c.if-find-words.false c.if-place-words.false
