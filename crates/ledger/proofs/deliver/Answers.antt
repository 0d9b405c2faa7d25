-- `ledger::deliver` meets its contract. One law for each answer. Assumes nothing.
use Rattle.ledger.proofs.LedgerLaws.{success_more, success_part, success_whole}
use Rattle.ledger.proofs.deliver.Goals as goal

pub returns-then-left-dwords : goal.returns-then-left-dwords
returns-then-left-dwords c = success_more _ _ _ _ c.left_in-left.ensures c.if-left-dwords.true

pub returns-then-is_read-dwords : goal.returns-then-is_read-dwords
returns-then-is_read-dwords c = success_part _ _ _ _ c.left_in-left.ensures c.if-left-dwords.false _ c.is_read.ensures c.if-is_read-dwords.true

pub returns : goal.returns
returns c = success_whole _ _ _ _ c.left_in-left.ensures c.if-left-dwords.false _ c.is_read.ensures c.if-is_read-dwords.false
