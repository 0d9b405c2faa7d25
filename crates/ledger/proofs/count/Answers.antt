-- `ledger::count` meets its contract. Invariant: the count, and what is in use of the rest, make what is in use. Assumes nothing.
use native.Mathlib.Omega.{arith}
use Rattle.ledger.proofs.WordsLaws.{count_turn, count_end}
use Rattle.ledger.proofs.count.Goals as goal

pub loop-word-preserved : goal.loop-word-preserved
loop-word-preserved c = (
  omega arith,
  count_turn _ _ _ _ c.args.words.now (omega arith) c.loop-word.invariant.1 c.used_by-n.ensures.0,
)

pub returns : goal.returns
returns c = count_end _ c.loop-word.word-index _ c.args.words.now (omega arith) c.loop-word.invariant.1
