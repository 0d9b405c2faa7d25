-- `ledger::skip` meets its contract. Invariant: the places passed, and the place of the key in the rest, make the place of the key.
-- Measure: places left. Assumes nothing.
use mathlib.Core.Path.{sym, ◌∙◌}
use native.Mathlib.Omega.{arith}
use Rattle.ledger.proofs.WordsLaws.{skip_four}
use Rattle.ledger.proofs.skip.Goals as goal

pub loop-i-init : goal.loop-i-init
loop-i-init c = (omega arith, omega arith)

pub overflow_sub-words : goal.overflow_sub-words
overflow_sub-words c = omega arith

pub is_among_four-requires : goal.is_among_four-requires
is_among_four-requires c = omega arith

pub returns-then-is_among_four : goal.returns-then-is_among_four
returns-then-is_among_four c = c.loop-i.invariant

pub overflow_add-i : goal.overflow_add-i
overflow_add-i c = omega arith

pub loop-i-smaller : goal.loop-i-smaller
loop-i-smaller c = omega arith

pub loop-i-preserved : goal.loop-i-preserved
loop-i-preserved c = (
  omega arith,
  skip_four _ _ _ c.args.words.now (omega arith) c.loop-i.invariant.1
      (sym c.is_among_four.ensures ∙ c.if-is_among_four.false),
)

pub returns : goal.returns
returns c = c.loop-i.invariant
