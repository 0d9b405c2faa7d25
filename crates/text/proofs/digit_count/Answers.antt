-- `text::digit_count` meets its contract. The invariant: what was counted and the digits of what is left are the digits of all; the count
-- stays small. The measure is what is left. Assumes nothing.
use native.Mathlib.Omega.{arith}
use Rattle.text.specs.TextLaws.{eight_more}
use Rattle.text.proofs.digit_count.Goals as goal

pub loop-left-init : goal.loop-left-init
loop-left-init c = (omega arith, omega arith)

pub overflow_add-count : goal.overflow_add-count
overflow_add-count c = omega arith

pub loop-left-smaller : goal.loop-left-smaller
loop-left-smaller c = omega arith

pub loop-left-preserved : goal.loop-left-preserved
loop-left-preserved c = (omega (arith, eight_more c.loop-left.left c.loop-left-test.true), omega arith)

pub small_count-requires : goal.small_count-requires
small_count-requires c = c.loop-left-test.false

pub overflow_add-result : goal.overflow_add-result
overflow_add-result c = omega arith

pub returns : goal.returns
returns c = omega arith
