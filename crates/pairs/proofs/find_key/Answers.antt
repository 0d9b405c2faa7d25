-- `pairs::find_key` meets its contract. The loop's invariant: the search of the rows from `i` on is the search of the table.
-- Assumes nothing.
use mathlib.Core.Path.{refl}
use native.Mathlib.Omega.{arith}
use Rattle.pairs.specs.Pairs.{find_key}
use Rattle.pairs.proofs.FirstLaws.{first_hit, first_miss, first_none}
use Rattle.pairs.proofs.find_key.Goals as goal

pub loop-i-init : goal.loop-i-init
unfolding find_key
loop-i-init c = (omega arith, refl)

pub returns-then-is_key : goal.returns-then-is_key
returns-then-is_key c = first_hit _ _ (omega arith) c.rows-table.ensures c.is_key.ensures c.if-is_key.true c.loop-i.invariant.1

pub loop-i-preserved : goal.loop-i-preserved
loop-i-preserved c = (omega arith, first_miss _ _ (omega arith) c.rows-table.ensures c.is_key.ensures c.if-is_key.false c.loop-i.invariant.1)

pub returns : goal.returns
returns c = first_none _ c.loop-i.i (omega arith) (omega arith) c.loop-i.invariant.1
