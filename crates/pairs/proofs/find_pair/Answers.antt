-- `pairs::find_pair` meets its contract. The loop's invariant: the search of the rows from `i` on is the search of the table.
-- Assumes nothing.
use mathlib.Core.Path.{refl}
use borrow.Author.Tests.{eq-eqb, ne_eqb}
use native.Mathlib.Omega.{arith}
use Rattle.pairs.specs.Pairs.{find_pair}
use Rattle.pairs.proofs.FirstLaws.{first_hit, first_miss, first_none}
use Rattle.pairs.proofs.find_pair.Goals as goal

pub loop-i-init : goal.loop-i-init
unfolding find_pair
loop-i-init c = (omega arith, refl)

pub returns-then-row-byte : goal.returns-then-row-byte
returns-then-row-byte c = first_hit _ _ (omega arith) c.rows-table.ensures refl (eq-eqb _ _ c.if-row-byte.true) c.loop-i.invariant.1

pub loop-i-preserved : goal.loop-i-preserved
loop-i-preserved c = (omega arith, first_miss _ _ (omega arith) c.rows-table.ensures refl (ne_eqb _ _ c.if-row-byte.false) c.loop-i.invariant.1)

pub returns : goal.returns
returns c = first_none _ c.loop-i.i (omega arith) (omega arith) c.loop-i.invariant.1
