-- `plan_tables::put_counts` meets its contract: two stores are `sets` of the two numbers. Assumes nothing.
use native.Mathlib.Omega.{arith}
use native.Mathlib.Numerals.{add-one}
use lib.ListN.{length-set}
use Rattle.plan_tables.proofs.put_counts.Goals as goal

pub bounds-counts-at-2 : goal.bounds-counts-at-2
bounds-counts-at-2 c = simp length-set (omega arith)

pub returns : goal.returns
returns c = rw add-one
