-- `pairs::find_key` meets its contract. The loop's invariant: the search of the rows from `i` on is the search of the table.
-- The measure is the number of rows left. Assumes nothing.
use mathlib.Core.Path.{◌≡◌}
use Prim.Native.Nat.{◌≤◌}
use lib.ListN.{drop}
use Rattle.pairs.specs.Pairs.{table, is_key, first, find_key}
use Rattle.pairs.proofs.find_key.Given as goal

abbrev pub invariant-loop-i : goal.invariant-loop-i
invariant-loop-i l = (l.i ≤ 34) × (first (is_key l.wanted) (drop l.i table) ≡ find_key l.wanted)
