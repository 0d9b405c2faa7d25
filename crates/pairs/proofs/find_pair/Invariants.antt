-- `pairs::find_pair` meets its contract. The loop's invariant: the search of the rows from `i` on is the search of the table.
-- The measure is the number of rows left. Assumes nothing.
use mathlib.Core.Path.{◌≡◌}
use Prim.Native.Nat.{◌≤◌}
use lib.ListN.{drop}
use Rattle.pairs.specs.Pairs.{table, is_pair, first, find_pair}
use Rattle.pairs.proofs.find_pair.Given as goal

abbrev pub invariant-loop-i : goal.invariant-loop-i
invariant-loop-i l = (l.i ≤ 34) × (first (is_pair l.byte) (drop l.i table) ≡ find_pair l.byte)
