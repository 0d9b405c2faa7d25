-- `plan_tables::count_buses` meets its contract. The loop's invariant: the numbers of the records so far are counted, whatever their
-- read-backs. Assumes nothing.
use mathlib.Core.Path.{◌≡◌}
use mathlib.Core.List.{List}
use Prim.Native.Nat.{ℕ, ◌*◌, ◌≤◌}
use lib.ListN.{length}
use Rattle.plan_sizing.specs.Functions.{functions_in}
use Rattle.plan_tables.specs.Counts.{most_taken, Counting}
use Rattle.plan_tables.proofs.count_buses.Given as goal

abbrev pub invariant-loop-i : goal.invariant-loop-i
invariant-loop-i l =
    (l.taken ≤ most_taken * l.i)
    × (length l.counts ≡ length l.initial.counts)
    × ((ss : List ℕ) → Counting (functions_in l.parents l.heads ss) l.counts l.i l.taken)
