-- `index_table::count` meets its contract. Invariant: what is counted so far, and the count of the keys left, is the whole count.
-- Assumes nothing.
use Rattle.std.proofs.Common.{◌≡◌, ◌+◌, ◌-◌, ◌≤◌}
use Rattle.index_table.specs.Search.{key_of, count_from}
use Rattle.index_table.proofs.count.Given as goal

abbrev pub invariant-loop-i : goal.invariant-loop-i
invariant-loop-i l =
    (l.c ≤ l.i)
    × (l.c + count_from (l.width - l.i) (λ j. key_of l.index l.n l.a j) l.a (l.from + l.i + 1) ≡ count_from l.width (λ j. key_of l.index l.n l.a j) l.a (l.from + 1))
