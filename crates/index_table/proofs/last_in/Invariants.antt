-- `index_table::last_in` meets its contract. Invariant: from here on the same position is found. Measure: keys left. Assumes nothing.
use Rattle.std.proofs.Common.{◌≡◌, ◌+◌, ◌≤◌}
use Rattle.index_layout.specs.Places.{last_key}
use Rattle.index_table.specs.Search.{key_of, last_in}
use Rattle.index_table.proofs.last_in.Given as goal

abbrev pub invariant-loop-k : goal.invariant-loop-k
invariant-loop-k l =
    (l.lo + l.k ≤ last_key l.n) × (last_in l.k (λ i. key_of l.index l.n l.a i) l.a l.lo l.k ≡ last_in l.width (λ i. key_of l.index l.n l.a i) l.a l.from l.width)

abbrev pub decreases-loop-k : goal.decreases-loop-k
decreases-loop-k l = l.k
