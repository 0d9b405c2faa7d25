-- `index_table::segment_end` meets its contract. Invariant: from here on the same position is reached. Assumes nothing.
use Rattle.std.proofs.Common.{◌≡◌, ◌+◌, ◌-◌}
use Rattle.index_table.specs.Table.{segment_at, ahead}
use Rattle.index_table.proofs.segment_end.Given as goal

abbrev pub invariant-loop-p : goal.invariant-loop-p
invariant-loop-p l =
    ahead (l.count - l.p) (λ i. segment_at l.index l.n i) (l.w + 1) l.p ≡ ahead (l.count - l.from) (λ i. segment_at l.index l.n i) (l.w + 1) l.from
