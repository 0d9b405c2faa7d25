-- `index_table::advance` meets its contract. Invariant: from here on the same position is reached. Assumes nothing.
use Rattle.std.proofs.Common.{◌≡◌, ◌-◌}
use Rattle.index_table.specs.Table.{bucket_at, ahead}
use Rattle.index_table.proofs.advance.Given as goal

abbrev pub invariant-loop-p : goal.invariant-loop-p
invariant-loop-p l =
    ahead (l.count - l.p) (λ i. bucket_at l.index l.n i) l.q l.p ≡ ahead (l.count - l.from) (λ i. bucket_at l.index l.n i) l.q l.from
