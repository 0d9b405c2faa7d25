-- `index_table::fill_table` meets its contract. Invariant: the entries that are left, stored from here, give the final bytes, and with the
-- steps so far the width; each slot's bucket is as at the start. Assumes nothing.
use Rattle.std.proofs.Common.{◌≡◌, ℕ, ◌-◌, ◌≤◌}
use lib.Seq.{sets}
use Rattle.index_layout.specs.Places.{bucket_place, buckets}
use Rattle.index_table.specs.Table.{bucket_at, table_from, halves, tabled, widest, width_of}
use Rattle.index_table.proofs.fill_table.Given as goal

abbrev pub invariant-loop-q : goal.invariant-loop-q
invariant-loop-q l =
    (l.p ≤ l.count)
    × ((i : ℕ) → bucket_at l.index l.n i ≡ bucket_at l.initial.index l.n i)
    × (sets l.index (bucket_place l.q) (halves (table_from (buckets l.n - l.q) l.count (λ i. bucket_at l.initial.index l.n i) l.q l.p)) ≡ tabled l.n l.count l.initial.index)
    × (widest l.w l.p (table_from (buckets l.n - l.q) l.count (λ i. bucket_at l.initial.index l.n i) l.q l.p) ≡ width_of l.n l.count l.initial.index)
