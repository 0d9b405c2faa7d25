-- `index_table::put_segments` meets its contract. Invariant: the segments that are left, put from here, give the final bytes.
-- Assumes nothing.
use Rattle.std.proofs.Common.{◌≡◌, ◌-◌, ◌≤◌}
use Rattle.index_table.specs.Table.{segmented}
use Rattle.index_table.proofs.put_segments.Given as goal

abbrev pub invariant-loop-w : goal.invariant-loop-w
invariant-loop-w l =
    (l.from ≤ l.count) × (segmented (4 - l.w) l.n l.count l.w l.from l.index ≡ segmented 4 l.n l.count 0 0 l.initial.index)
