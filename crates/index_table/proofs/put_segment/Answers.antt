-- `index_table::put_segment` meets its contract: two stores, or none. Assumes nothing.
use Rattle.std.proofs.Common.{refl}
use Rattle.index_table.specs.SegmentLaws.{segment_none, segment_some}
use Rattle.index_table.proofs.put_segment.Goals as goal

pub returns-then-to-from : goal.returns-then-to-from
returns-then-to-from c = segment_none _ _ _ _ _ c.if-to-from.true

pub returns : goal.returns
returns c = let shift = rw (c.last_bucket.ensures, c.saturating_sub.ensures) at c.shift_of-shift.ensures in
    let base = rw c.base_place.ensures at c.write_le64.ensures in
    rw c.shift_place.ensures
    (segment_some _ _ _ _ _ c.if-to-from.false c.key_at-base.ensures c.key_at-last.ensures shift base refl)
