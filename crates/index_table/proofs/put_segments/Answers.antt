-- `index_table::put_segments` meets its contract. Invariant: the segments that are left, put from here, give the final bytes.
-- Assumes nothing.
use Rattle.std.proofs.Common.{sym, refl, ◌∙◌, arith}
use Rattle.index_table.specs.SegmentLaws.{segments_turn, segments_end}
use Rattle.index_table.proofs.put_segments.Goals as goal

pub loop-w-init : goal.loop-w-init
loop-w-init c = (omega arith, refl)

pub loop-w-preserved : goal.loop-w-preserved
loop-w-preserved c = (
  omega arith,
  segments_turn _ _ _ _ _ c.loop-w-test.true c.segment_end-to.ensures.0 c.put_segment.ensures ∙ c.loop-w.invariant.1,
)

pub returns : goal.returns
returns c = sym (segments_end _ _ _ _ _ c.loop-w-test.false) ∙ c.loop-w.invariant.1
