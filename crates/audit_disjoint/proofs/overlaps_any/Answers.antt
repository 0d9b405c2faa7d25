-- `audit_disjoint::overlaps_any`: the loop over the others. Invariant: one from j on is overlapped just where one of all is. Assumes
-- nothing.
use mathlib.Core.Path.{sym, ◌∙◌}
use Rattle.sheet_ranges.specs.Ranges.{overlap}
use Rattle.sheet_ranges.specs.Items.{range_of}
use Rattle.sheet_ranges.specs.SearchLaws.{items_past, items_hit, items_miss}
use Rattle.audit_disjoint.proofs.overlaps_any.Goals as goal

pub returns-then-overlap : goal.returns-then-overlap
returns-then-overlap c = sym (items_hit (overlap (range_of c.args.a)) _ _ _ c.loop-j-test.true _ c.item_at.ensures _ c.overlap.ensures
    c.if-overlap.true) ∙ c.loop-j.invariant

pub loop-j-preserved : goal.loop-j-preserved
loop-j-preserved c = items_miss (overlap (range_of c.args.a)) _ _ _ c.loop-j-test.true _ c.item_at.ensures _ c.overlap.ensures
    c.if-overlap.false ∙ c.loop-j.invariant

pub returns : goal.returns
returns c = sym (items_past (overlap (range_of c.args.a)) _ _ _ c.loop-j-test.false) ∙ c.loop-j.invariant
