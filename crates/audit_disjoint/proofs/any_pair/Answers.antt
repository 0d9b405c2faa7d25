-- `audit_disjoint::any_pair`: the loop over the first of two. Invariant: two from i on overlap just where two of all do. Assumes nothing.
use mathlib.Core.Path.{ap, sym, ◌∙◌}
use Rattle.sheet_ranges.specs.Ranges.{overlap}
use Rattle.sheet_ranges.specs.SearchLaws.{items_all}
use Rattle.audit_rule.specs.Audit.{any_pair}
use Rattle.audit_disjoint.specs.DisjointLaws.{pairs_past, pairs_hit, pairs_miss}
use Rattle.audit_disjoint.proofs.any_pair.Goals as goal

pub loop-i-init : goal.loop-i-init
loop-i-init c = ap (any_pair overlap) (items_all _ _)

pub returns-then-overlaps_any : goal.returns-then-overlaps_any
returns-then-overlaps_any c = sym (pairs_hit _ _ _ c.loop-i-test.true _ c.item_at.ensures _ c.overlaps_any.ensures c.if-overlaps_any.true)
    ∙ c.loop-i.invariant

pub loop-i-preserved : goal.loop-i-preserved
loop-i-preserved c = pairs_miss _ _ _ c.loop-i-test.true _ c.item_at.ensures _ c.overlaps_any.ensures c.if-overlaps_any.false
    ∙ c.loop-i.invariant

pub returns : goal.returns
returns c = sym (pairs_past _ _ _ c.loop-i-test.false) ∙ c.loop-i.invariant
