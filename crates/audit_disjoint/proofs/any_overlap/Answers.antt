-- `audit_disjoint::any_overlap`: the loop over the first ranges. Invariant: one from i on overlaps one of the others just where one of all
-- does. Assumes nothing.
use mathlib.Core.Bool.{Bool}
use mathlib.Core.List.{List}
use mathlib.Core.Path.{ap, sym, ◌∙◌}
use Prim.Native.Nat.{ℕ}
use Rattle.lists.specs.Lists.{any}
use Rattle.walk.specs.Ranges.{Range}
use Rattle.sheet_ranges.specs.Ranges.{overlap}
use Rattle.sheet_ranges.specs.Items.{range_of, ranges_in}
use Rattle.sheet_ranges.specs.SearchLaws.{items_all, items_past, items_hit, items_miss}
use Rattle.audit_rule.specs.Audit.{any_overlap}
use Rattle.audit_disjoint.proofs.any_overlap.Goals as goal

-- a range overlaps one of m others
abbrev met : List ℕ → ℕ → Range → Bool
met others m r = any (overlap r) (ranges_in m others)

pub loop-i-init : goal.loop-i-init
loop-i-init c = ap (λ (rs : List Range). any_overlap rs (ranges_in c.args.m c.args.others.now)) (items_all _ _)

pub returns-then-overlaps_any : goal.returns-then-overlaps_any
returns-then-overlaps_any c = let told = c.overlaps_any.ensures ∙ ap (any (overlap (range_of c.item_at.result))) (items_all _ _) in
    sym (items_hit (met c.args.others.now c.args.m) _ _ _ c.loop-i-test.true _ c.item_at.ensures _ told c.if-overlaps_any.true)
    ∙ c.loop-i.invariant

pub loop-i-preserved : goal.loop-i-preserved
loop-i-preserved c = let told = c.overlaps_any.ensures ∙ ap (any (overlap (range_of c.item_at.result))) (items_all _ _) in
    items_miss (met c.args.others.now c.args.m) _ _ _ c.loop-i-test.true _ c.item_at.ensures _ told c.if-overlaps_any.false
    ∙ c.loop-i.invariant

pub returns : goal.returns
returns c = sym (items_past (met c.args.others.now c.args.m) _ _ _ c.loop-i-test.false) ∙ c.loop-i.invariant
