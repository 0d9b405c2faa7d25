-- `audit_nested::is_inside_any`: the loop over those above. Invariant: it lies in one from j on just where it lies in one of all. Assumes
-- nothing.
use mathlib.Core.Path.{ap, sym, ◌∙◌}
use Rattle.lists.specs.Lists.{any}
use Rattle.audit_rule.specs.Audit.{inside}
use Rattle.sheet_ranges.specs.Items.{range_of}
use Rattle.sheet_ranges.specs.SearchLaws.{items_all, items_past, items_hit, items_miss}
use Rattle.audit_nested.proofs.is_inside_any.Goals as goal

pub loop-j-init : goal.loop-j-init
loop-j-init c = ap (any (inside c.args.nesting (range_of c.args.a))) (items_all _ _)

pub returns-then-is_inside : goal.returns-then-is_inside
returns-then-is_inside c = sym (items_hit (inside c.args.nesting (range_of c.args.a)) _ _ _ c.loop-j-test.true _ c.item_at.ensures _
    c.is_inside.ensures c.if-is_inside.true)
    ∙ c.loop-j.invariant

pub loop-j-preserved : goal.loop-j-preserved
loop-j-preserved c = items_miss (inside c.args.nesting (range_of c.args.a)) _ _ _ c.loop-j-test.true _ c.item_at.ensures _
    c.is_inside.ensures
    c.if-is_inside.false
    ∙ c.loop-j.invariant

pub returns : goal.returns
returns c = sym (items_past (inside c.args.nesting (range_of c.args.a)) _ _ _ c.loop-j-test.false) ∙ c.loop-j.invariant
