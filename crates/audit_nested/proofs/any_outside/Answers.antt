-- `audit_nested::any_outside`: the loop over the ranges. Invariant: one from i on lies in none above just where one of all does. Assumes
-- nothing.
use mathlib.Core.Bool.{not}
use mathlib.Core.Path.{ap, sym, ◌∙◌}
use Rattle.lists.specs.Lists.{any}
use Rattle.sheet_ranges.specs.Items.{ranges_in}
use Rattle.sheet_ranges.specs.SearchLaws.{items_all, items_past, items_hit, items_miss}
use Rattle.audit_rule.specs.Audit.{outside_all}
use Rattle.audit_nested.proofs.any_outside.Goals as goal

pub loop-i-init : goal.loop-i-init
loop-i-init c = ap (any (outside_all c.args.nesting (ranges_in c.args.m c.args.above.now))) (items_all _ _)

pub returns-then-not-is_inside_any : goal.returns-then-not-is_inside_any
returns-then-not-is_inside_any c = sym (items_hit (outside_all c.args.nesting (ranges_in c.args.m c.args.above.now)) _ _ _ c.loop-i-test.true _
    c.item_at.ensures _
    (ap not c.is_inside_any.ensures) (ap not c.if-not-is_inside_any.true))
    ∙ c.loop-i.invariant

pub loop-i-preserved : goal.loop-i-preserved
loop-i-preserved c = items_miss (outside_all c.args.nesting (ranges_in c.args.m c.args.above.now)) _ _ _ c.loop-i-test.true _
    c.item_at.ensures _
    (ap not c.is_inside_any.ensures) (ap not c.if-not-is_inside_any.false)
    ∙ c.loop-i.invariant

pub returns : goal.returns
returns c = sym (items_past (outside_all c.args.nesting (ranges_in c.args.m c.args.above.now)) _ _ _ c.loop-i-test.false) ∙ c.loop-i.invariant
