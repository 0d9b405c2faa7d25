-- `sheet::rules::read_backs_wrong` meets its contract: the slots that the function has, and of a bridge four read-backs of zero. Assumes
-- nothing.
use mathlib.Core.Path.{sym, ◌∙◌}
use Rattle.sheet.proofs.CheckLaws.{read_backs_of_bridge, read_backs_of_end}
use Rattle.sheet.proofs.rules.read_backs_wrong.Goals as goal

pub returns-then-is_bridge : goal.returns-then-is_bridge
returns-then-is_bridge c = read_backs_of_bridge _ _ _ _ _ c.readbacks_of-set.ensures c.values_of-values.ensures c.slot_count.ensures
    c.values_lawful-lawful.ensures _ (sym c.is_bridge.ensures ∙ c.if-is_bridge.true)
    c.rest_zero.ensures

pub returns : goal.returns
returns c = read_backs_of_end _ _ _ _ _ c.readbacks_of-set.ensures c.values_of-values.ensures c.slot_count.ensures
    c.values_lawful-lawful.ensures (sym c.is_bridge.ensures ∙ c.if-is_bridge.false)
