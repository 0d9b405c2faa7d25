-- `see_record` meets its contract: its BARs, and then the window of a bridge. Assumes nothing.
use Rattle.plan_items.specs.WalkLaws.{record_bridge, record_leaf}
use mathlib.Core.Path.{sym, ◌∙◌}
use Rattle.plan_items.proofs.see_record.Goals as goal

pub returns-then-is_bridge : goal.returns-then-is_bridge
returns-then-is_bridge c = record_bridge c.args.w c.args.seen c.args.f c.args.k c.args.end c.args.inner c.slot_count.result c.see_bars-bars.result
    c.slot_count.ensures.0 c.see_bars-bars.ensures.0 c.see_window.result
    (sym c.is_bridge.ensures ∙ c.if-is_bridge.true) c.see_window.ensures

pub returns : goal.returns
returns c = record_leaf c.args.w c.args.seen c.args.f c.args.k c.args.end c.args.inner c.slot_count.result c.see_bars-bars.result
    c.slot_count.ensures.0 c.see_bars-bars.ensures.0 (sym c.is_bridge.ensures ∙ c.if-is_bridge.false)
