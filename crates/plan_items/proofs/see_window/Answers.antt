-- `see_window` meets its contract: none where there is nothing inside, or one item more. Assumes nothing.
use Rattle.plan_items.specs.WalkLaws.{window_none, window_some}
use Rattle.plan_items.proofs.see_window.Goals as goal

pub returns-then-inner-eq0 : goal.returns-then-inner-eq0
returns-then-inner-eq0 c = window_none c.args.w c.args.done.seen c.args.parent c.args.k c.args.done.end c.args.inner c.if-inner-eq0.true

pub returns : goal.returns
returns c = window_some c.args.w c.args.done c.see_at-after.result c.args.parent c.args.k c.window_place.result c.window_size-size.result c.window_align.result c.args.inner
    c.if-inner-eq0.false c.window_place.ensures c.window_size-size.ensures c.window_align.ensures c.see_at-after.ensures
