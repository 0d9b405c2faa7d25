-- `see_at` meets its contract: an item starts at or after the end before it. Assumes nothing.
use Rattle.plan_items.specs.WalkLaws.{before_le_start, seen_after_intro}
use Rattle.plan_items.proofs.see_at.Goals as goal

pub see-requires : goal.see-requires
see-requires c = before_le_start c.args.align c.args.done.end c.start_at-start.result c.requires.1 c.requires.0 c.start_at-start.ensures.0

pub returns : goal.returns
returns c = seen_after_intro c.args.w c.args.done c.args.parent c.args.party c.args.size c.args.align
    c.start_at-start.result c.end_of-stop.result c.see.result c.start_at-start.ensures.0 c.end_of-stop.ensures c.see.ensures
