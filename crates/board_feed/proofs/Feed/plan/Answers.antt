-- `board_feed::Feed::plan` meets its contract: the number by the frame, or the planner's answer on the bytes kept. Assumes nothing.
use mathlib.Core.Path.{refl, sym, ap, ◌∙◌}
use Rattle.plan_answer.specs.declared.Planning.TheVariants.{Refused}
use Rattle.board_feed.specs.Feed.{planning_of, sheet_of}
use Rattle.board_feed.proofs.Feed.plan.Goals as goal

pub returns-then-is_long : goal.returns-then-is_long
unfolding planning_of sheet_of
returns-then-is_long c = rw (sym c.is_long.ensures ∙ c.if-is_long.true) (ap Refused c.frame_number.ensures, refl)

pub returns : goal.returns
unfolding planning_of sheet_of
returns c = rw (sym c.is_long.ensures ∙ c.if-is_long.false, ← c.front.ensures) c.plan.ensures
