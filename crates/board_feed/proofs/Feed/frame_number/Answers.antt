-- `board_feed::Feed::frame_number` meets its contract: one equation for each ending. Assumes nothing.
use mathlib.Core.Path.{sym, ◌∙◌}
use Rattle.board_feed.specs.Feed.{frame_number}
use Rattle.board_feed.proofs.Feed.frame_number.Goals as goal

pub returns-in-Empty : goal.returns-in-Empty
unfolding frame_number
returns-in-Empty c = rw (sym c.ending_of.ensures ∙ c.in-Empty.is)

pub returns-in-Unread : goal.returns-in-Unread
unfolding frame_number
returns-in-Unread c = rw (sym c.ending_of.ensures ∙ c.in-Unread.is)

pub returns-in-Whole : goal.returns-in-Whole
unfolding frame_number
returns-in-Whole c = rw (sym c.ending_of.ensures ∙ c.in-Whole.is) c.number.ensures

pub returns-in-Cut : goal.returns-in-Cut
unfolding frame_number
returns-in-Cut c = rw (sym c.ending_of.ensures ∙ c.in-Cut.is)
