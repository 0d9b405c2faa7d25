-- `audit_feed::Feed::frame_number` meets its contract: one equation for each ending. Assumes nothing.
use mathlib.Core.Path.{sym, ◌∙◌}
use Rattle.audit_feed.specs.Feed.{frame_number}
use Rattle.audit_feed.proofs.Feed.frame_number.Goals as goal

pub returns-in-Empty : goal.returns-in-Empty
unfolding frame_number
returns-in-Empty c = rw (sym c.ending_of.ensures ∙ c.in-Empty.is)

pub returns-in-Unread : goal.returns-in-Unread
unfolding frame_number
returns-in-Unread c = rw (sym c.ending_of.ensures ∙ c.in-Unread.is)

pub returns-then-self : goal.returns-then-self
unfolding frame_number
returns-then-self c = rw (sym c.ending_of.ensures ∙ c.in-Whole.is, c.if-self.true)

pub returns-else-self : goal.returns-else-self
unfolding frame_number
returns-else-self c = rw (sym c.ending_of.ensures ∙ c.in-Whole.is, c.if-self.false)

pub returns-in-Cut : goal.returns-in-Cut
unfolding frame_number
returns-in-Cut c = rw (sym c.ending_of.ensures ∙ c.in-Cut.is)
