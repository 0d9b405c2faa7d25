-- `trace::put_last` meets its contract: short room is left as it was. Assumes nothing.
use Rattle.std.proofs.Common.{◌∙◌, le-leb}
use borrow.Author.Tests.{lt-leb}
use Rattle.trace.specs.Feed.{ended_of}
use Rattle.trace.proofs.FeedLaws.{put_front, short_front}
use Rattle.trace.proofs.put_last.Goals as goal

pub returns-then-out-line : goal.returns-then-out-line
unfolding ended_of
returns-then-out-line c = (rw (lt-leb _ _ c.if-out-line.true), short_front _ _ c.if-out-line.true)

pub returns : goal.returns
unfolding ended_of
returns c = (
  rw (le-leb _ _ c.if-out-line.false),
  c.put_text.ensures.stored ∙ put_front _ _ c.if-out-line.false,
)
