-- `board_feed::counted` meets its contract. Assumes nothing.
use Rattle.board_feed.specs.Tally.{counted_of}
use borrow.Author.Tests.{lt-ltb, le-ltb}
use Rattle.board_feed.proofs.counted.Goals as goal

pub returns-then-records-lt-MOST_COUNTED : goal.returns-then-records-lt-MOST_COUNTED
unfolding counted_of
returns-then-records-lt-MOST_COUNTED c = rw (lt-ltb _ _ c.if-records-lt-MOST_COUNTED.true)

pub returns : goal.returns
unfolding counted_of
returns c = rw (le-ltb _ _ c.if-records-lt-MOST_COUNTED.false)
