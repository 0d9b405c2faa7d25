-- `board_feed::Tally::number` meets its contract. Assumes nothing.
use Prim.Native.Nat.{◌+◌}
use borrow.Author.Tests.{lt-ltb, le-ltb}
use Rattle.records.specs.Limits.{most_functions}
use Rattle.board_feed.specs.Tally.{whole_number}
use Rattle.board_feed.proofs.Tally.number.Goals as goal

pub returns-then-self : goal.returns-then-self
unfolding whole_number
returns-then-self c = rw c.if-self.true

pub returns-then-self-gt-MOST_RECORDS : goal.returns-then-self-gt-MOST_RECORDS
unfolding whole_number
returns-then-self-gt-MOST_RECORDS c = rw (c.if-self.false, lt-ltb (1 + most_functions) _ c.if-self-gt-MOST_RECORDS.true)

pub returns : goal.returns
unfolding whole_number
returns c = rw (c.if-self.false, le-ltb (1 + most_functions) _ c.if-self-gt-MOST_RECORDS.false)
