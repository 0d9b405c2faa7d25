-- `board_feed::Tally::begin` meets its contract. Assumes nothing.
use Rattle.board_feed.specs.Tally.{begun_of}
use Rattle.board_feed.proofs.Tally.begin.Goals as goal

pub returns : goal.returns
unfolding begun_of
returns c = rw (c.misfits-misfits.ensures, c.counted.ensures)
