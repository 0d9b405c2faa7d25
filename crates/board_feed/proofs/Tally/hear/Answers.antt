-- `board_feed::Tally::hear` meets its contract: only a record that begins is counted. Assumes nothing.
use Rattle.board_feed.proofs.Tally.hear.Goals as goal

pub returns-in-Begins : goal.returns-in-Begins
returns-in-Begins c = rw c.in-Begins.is c.begin.ensures
