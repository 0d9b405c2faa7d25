-- `board_feed::shown` meets its contract: only the first byte is a version. Assumes nothing.
use Rattle.board_feed.proofs.shown.Goals as goal

pub returns-in-Start : goal.returns-in-Start
returns-in-Start c = rw c.in-Start.is c.first_shown.ensures
