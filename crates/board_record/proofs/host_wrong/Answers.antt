-- `board_record::host_wrong` meets its contract, by those of its pools. Assumes nothing.
use Rattle.board_record.specs.Host.{host_wrong}
use Rattle.board_record.proofs.host_wrong.Goals as goal

pub returns : goal.returns
unfolding host_wrong
returns c = rw (c.pool_wrong.ensures, c.pool_wrong-2.ensures, c.pool_wrong-3.ensures)
