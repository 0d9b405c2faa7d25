-- `board_record::host_of` meets its contract: each field is what its bytes spell. Assumes nothing.
use Rattle.board_record.specs.Host.{host_of_part}
use Rattle.board_record.proofs.host_of.Goals as goal

pub returns : goal.returns
unfolding host_of_part
returns c = cc
