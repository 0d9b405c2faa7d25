-- `board_record::outside` meets its contract, pool by pool. Assumes nothing.
use Rattle.board_record.proofs.outside.Goals as goal

pub returns-in-High : goal.returns-in-High
returns-in-High c = rw c.in-High.is
