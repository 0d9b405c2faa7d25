-- `sheet_where::is_bar_value` meets its contract: by the pool. Assumes nothing.
use Rattle.sheet_where.specs.SlotsLaws.{low_value, high_value, io_value}
use Rattle.sheet_where.proofs.is_bar_value.Goals as goal

pub returns-in-Low : goal.returns-in-Low
returns-in-Low c = rw c.in-Low.is (low_value _ _ _)

pub returns-in-High : goal.returns-in-High
returns-in-High c = rw c.in-High.is (high_value _ _ _)

pub returns-in-Io : goal.returns-in-Io
returns-in-Io c = rw c.in-Io.is (io_value _ _ _)
