-- `plan_sizing::with_bar` meets its contract: the other pools stay as they were. Assumes nothing.
use Rattle.pools.specs.declared.Pool.TheVariants.{Low, High, Io}
use Rattle.plan_sizing.specs.CutLaws.{with_bar_at}
use Rattle.plan_sizing.proofs.with_bar.Goals as goal

pub returns-in-Low : goal.returns-in-Low
returns-in-Low c = rw c.in-Low.is (with_bar_at Low c.args.size c.args.l c.grow.result c.requires.0 c.grow.ensures)

pub returns-in-High : goal.returns-in-High
returns-in-High c = rw c.in-High.is (with_bar_at High c.args.size c.args.l c.grow-in-High.result c.requires.0 c.grow-in-High.ensures)

pub returns-in-Io : goal.returns-in-Io
returns-in-Io c = rw c.in-Io.is (with_bar_at Io c.args.size c.args.l c.grow-in-Io.result c.requires.0 c.grow-in-Io.ensures)
