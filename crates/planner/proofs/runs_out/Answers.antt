-- `planner::runs_out` meets its contract. Assumes nothing.
use borrow.Author.Tests.{lt-ltb, le-ltb}
use Rattle.planner.proofs.runs_out.Goals as goal

pub returns-then-pool : goal.returns-then-pool
returns-then-pool c = rw (lt-ltb _ _ c.if-pool.true)

pub returns : goal.returns
returns c = rw (le-ltb _ _ c.if-pool.false) c.ends_past.ensures
