-- `plan_sizing::with_windows` meets its contract, pool by pool. Assumes nothing.
use Rattle.pools.specs.declared.Pool.TheVariants.{Low, High, Io}
use Rattle.plan_sizing.proofs.with_windows.Goals as goal

pub with_window-requires : goal.with_window-requires
with_window-requires c = c.requires Low

pub with_window-requires-2 : goal.with_window-requires-2
with_window-requires-2 c = c.requires High

pub with_window-requires-3 : goal.with_window-requires-3
with_window-requires-3 c = c.requires Io

pub returns : goal.returns
returns c = cc
