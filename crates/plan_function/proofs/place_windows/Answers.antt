-- `place_windows` meets its contract: the three windows, each from `place_window`. Assumes nothing.
use Rattle.plan_function.proofs.KeptLaws.{windows_of_three}
use Rattle.pools.specs.declared.Pool.TheVariants.{Low, High, Io}
use Rattle.plan_function.proofs.place_windows.Goals as goal

pub place_window-low-requires : goal.place_window-low-requires
place_window-low-requires c = c.requires Low

pub place_window-high-requires : goal.place_window-high-requires
place_window-high-requires c = c.requires High

pub place_window-io-requires : goal.place_window-io-requires
place_window-io-requires c = c.requires Io

pub returns : goal.returns
returns c = windows_of_three c.args.inner c.args.c c.args.below c.place_window-low.result c.place_window-high.result c.place_window-io.result
    c.place_window-low.ensures c.place_window-high.ensures c.place_window-io.ensures
