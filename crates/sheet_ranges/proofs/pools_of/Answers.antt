-- `sheet_ranges::pools_of`: low, high and I/O. Assumes nothing.
use native.Mathlib.Omega.{arith}
use Rattle.sheet_ranges.specs.ItemsLaws.{pools_put}
use Rattle.sheet_ranges.proofs.pools_of.Goals as goal

pub returns : goal.returns
returns c = (
  pools_put c.args.host _ _ _ _ c.put_open-n.ensures.0 c.put_open-m.ensures.0 c.put_open.ensures.0,
  omega (arith, c.put_open-n.ensures.1, c.put_open-m.ensures.1, c.put_open.ensures.1),
)
