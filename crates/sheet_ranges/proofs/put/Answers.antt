-- `sheet_ranges::put`: the three numbers after those of the ranges before. Assumes nothing.
use mathlib.Core.Path.{refl}
use Rattle.sheet_ranges.specs.ItemsLaws.{ranges_stored}
use Rattle.sheet_ranges.proofs.put.Goals as goal

pub returns : goal.returns
returns c = (ranges_stored _ _ c.args.x c.requires, refl)
