-- `sheet_ranges::ranges_of`: the BARs, then the windows of a bridge. Assumes nothing.
use mathlib.Core.Path.{sym, ◌∙◌}
use native.Mathlib.Omega.{arith}
use Rattle.sheet_ranges.specs.ItemsLaws.{ranges_bridge, ranges_end}
use Rattle.sheet_ranges.specs.BarsLaws.{slots_le_six, slots_of_bridge}
use Rattle.sheet_ranges.proofs.ranges_of.Goals as goal

pub returns-then-is_bridge : goal.returns-then-is_bridge
returns-then-is_bridge c = let bridge = sym c.is_bridge.ensures ∙ c.if-is_bridge.true in
    let two = slots_of_bridge c.args.part.now bridge in (
      ranges_bridge _ _ c.put_bars-n.ensures.0 _ bridge c.put_windows.ensures.0,
      omega (arith, two, c.put_bars-n.ensures.1, c.put_windows.ensures.1),
    )

pub returns : goal.returns
returns c = (
  ranges_end _ _ c.put_bars-n.ensures.0 (sym c.is_bridge.ensures ∙ c.if-is_bridge.false),
  omega (arith, slots_le_six c.args.part.now, c.put_bars-n.ensures.1),
)
