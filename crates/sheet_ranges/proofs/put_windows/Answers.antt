-- `sheet_ranges::put_windows`: low, high and I/O. Assumes nothing.
use native.Mathlib.Omega.{arith}
use Rattle.sheet_ranges.specs.ItemsLaws.{windows_put}
use Rattle.sheet_ranges.proofs.put_windows.Goals as goal

pub returns : goal.returns
returns c = (
  windows_put _ _ _ _ _ _ c.requires.1 c.put_window-low.ensures.0
      c.put_window-high.ensures.0 c.put_window.ensures.0,
  omega (arith, c.put_window-low.ensures.1, c.put_window-high.ensures.1, c.put_window.ensures.1),
)
