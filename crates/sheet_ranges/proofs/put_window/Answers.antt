-- `sheet_ranges::put_window`: the range of the registers. Assumes nothing.
use Rattle.sheet_ranges.specs.ItemsLaws.{window_put}
use Rattle.sheet_ranges.proofs.put_window.Goals as goal

pub returns : goal.returns
returns c = (
  window_put _ _ _ _ _ _ _ _ c.window_of-w.ensures c.start.ensures c.last.ensures
      c.put_open.ensures.0,
  c.put_open.ensures.1,
)
