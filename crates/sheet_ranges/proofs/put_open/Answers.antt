-- `sheet_ranges::put_open`: nothing, or one range more. Assumes nothing.
use native.Mathlib.Omega.{arith}
use Rattle.sheet_ranges.specs.ItemsLaws.{open_none, open_put}
use Rattle.sheet_ranges.proofs.put_open.Goals as goal

pub returns-then-last-first : goal.returns-then-last-first
returns-then-last-first c = (open_none c.args.q 0 c.args.first c.args.last _ _ c.if-last-first.true, omega arith)

pub returns : goal.returns
returns c = (
  open_put c.args.q _ _ _ _ _ _ c.number_of.ensures c.put.ensures.0 c.if-last-first.false,
  omega (arith, c.put.ensures.1),
)
