-- `plan_sizing::own_bars` meets its contract: the BARs of the slots that count, and one record further. Assumes nothing.
use native.Mathlib.Numerals.{add-one}
use Rattle.plan_sizing.proofs.own_bars.Goals as goal

pub returns : goal.returns
returns c = rw (
  add-one c.args.l.next,
  c.with_bars.ensures,
  c.set_at.ensures,
  c.slot_count-count.ensures.0,
  c.header_at.ensures,
)
