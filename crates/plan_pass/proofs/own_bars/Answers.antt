-- `plan_pass::own_bars` meets its contract. Assumes nothing.
use Rattle.plan_pass.specs.CallLaws.{bars_in_lem}
use Rattle.plan_pass.proofs.own_bars.Goals as goal

pub place_bars-requires : goal.place_bars-requires
place_bars-requires c = (c.slot_count.ensures.1, cc (c.slot_count.ensures.0, c.requires.1))

pub returns : goal.returns
returns c = bars_in_lem c.args.cursors.now c.args.f c.slot_count.ensures.0 c.cursors_at.ensures
    c.place_bars.ensures
