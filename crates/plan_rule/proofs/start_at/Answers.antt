-- `plan_rule::start_at` meets its contract: a cut taken before rounding up changes nothing after it. Assumes nothing.
use mathlib.Core.Path.{ap, ◌∙◌}
use Rattle.arith.specs.PowersLaws.{pos_of_power}
use Rattle.arith.specs.Align.{align_up}
use Rattle.plan_rule.specs.Cap.{cap}
use Rattle.plan_rule.proofs.CapLaws.{cap_align}
use Rattle.plan_rule.proofs.start_at.Goals as goal

pub returns : goal.returns
returns c = let up = c.align_up.ensures ∙ ap (align_up c.args.align) c.cap.ensures.0 in
    (c.cap-2.ensures.0 ∙ ap cap up ∙ cap_align c.args.align (pos_of_power c.requires) c.args.end, c.cap-2.ensures.1)
