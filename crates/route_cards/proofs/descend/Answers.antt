-- `route_cards::descend`: where the walk from no bridges ended, with those crossed before it added. Assumes nothing.
use Rattle.route_cards.specs.StepLaws.{down_delivered, down_refused}
use Rattle.route_cards.proofs.descend.Goals as goal

pub returns-in-Delivered : goal.returns-in-Delivered
returns-in-Delivered c =
    rw c.from.ensures (down_delivered c.args.aim _ c.args.bus c.args.crossed c.walk.result c.walk.ensures _ _ c.in-Delivered.is)

pub returns-in-Refused : goal.returns-in-Refused
returns-in-Refused c = down_refused c.args.aim _ c.args.bus c.args.crossed c.walk.result c.walk.ensures _ c.in-Refused.is
