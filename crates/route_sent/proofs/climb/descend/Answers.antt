-- `route_sent::climb::descend`: card to card's descent by ID, and none of what only travels up. Assumes nothing.
use Rattle.route_sent.proofs.StepLaws.{down_nowhere}
use Rattle.route_sent.proofs.climb.descend.Goals as goal

pub returns-in-OnlyUp : goal.returns-in-OnlyUp
returns-in-OnlyUp c = rw c.in-OnlyUp.is (down_nowhere c.args.bus c.args.crossed)
