-- `route_sent::climb::tally_on`: by how the packet goes. Assumes nothing.
use Rattle.route_sent.proofs.climb.tally_on.Goals as goal

pub returns-in-ById : goal.returns-in-ById
returns-in-ById c = rw c.in-ById.is c.tally_on.ensures
