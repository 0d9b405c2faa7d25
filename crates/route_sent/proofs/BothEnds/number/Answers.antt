-- `route_sent::BothEnds::number`: one case each. Assumes nothing.
use Rattle.route_sent.proofs.BothEnds.number.Goals as goal

pub returns-in-FromHost : goal.returns-in-FromHost
returns-in-FromHost c = rw c.in-FromHost.is c.number.ensures

pub returns-in-FromFunction : goal.returns-in-FromFunction
returns-in-FromFunction c = rw c.in-FromFunction.is c.number-in-FromFunction.ensures
