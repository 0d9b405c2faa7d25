-- `route_sent::arrived`: one case each. Assumes nothing.
use Rattle.route_sent.proofs.arrived.Goals as goal

pub returns-in-Arrives : goal.returns-in-Arrives
returns-in-Arrives c = rw c.in-Arrives.is

pub returns-in-Leaves : goal.returns-in-Leaves
returns-in-Leaves c = rw c.in-Leaves.is

pub returns-in-Stops : goal.returns-in-Stops
returns-in-Stops c = rw c.in-Stops.is
