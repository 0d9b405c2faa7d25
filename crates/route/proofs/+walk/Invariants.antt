use Rattle.std.proofs.Common.{◌-◌}
use Rattle.route.proofs.+walk.Given as goal

abbrev pub decreases-walk : goal.decreases-walk
decreases-walk l = 255 - l.bus
