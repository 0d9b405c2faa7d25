-- `route::route_aimed`: where the walk ended. Assumes nothing.
use native.Mathlib.Omega.{arith}
use Rattle.route.proofs.RouteLaws.{walk_delivered, walk_refused}
use Rattle.route.proofs.route_aimed.Goals as goal

pub walk-requires : goal.walk-requires
walk-requires c = (c.requires, omega arith)

pub returns-in-Delivered : goal.returns-in-Delivered
returns-in-Delivered c = walk_delivered c.args.p c.walk.result _ c.walk.ensures _ _
    c.in-Delivered.is _ c.deliver.ensures

pub returns-in-Refused : goal.returns-in-Refused
returns-in-Refused c = walk_refused c.args.p c.walk.result _ c.walk.ensures _ c.in-Refused.is
