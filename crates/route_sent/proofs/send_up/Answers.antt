-- `route_sent::send_up`: the climb where nothing claims. Assumes nothing.
use mathlib.Core.Path.{refl}
use native.Mathlib.Omega.{arith}
use Rattle.sheet.proofs.SheetLaws.{checked_of_zero}
use Rattle.route_sent.proofs.StepLaws.{climbed_up}
use Rattle.route_sent.proofs.send_up.Goals as goal

pub root_of-top-requires : goal.root_of-top-requires
root_of-top-requires c = checked_of_zero _ c.requires

pub climb-requires : goal.climb-requires
climb-requires c = (checked_of_zero _ c.requires, omega arith)

pub returns : goal.returns
returns c = climbed_up c.args.p _ c.args.own _ _ c.root_of-top.ensures refl c.climb.result c.climb.ensures _ c.arrived.ensures
