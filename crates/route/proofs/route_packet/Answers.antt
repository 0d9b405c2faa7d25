-- `route::route_packet`: by the checks before the walk, or the walk from the root bus. Assumes nothing.
use native.Mathlib.Omega.{arith}
use Rattle.sheet.proofs.SheetLaws.{checked_of_zero}
use Rattle.route_answer.proofs.OnwardLaws.{answered, looked_for}
use Rattle.route.specs.Route.{walked}
use Rattle.route.proofs.RouteLaws.{over_sheet_lem}
use Rattle.route.proofs.route_packet.Goals as goal

pub root_of-root-requires : goal.root_of-root-requires
root_of-root-requires c = checked_of_zero _ c.requires

pub count-requires : goal.count-requires
count-requires c = (checked_of_zero _ c.requires).framed

pub overflow_cast-count : goal.overflow_cast-count
overflow_cast-count c = omega (arith, c.count.ensures, (checked_of_zero _ c.requires).count)

pub route_aimed-requires : goal.route_aimed-requires
route_aimed-requires c = checked_of_zero _ c.requires

pub returns-in-Aimed : goal.returns-in-Aimed
returns-in-Aimed c = looked_for c.args.p c.count.result c.root_of-root.result _ c.onward.ensures (λ aim. walked aim c.args.sheet.now c.root_of-root.result 0)
    (over_sheet_lem c.args.p _ _ _ c.count.ensures c.root_of-root.ensures) _
    c.in-Aimed.is _ c.route_aimed.ensures

pub returns-in-Answered : goal.returns-in-Answered
returns-in-Answered c = answered c.args.p c.count.result c.root_of-root.result _ c.onward.ensures (λ aim. walked aim c.args.sheet.now c.root_of-root.result 0)
    (over_sheet_lem c.args.p _ _ _ c.count.ensures c.root_of-root.ensures) _ c.in-Answered.is
