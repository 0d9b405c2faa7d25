-- `route_sent::send_to_other`: 40 for the sender's own ID, else the climb from its bus. Assumes nothing.
use mathlib.Core.Path.{refl}
use native.Mathlib.Omega.{arith}
use Rattle.sheet.proofs.SheetLaws.{checked_of_zero}
use Rattle.route_sent.proofs.StepLaws.{own_id, climbed_by_id}
use Rattle.route_sent.proofs.send_to_other.Goals as goal

pub returns-then-id-own : goal.returns-then-id-own
returns-then-id-own c = own_id c.args.p _ (λ i. (c.type_inv.sheet i).fits) c.requires.0 c.args.number c.args.own c.args.id c.requires.1 c.if-id-own.true

pub root_of-top-requires : goal.root_of-top-requires
root_of-top-requires c = checked_of_zero _ c.requires.0

pub climb-requires : goal.climb-requires
climb-requires c = (checked_of_zero _ c.requires.0, omega arith)

pub returns : goal.returns
returns c = climbed_by_id c.args.p _ (λ i. (c.type_inv.sheet i).fits) c.requires.0 c.args.number c.args.own c.args.id c.requires.1 c.if-id-own.false _ _ c.root_of-top.ensures refl c.climb.result c.climb.ensures _ c.arrived.ensures
