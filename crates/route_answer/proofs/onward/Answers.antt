-- `route_answer::onward`: no functions, then the type by the root bus, then where the packet is headed. Assumes nothing.
use mathlib.Core.Path.{◌≡◌}
use Rattle.walk.specs.Walk.{Outcome}
use Rattle.claims.specs.declared.Aim.{Aim}
use Rattle.route_arrival.specs.declared.Heading.{Heading}
use Rattle.route_arrival.specs.declared.Heading.TheVariants.{Aimed, Up, Every, Port}
use Rattle.route_answer.specs.Routing.{headed_over, route_over}
use Rattle.route_answer.proofs.OnwardLaws.{no_functions, wrong_type_lem, headed_as}
use Rattle.route_answer.proofs.onward.Goals as goal
use Rattle.route_answer.proofs.onward.Goals.{After-heading_of}

-- no check has refused the packet
past : (c : After-heading_of) (x : Heading) → c.heading_of.result ≡ x
    → (outcome : Aim → Outcome)
    → headed_over c.args.functions outcome x c.args.p ≡ route_over c.args.functions c.args.root outcome c.args.p
past c x e =
    headed_as c.args.p _ c.args.root c.if-functions-eq0.false _ c.type_wrong.ensures c.if-type_wrong.false _
    c.heading_of.ensures x e

pub returns-then-functions-eq0 : goal.returns-then-functions-eq0
returns-then-functions-eq0 c = no_functions c.args.p _ c.args.root c.if-functions-eq0.true

pub returns-then-type_wrong : goal.returns-then-type_wrong
returns-then-type_wrong c = wrong_type_lem c.args.p _ c.args.root c.if-functions-eq0.false _ c.type_wrong.ensures c.if-type_wrong.true

pub returns-in-Aimed : goal.returns-in-Aimed
returns-in-Aimed c = past (goal.at.returns-in-Aimed c).After-heading_of (Aimed _) c.in-Aimed.is

pub returns-in-Up : goal.returns-in-Up
returns-in-Up c = past (goal.at.returns-in-Up c).After-heading_of Up c.in-Up.is

pub returns-in-Every : goal.returns-in-Every
returns-in-Every c = past (goal.at.returns-in-Every c).After-heading_of Every c.in-Every.is

pub returns-in-Port : goal.returns-in-Port
returns-in-Port c = past (goal.at.returns-in-Port c).After-heading_of Port c.in-Port.is
