-- `route_cards::above::way_up`: by who stands above. Assumes nothing.
use Prim.Native.Nat.{◌<◌}
use native.Mathlib.Omega.{arith}
use Rattle.records.specs.Limits.{most_functions}
use Rattle.route_cards.specs.AboveLaws.{up_host, up_none, up_several, leads_here, number_fits, up_one}
use Rattle.route_cards.proofs.above.way_up.Goals as goal
use Rattle.route_cards.proofs.above.way_up.Goals.{In-Bridge}

-- a bridge's number fits
fits : (c : In-Bridge) → c.in-Bridge.k < most_functions
fits c =
    number_fits _ c.requires c.args.space c.args.address _ _ _ c.parent_of.ensures _ c.in-Bridge.is

pub overflow_cast-k : goal.overflow_cast-k
overflow_cast-k c = omega (arith, fits (goal.at.overflow_cast-k c).In-Bridge)

pub overflow_add-k : goal.overflow_add-k
overflow_add-k c = omega (arith, fits (goal.at.overflow_add-k c).In-Bridge)

pub through-requires : goal.through-requires
through-requires c = (
  c.requires,
  leads_here _ c.requires c.args.space c.args.address _ _ _ c.parent_of.ensures _ c.in-Bridge.is,
)

pub returns-in-Host : goal.returns-in-Host
returns-in-Host c = up_host _ c.requires c.args.space c.args.address _ _ _ c.parent_of.ensures c.in-Host.is

pub returns-in-Bridge : goal.returns-in-Bridge
returns-in-Bridge c = up_one _ c.requires c.args.space c.args.address _ _ _ c.parent_of.ensures _ c.in-Bridge.is _
    c.through.ensures

pub returns-in-Nothing : goal.returns-in-Nothing
returns-in-Nothing c = up_none _ c.requires c.args.space c.args.address _ _ _ c.parent_of.ensures c.in-Nothing.is

pub returns-in-Several : goal.returns-in-Several
returns-in-Several c = up_several _ c.requires c.args.space c.args.address _ _ _ c.parent_of.ensures c.in-Several.is
