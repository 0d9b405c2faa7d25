-- `route_sent::climb::way_up`: by who stands above. Assumes nothing.
use Rattle.route_sent.proofs.AboveLaws.{up_host, up_none, up_several, up_one, leads_here}
use Rattle.route_sent.proofs.climb.way_up.Goals as goal

pub through-requires : goal.through-requires
through-requires c = (c.requires, leads_here _ c.requires c.args.going _ _ _ c.parent_of.ensures _ c.in-Bridge.is)

pub returns-in-Host : goal.returns-in-Host
returns-in-Host c = up_host _ c.requires c.args.going _ _ _ c.parent_of.ensures c.in-Host.is

pub returns-in-Bridge : goal.returns-in-Bridge
returns-in-Bridge c = up_one _ c.requires c.args.going _ _ _ c.parent_of.ensures _ c.in-Bridge.is _ c.through.ensures

pub returns-in-Nothing : goal.returns-in-Nothing
returns-in-Nothing c = up_none _ c.requires c.args.going _ _ _ c.parent_of.ensures c.in-Nothing.is

pub returns-in-Several : goal.returns-in-Several
returns-in-Several c = up_several _ c.requires c.args.going _ _ _ c.parent_of.ensures c.in-Several.is
