-- `route_sent::climb::through`: whether the bridge lets the packet past. Assumes nothing.
use Rattle.route_sent.proofs.AboveLaws.{part_fits, sized, bridge_here, through_held, through_past}
use Rattle.route_sent.proofs.climb.through.Goals as goal

pub part-part-requires : goal.part-part-requires
part-part-requires c = part_fits _ c.requires.0 _ c.requires.1

pub stays-requires : goal.stays-requires
stays-requires c = (sized _ c.requires.0 _ c.requires.1 c.args.going _ c.part-part.ensures, bridge_here _ c.requires.0 _ c.requires.1 c.args.going _ c.part-part.ensures)

pub returns-then-stays : goal.returns-then-stays
returns-then-stays c = through_held _ c.requires.0 _ c.requires.1 c.args.going _ c.part-part.ensures _ c.stays.ensures c.if-stays.true

pub bus_of-requires : goal.bus_of-requires
bus_of-requires c = sized _ c.requires.0 _ c.requires.1 c.args.going _ c.part-part.ensures

pub returns : goal.returns
returns c = through_past _ c.requires.0 _ c.requires.1 c.args.going _ c.part-part.ensures _ c.stays.ensures c.if-stays.false _ c.bus_of.ensures
