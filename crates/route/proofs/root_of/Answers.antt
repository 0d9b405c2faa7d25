-- `route::root_of`: no record, or the first one's bus. Assumes nothing.
use Rattle.route.proofs.RouteLaws.{root_of_none, first_fits, first_sized, root_of_first}
use Rattle.route.proofs.root_of.Goals as goal

pub count-requires : goal.count-requires
count-requires c = c.requires.framed

pub returns-then-count-eq0 : goal.returns-then-count-eq0
returns-then-count-eq0 c = root_of_none _ _ c.count.ensures c.if-count-eq0.true

pub part-requires : goal.part-requires
part-requires c = first_fits _ _ c.count.ensures c.requires c.if-count-eq0.false

pub bus_of-requires : goal.bus_of-requires
bus_of-requires c = first_sized _ _ c.count.ensures c.requires c.if-count-eq0.false _ c.part.ensures

pub returns : goal.returns
returns c = root_of_first _ _ c.count.ensures c.requires c.if-count-eq0.false _ c.part.ensures _
    c.bus_of.ensures
