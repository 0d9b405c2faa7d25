-- `route::walk` calls itself on the secondary bus. Measure: 255 minus the bus number, which falls since bus numbers rise at each bridge.
-- Each arm is one case of the walk's step. Assumes nothing.
use native.Mathlib.Omega.{arith}
use Rattle.route.proofs.RouteLaws.{walk_nothing, walk_several, walk_bar, walk_window, bus_rises}
use Rattle.route.proofs.+walk.Goals as goal

pub tally_on-requires : goal.tally_on-requires
tally_on-requires t c = c.requires.0

pub overflow_add-crossed : goal.overflow_add-crossed
overflow_add-crossed t c = let rises =
    bus_rises c.args.aim _ (λ i. (c.type_inv.sheet i).fits) c.requires.0 c.args.bus
    c.args.crossed (omega (arith, c.ranges.bus)) c.tally_on.result
    c.tally_on.ensures _ c.in-One.is _ _ c.in-Window.is in
    omega (arith, c.requires.1, rises)

pub walk-requires : goal.walk-requires
walk-requires t c = let rises =
    bus_rises c.args.aim _ (λ i. (c.type_inv.sheet i).fits) c.requires.0 c.args.bus
    c.args.crossed (omega (arith, c.ranges.bus)) c.tally_on.result
    c.tally_on.ensures _ c.in-One.is _ _ c.in-Window.is in
    (omega (arith, rises), (c.requires.0, omega (arith, c.requires.1, rises)))

pub returns-in-Nothing : goal.returns-in-Nothing
returns-in-Nothing t c = walk_nothing c.args.aim _ (λ i. (c.type_inv.sheet i).fits) c.requires.0 c.args.bus
    c.args.crossed (omega (arith, c.ranges.bus)) c.tally_on.result
    c.tally_on.ensures c.in-Nothing.is

pub returns-in-Bar : goal.returns-in-Bar
returns-in-Bar t c = walk_bar c.args.aim _ (λ i. (c.type_inv.sheet i).fits) c.requires.0 c.args.bus
    c.args.crossed (omega (arith, c.ranges.bus)) c.tally_on.result
    c.tally_on.ensures _ c.in-One.is _ c.in-Bar.is

pub returns-in-Window : goal.returns-in-Window
returns-in-Window t c = walk_window c.args.aim _ (λ i. (c.type_inv.sheet i).fits) c.requires.0 c.args.bus
    c.args.crossed (omega (arith, c.ranges.bus)) c.tally_on.result c.tally_on.ensures _
    c.in-One.is _ _ c.in-Window.is _ c.walk.ensures

pub returns-in-Several : goal.returns-in-Several
returns-in-Several t c = walk_several c.args.aim _ (λ i. (c.type_inv.sheet i).fits) c.requires.0 c.args.bus
    c.args.crossed (omega (arith, c.ranges.bus)) c.tally_on.result
    c.tally_on.ensures c.in-Several.is
