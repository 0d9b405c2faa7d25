-- `route_sent::climb::climb` calls itself on the bus above. Measure: the bus number, which falls since bus numbers rise at each bridge. Each arm
-- is one case of the climb's step. Assumes nothing.
use native.Mathlib.Omega.{arith}
use Rattle.route_sent.proofs.StepLaws.{climb_several, climb_bar, climb_window, climb_host, climb_halts, climb_across, bus_falls}
use Rattle.route_sent.proofs.climb.+climb.Goals as goal

pub tally_on-requires : goal.tally_on-requires
tally_on-requires t c = c.requires.0

pub way_up-requires : goal.way_up-requires
way_up-requires t c = c.requires.0

pub overflow_add-crossed : goal.overflow_add-crossed
overflow_add-crossed t c = let falls =
    bus_falls c.args.going _ (λ i. (c.type_inv.sheet i).fits) c.requires.0
    c.args.root
    c.args.bus c.args.crossed c.tally_on.result c.tally_on.ensures
    c.in-Nothing.is c.way_up.result c.way_up.ensures _ _ c.in-Across.is in
    omega (arith, c.requires.1, falls)

pub climb-requires : goal.climb-requires
climb-requires t c = let falls =
    bus_falls c.args.going _ (λ i. (c.type_inv.sheet i).fits) c.requires.0
    c.args.root
    c.args.bus c.args.crossed c.tally_on.result c.tally_on.ensures
    c.in-Nothing.is c.way_up.result c.way_up.ensures _ _ c.in-Across.is in
    (omega (arith, falls), (c.requires.0, omega (arith, c.requires.1, falls)))

pub overflow_add-crossed-in-Window : goal.overflow_add-crossed-in-Window
overflow_add-crossed-in-Window t c = omega (arith, c.requires.1)

pub descend-requires : goal.descend-requires
descend-requires t c = (c.requires.0, omega (arith, c.requires.1))

pub returns-in-Host : goal.returns-in-Host
returns-in-Host t c = climb_host c.args.going _ (λ i. (c.type_inv.sheet i).fits) c.requires.0
    c.args.root
    c.args.bus c.args.crossed c.tally_on.result c.tally_on.ensures
    c.in-Nothing.is c.way_up.result c.way_up.ensures c.in-Host.is

pub returns-in-Across : goal.returns-in-Across
returns-in-Across t c = climb_across c.args.going _ (λ i. (c.type_inv.sheet i).fits) c.requires.0
    c.args.root
    c.args.bus c.args.crossed c.tally_on.result c.tally_on.ensures
    c.in-Nothing.is c.way_up.result c.way_up.ensures _ _ c.in-Across.is _
    c.climb.ensures

pub returns-in-Halts : goal.returns-in-Halts
returns-in-Halts t c = climb_halts c.args.going _ (λ i. (c.type_inv.sheet i).fits) c.requires.0
    c.args.root
    c.args.bus c.args.crossed c.tally_on.result c.tally_on.ensures
    c.in-Nothing.is c.way_up.result c.way_up.ensures _ c.in-Halts.is

pub returns-in-Bar : goal.returns-in-Bar
returns-in-Bar t c = climb_bar c.args.going _ (λ i. (c.type_inv.sheet i).fits) c.requires.0
    c.args.root
    c.args.bus c.args.crossed c.tally_on.result c.tally_on.ensures
    _ c.in-One.is _ c.in-Bar.is

pub returns-in-Window : goal.returns-in-Window
returns-in-Window t c = climb_window c.args.going _ (λ i. (c.type_inv.sheet i).fits) c.requires.0
    c.args.root
    c.args.bus c.args.crossed c.tally_on.result c.tally_on.ensures
    _ c.in-One.is _ _ c.in-Window.is _ c.descend.ensures

pub returns-in-Several : goal.returns-in-Several
returns-in-Several t c = climb_several c.args.going _ (λ i. (c.type_inv.sheet i).fits) c.requires.0
    c.args.root
    c.args.bus c.args.crossed c.tally_on.result c.tally_on.ensures
    c.in-Several.is
