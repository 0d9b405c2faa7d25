-- `route_cards::send_request`: bus master, the own BAR, and then where the climb ended. Assumes nothing.
use mathlib.Core.Path.{◌≡◌}
use native.Mathlib.Omega.{arith}
use lib.ListN.{length}
use Rattle.sheet_record.specs.Places.{record_size}
use Rattle.route_cards.specs.RecordLaws.{part_fits, sized, lawful}
use Rattle.route_cards.specs.StepLaws.{start_unmastered, own_bar, sent_delivered, sent_to_host, sent_refused}
use Rattle.route_cards.proofs.send_request.Goals as goal
use Rattle.route_cards.proofs.send_request.Goals.{After-part-part}

-- its part is whole
whole : (c : After-part-part) → length c.part-part.result.now ≡ record_size
whole c = sized _ c.requires.0 _ c.requires.1.is_record _ c.part-part.ensures

pub overflow_sub-number : goal.overflow_sub-number
overflow_sub-number c = omega (arith, c.requires.1.is_record.from_1)

pub part-part-requires : goal.part-part-requires
part-part-requires c = part_fits _ c.requires.0 _ c.requires.1.is_record

pub is_master-requires : goal.is_master-requires
is_master-requires c = whole (goal.at.is_master-requires c).After-part-part

pub returns-then-not-is_master : goal.returns-then-not-is_master
returns-then-not-is_master c = start_unmastered c.args.p _ c.requires.0 _ c.requires.1 c.args.space c.args.address _
    c.part-part.ensures _
    c.is_master.ensures (c.if-not-is_master.true)

pub bars_hold-requires : goal.bars_hold-requires
bars_hold-requires c = (whole (goal.at.bars_hold-requires c).After-part-part, lawful _ c.requires.0 _ c.requires.1.is_record _ c.part-part.ensures)

pub returns-then-bars_hold : goal.returns-then-bars_hold
returns-then-bars_hold c = own_bar c.args.p _ c.requires.0 _ c.requires.1 c.args.space c.args.address _ c.part-part.ensures _
    c.is_master.ensures (c.if-not-is_master.false) _ c.bars_hold.ensures c.if-bars_hold.true

pub root_of-root-requires : goal.root_of-root-requires
root_of-root-requires c = c.requires.0

pub bus_of-requires : goal.bus_of-requires
bus_of-requires c = whole (goal.at.bus_of-requires c).After-part-part

pub climb-requires : goal.climb-requires
climb-requires c = (c.requires.0, omega arith)

pub returns-in-Arrives : goal.returns-in-Arrives
returns-in-Arrives c = sent_delivered c.args.p _ c.requires.0 _ c.requires.1 c.args.space c.args.address _
    c.part-part.ensures _
    c.is_master.ensures (c.if-not-is_master.false) _ c.bars_hold.ensures c.if-bars_hold.false _
    c.root_of-root.ensures _ c.bus_of.ensures c.climb.result c.climb.ensures _ _ c.in-Arrives.is

pub returns-in-Leaves : goal.returns-in-Leaves
returns-in-Leaves c = sent_to_host c.args.p _ c.requires.0 _ c.requires.1 c.args.space c.args.address _ c.part-part.ensures
    _
    c.is_master.ensures (c.if-not-is_master.false) _ c.bars_hold.ensures c.if-bars_hold.false _
    c.root_of-root.ensures _ c.bus_of.ensures c.climb.result c.climb.ensures _ c.in-Leaves.is

pub returns-in-Stops : goal.returns-in-Stops
returns-in-Stops c = sent_refused c.args.p _ c.requires.0 _ c.requires.1 c.args.space c.args.address _ c.part-part.ensures
    _
    c.is_master.ensures (c.if-not-is_master.false) _ c.bars_hold.ensures c.if-bars_hold.false _
    c.root_of-root.ensures _ c.bus_of.ensures c.climb.result c.climb.ensures _ c.in-Stops.is
