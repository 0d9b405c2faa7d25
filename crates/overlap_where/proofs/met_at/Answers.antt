-- `overlap_where::met_at` meets its contract: on another bus nothing is decoded. Assumes nothing.
use native.Mathlib.Omega.{arith}
use Rattle.sheet_ranges.specs.Items.{range_of}
use Rattle.sheet_ranges.specs.SearchLaws.{part_fits, part_sized, part_lawful}
use Rattle.overlap_where.specs.MeetingLaws.{other_bus, one_bus}
use Rattle.overlap_where.proofs.met_at.Goals as goal

pub part-part-requires : goal.part-part-requires
part-part-requires c = part_fits _ c.requires.0 _ c.requires.2

pub part-requires : goal.part-requires
part-requires c = part_fits _ c.requires.0 _ c.requires.1

pub bus_of-requires : goal.bus_of-requires
bus_of-requires c = part_sized _ c.requires.0 _ c.requires.1 _ c.part.ensures

pub bus_of-requires-2 : goal.bus_of-requires-2
bus_of-requires-2 c = part_sized _ c.requires.0 _ c.requires.2 _ c.part-part.ensures

pub returns-then-bus_of : goal.returns-then-bus_of
returns-then-bus_of c = other_bus c.args.sheet.now c.args.k c.args.j c.args.place (range_of c.args.x) _ _ c.part.ensures c.part-part.ensures _ _
    c.bus_of.ensures c.bus_of-2.ensures c.if-bus_of.true

pub ranges_of-n-requires : goal.ranges_of-n-requires
ranges_of-n-requires c = (
  part_sized _ c.requires.0 _ c.requires.2 _ c.part-part.ensures,
  part_lawful _ c.requires.0 _ c.requires.2 _ c.part-part.ensures,
  omega arith,
)

pub first_met-requires : goal.first_met-requires
first_met-requires c = (
  part_sized _ c.requires.0 _ c.requires.2 _ c.part-part.ensures,
  part_lawful _ c.requires.0 _ c.requires.2 _ c.part-part.ensures,
  omega (arith, c.ranges_of-n.ensures.1),
  c.ranges_of-n.ensures.0,
)

pub returns : goal.returns
returns c = one_bus c.args.sheet.now c.args.k c.args.j c.args.place (range_of c.args.x) _ _ c.part.ensures c.part-part.ensures _ _
    c.bus_of.ensures c.bus_of-2.ensures c.if-bus_of.false _ c.first_met.ensures
