-- `audit_where::place_spot` meets its contract: the record's ranges and those above, decoded. Assumes nothing.
use native.Mathlib.Omega.{arith}
use Rattle.sheet_ranges.specs.SearchLaws.{part_fits, part_sized, part_lawful}
use Rattle.audit_where.specs.UnderLaws.{place_told}
use Rattle.audit_where.proofs.place_spot.Goals as goal

pub part-part-requires : goal.part-part-requires
part-part-requires c = part_fits _ c.requires.0 _ c.requires.2

pub ranges_of-n-requires : goal.ranges_of-n-requires
ranges_of-n-requires c = (
  part_sized _ c.requires.0 _ c.requires.2 _ c.part-part.ensures,
  part_lawful _ c.requires.0 _ c.requires.2 _ c.part-part.ensures,
  omega arith,
)

pub bus_of-requires : goal.bus_of-requires
bus_of-requires c = part_sized _ c.requires.0 _ c.requires.2 _ c.part-part.ensures

pub ranges_above-m-requires : goal.ranges_above-m-requires
ranges_above-m-requires c = (c.requires.0, c.requires.1, omega arith)

pub first_outside-requires : goal.first_outside-requires
first_outside-requires c = (
  part_sized _ c.requires.0 _ c.requires.2 _ c.part-part.ensures,
  part_lawful _ c.requires.0 _ c.requires.2 _ c.part-part.ensures,
  omega (arith, c.ranges_of-n.ensures.1),
  omega (arith, c.ranges_above-m.ensures.1),
  c.ranges_of-n.ensures.0,
)

pub returns : goal.returns
returns c = place_told c.args.host c.args.sheet.now c.args.k _ c.part-part.ensures _ c.bus_of.ensures _
    c.ranges_above-m.ensures.0 _ c.first_outside.ensures
