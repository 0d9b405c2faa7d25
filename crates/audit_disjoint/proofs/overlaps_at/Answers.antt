-- `audit_disjoint::overlaps_at`: its own ranges, then those of later records. Assumes nothing.
use native.Mathlib.Omega.{arith}
use Rattle.sheet_ranges.specs.SearchLaws.{part_fits, part_sized, part_lawful}
use Rattle.audit_disjoint.specs.DisjointLaws.{at_own, at_later}
use Rattle.audit_disjoint.proofs.overlaps_at.Goals as goal

pub part-part-requires : goal.part-part-requires
part-part-requires c = part_fits _ c.requires.0 _ c.requires.1

pub ranges_of-n-requires : goal.ranges_of-n-requires
ranges_of-n-requires c = (
  part_sized _ c.requires.0 _ c.requires.1 _ c.part-part.ensures,
  part_lawful _ c.requires.0 _ c.requires.1 _ c.part-part.ensures,
  omega arith,
)

pub returns-then-any_pair : goal.returns-then-any_pair
returns-then-any_pair c = at_own _ _ _ _ _ c.part-part.ensures c.ranges_of-n.ensures.0 c.any_pair.ensures c.if-any_pair.true

pub bus_of-requires : goal.bus_of-requires
bus_of-requires c = part_sized _ c.requires.0 _ c.requires.1 _ c.part-part.ensures

pub returns : goal.returns
returns c = at_later _ _ _ _ _ c.part-part.ensures c.ranges_of-n.ensures.0 c.any_pair.ensures _ _ c.if-any_pair.false
    c.bus_of.ensures c.meets_later.ensures
