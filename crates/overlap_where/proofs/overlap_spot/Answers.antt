-- `overlap_where::overlap_spot` meets its contract: the record's ranges, decoded. Assumes nothing.
use mathlib.Core.Path.{ap, ◌∙◌}
use mathlib.Core.List.{List}
use Prim.Native.Nat.{ℕ}
use native.Mathlib.Omega.{arith}
use Rattle.sheet_record.specs.Entry.{entry_of}
use Rattle.sheet_ranges.specs.Ranges.{ranges_of}
use Rattle.sheet_ranges.specs.SearchLaws.{part_fits, part_sized, part_lawful}
use Rattle.overlap_where.proofs.overlap_spot.Goals as goal

pub part-requires : goal.part-requires
part-requires c = part_fits _ c.requires.0 _ c.requires.1

pub ranges_of-n-requires : goal.ranges_of-n-requires
ranges_of-n-requires c = (
  part_sized _ c.requires.0 _ c.requires.1 _ c.part.ensures,
  part_lawful _ c.requires.0 _ c.requires.1 _ c.part.ensures,
  omega arith,
)

pub first_overlap-requires : goal.first_overlap-requires
first_overlap-requires c = (
  c.requires.0,
  c.requires.1,
  omega (arith, c.ranges_of-n.ensures.1),
  c.ranges_of-n.ensures.0 ∙ ap (λ (p : List ℕ). ranges_of (entry_of p)) c.part.ensures,
)
