-- `index_table::bucket_of` meets its contract: the definition itself; a segment starts at a multiple of 8 n. Assumes nothing.
use Rattle.std.proofs.Common.{refl, arith}
use Rattle.index_table.specs.Table.{bucket_by}
use Rattle.index_table.specs.SegmentLaws.{start_le, least_min}
use Rattle.index_table.proofs.bucket_of.Goals as goal

pub overflow_mul-result-2 : goal.overflow_mul-result-2
overflow_mul-result-2 c = omega (arith, start_le c.args.n c.args.w c.requires.1)

pub overflow_add-result : goal.overflow_add-result
overflow_add-result c = omega (arith, start_le c.args.n c.args.w c.requires.1)

pub returns : goal.returns
unfolding bucket_by
returns c = (
  rw (
    c.min-q.ensures,
    least_min,
    c.last_bucket.ensures,
    c.saturating_sub.ensures,
    c.shift_place.ensures,
    c.read_le64-base.ensures.0,
    c.base_place.ensures,
  )
      refl,
  omega (arith, start_le c.args.n c.args.w c.requires.1),
)
