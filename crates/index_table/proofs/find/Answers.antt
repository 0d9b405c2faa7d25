-- `index_table::find` meets its contract: the definition itself. Assumes nothing.
use Rattle.std.proofs.Common.{arith}
use Rattle.index_table.specs.Search.{found_at}
use Rattle.index_table.specs.SegmentLaws.{least_min}
use Rattle.index_table.proofs.find.Goals as goal

pub returns : goal.returns
unfolding found_at
returns c = (
  rw (c.min-3.ensures, c.last_in.ensures, c.min.ensures, c.min-2.ensures)
      (simp least_min (rw (c.read_le16-width.ensures.0, c.read_le16-from.ensures.0, c.bucket_place.ensures, c.bucket_of-q.ensures.0))),
  omega arith,
)
