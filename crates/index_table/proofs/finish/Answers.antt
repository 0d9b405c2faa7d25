-- `index_table::finish` meets its contract: one part after the other. Assumes nothing.
use Rattle.std.proofs.Common.{arith}
use Rattle.index_table.specs.Table.{finished}
use Rattle.index_table.proofs.finish.Goals as goal

pub put_segments-requires : goal.put_segments-requires
put_segments-requires c = (omega arith, omega arith)

pub fill_table-width-requires : goal.fill_table-width-requires
fill_table-width-requires c = (omega arith, omega arith)

pub put_head-requires : goal.put_head-requires
put_head-requires c = omega arith

pub shape_of-index : goal.shape_of-index
shape_of-index c = omega (arith, c.put_head.auto.index, c.fill_table-width.auto.index, c.put_segments.auto.index)

pub returns : goal.returns
unfolding finished
returns c = rw (← c.put_segments.ensures, ← c.fill_table-width.ensures.0, ← c.fill_table-width.ensures.1) c.put_head.ensures
