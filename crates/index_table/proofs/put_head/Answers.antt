-- `index_table::put_head` meets its contract: three stores. Assumes nothing.
use Rattle.std.proofs.Common.{arith, length-set}
use Rattle.index_table.specs.Table.{headed}
use Rattle.index_table.proofs.put_head.Goals as goal

pub write_le16-requires-2 : goal.write_le16-requires-2
write_le16-requires-2 c = simp length-set (omega arith)

pub shape_of-index : goal.shape_of-index
shape_of-index c = omega (arith, c.write_le16-2.auto.out, c.write_le16.auto.out, length-set c.write_le16.new.out 2 c.args.root)

pub returns : goal.returns
unfolding headed
returns c = rw (← c.write_le16.ensures) c.write_le16-2.ensures
