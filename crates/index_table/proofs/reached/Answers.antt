-- `index_table::reached` meets its contract: the law is `bit_leb`. Assumes nothing.
use Rattle.std.proofs.Common.{arith}
use Rattle.index_table.specs.SearchLaws.{bit_leb}
use Rattle.index_table.proofs.reached.Goals as goal

pub returns : goal.returns
returns c = (
  bit_leb c.wrapping_sub_u64.result c.args.key c.args.a c.wrapping_sub_u64.ensures.value (omega arith)
      (omega arith) (omega arith),
  omega arith,
)
