-- `plan_tables::head_of` meets its contract. Assumes nothing.
use native.Mathlib.Omega.{arith}
use Rattle.board_record.specs.Function.{function_of_part}
use Rattle.plan_tables.specs.TablesLaws.{head_is}
use Rattle.plan_tables.proofs.head_of.Goals as goal

pub returns : goal.returns
unfolding function_of_part
returns c = head_is c.args.part.now _ _ c.header_of.ensures c.spares_of.ensures.0 (omega arith)
