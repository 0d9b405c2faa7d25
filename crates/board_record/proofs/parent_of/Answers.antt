-- `board_record::parent_of` meets its contract. Assumes nothing.
use native.Mathlib.Omega.{arith}
use Rattle.board_record.specs.Function.{function_of_part}
use Rattle.board_record.specs.FunctionLaws.{le_length}
use Rattle.board_record.proofs.parent_of.Goals as goal

pub read_be16-requires : goal.read_be16-requires
read_be16-requires c = omega (arith, le_length _ c.requires)

pub returns : goal.returns
unfolding function_of_part
returns c = c.read_be16.ensures.0
