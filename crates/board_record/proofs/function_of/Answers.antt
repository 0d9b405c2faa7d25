-- `board_record::function_of` meets its contract: a record that passed check 24 has 14 bytes at least. Assumes nothing.
use native.Mathlib.Omega.{arith}
use Rattle.board_record.specs.FunctionLaws.{le_length}
use Rattle.board_record.specs.Function.{function_of_part}
use Rattle.board_record.proofs.function_of.Goals as goal

pub read_be16-requires : goal.read_be16-requires
read_be16-requires c = omega (arith, le_length _ c.requires)

pub bounds-part-2 : goal.bounds-part-2
bounds-part-2 c = omega (arith, le_length _ c.requires)

pub bounds-part-3 : goal.bounds-part-3
bounds-part-3 c = omega (arith, le_length _ c.requires)

pub read_be16-requires-2 : goal.read_be16-requires-2
read_be16-requires-2 c = omega (arith, le_length _ c.requires)

pub returns : goal.returns
unfolding function_of_part
returns c = cc
