-- `board_record::devfn_of` meets its contract. Assumes nothing.
use native.Mathlib.Omega.{arith}
use mathlib.Core.Path.{refl}
use Rattle.board_record.specs.Function.{function_of_part}
use Rattle.board_record.specs.FunctionLaws.{le_length}
use Rattle.board_record.proofs.devfn_of.Goals as goal

pub bounds-part-2 : goal.bounds-part-2
bounds-part-2 c = omega (arith, le_length _ c.requires)

pub returns : goal.returns
unfolding function_of_part
returns c = refl
