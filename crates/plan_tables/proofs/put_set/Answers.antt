-- `plan_tables::put_set` meets its contract. Assumes nothing.
use mathlib.Core.Path.{ap}
use Prim.Native.Nat.{ℕ}
use native.Mathlib.Nat.{add-zero}
use native.Mathlib.Omega.{arith}
use lib.Seq.{sets}
use Rattle.board_record.specs.Function.{function_of_part}
use Rattle.board_record.specs.FunctionLaws.{length_readbacks}
use Rattle.plan_tables.specs.TablesLaws.{run_turn, run_end}
use Rattle.plan_tables.proofs.put_set.Goals as goal

pub loop-j-init : goal.loop-j-init
loop-j-init c = ap (λ (k : ℕ). sets c.args.readbacks.now k (function_of_part c.args.part.now).readbacks) (add-zero c.args.at)

pub loop-j-preserved : goal.loop-j-preserved
loop-j-preserved c =
    run_turn c.loop-j.readbacks (function_of_part c.args.part.now).readbacks c.args.at c.loop-j.j c.loop-j.invariant c.readback_at.ensures
    (omega (arith, length_readbacks c.args.part.now))

pub returns : goal.returns
returns c =
    run_end c.loop-j.readbacks (function_of_part c.args.part.now).readbacks c.args.at c.loop-j.j c.loop-j.invariant
    (omega (arith, length_readbacks c.args.part.now))
