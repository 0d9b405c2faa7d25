-- `put_registers` meets its contract: one store, or two for a 64-bit BAR. Assumes nothing.
use mathlib.Core.Path.{sym, ◌∙◌}
use native.Mathlib.Omega.{arith}
use Rattle.plan_function.proofs.KeptLaws.{put_one, put_two}
use Rattle.plan_function.proofs.put_registers.Goals as goal

pub returns-then-takes_next : goal.returns-then-takes_next
returns-then-takes_next c = put_two _ _ c.args.x c.args.v (sym c.takes_next.ensures ∙ c.if-takes_next.true) (omega arith)

pub returns-else-takes_next : goal.returns-else-takes_next
returns-else-takes_next c = put_one _ _ c.args.x c.args.v (sym c.takes_next.ensures ∙ c.if-takes_next.false)
