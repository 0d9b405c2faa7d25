-- `plan_tables::weight` meets its contract. Assumes nothing.
use mathlib.Core.Path.{sym, ◌∙◌}
use native.Mathlib.Omega.{arith}
use Rattle.plan_tables.proofs.weight.Goals as goal

pub returns-then-is_bridge : goal.returns-then-is_bridge
returns-then-is_bridge c = (rw (sym c.is_bridge.ensures ∙ c.if-is_bridge.true) (omega arith), omega arith)

pub returns-else-is_bridge : goal.returns-else-is_bridge
returns-else-is_bridge c = (rw (sym c.is_bridge.ensures ∙ c.if-is_bridge.false), omega arith)
