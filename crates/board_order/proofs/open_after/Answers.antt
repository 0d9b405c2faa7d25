-- `board_order::open_after` meets its contract: a bridge opens one level more. Assumes nothing.
use mathlib.Core.Path.{sym, ◌∙◌}
use Rattle.board_order.proofs.open_after.Goals as goal

pub returns-then-is_bridge : goal.returns-then-is_bridge
returns-then-is_bridge c = rw (sym c.is_bridge.ensures ∙ c.if-is_bridge.true)

pub returns-else-is_bridge : goal.returns-else-is_bridge
returns-else-is_bridge c = rw (sym c.is_bridge.ensures ∙ c.if-is_bridge.false)
