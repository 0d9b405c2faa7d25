-- `sheet_bytes::put_body` meets its contract. By the header type: what is written is what `planned_of` has of such a function. Assumes
-- nothing.
use mathlib.Core.Path.{sym, ◌∙◌}
use Rattle.sheet_bytes.proofs.LayoutLaws.{body_of_bridge, body_of_end}
use Rattle.sheet_bytes.proofs.put_body.Goals as goal

pub returns-then-is_bridge : goal.returns-then-is_bridge
returns-then-is_bridge c = rw (← body_of_bridge c.args.r (sym c.is_bridge.ensures ∙ c.if-is_bridge.true)) c.put_bridge.ensures

pub returns : goal.returns
returns c = rw (← body_of_end c.args.r (sym c.is_bridge.ensures ∙ c.if-is_bridge.false)) c.put_end.ensures
