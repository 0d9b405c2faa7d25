-- `sheet_text::put_record` meets its contract: the ID, then what the header type says that the function is. Assumes nothing.
use mathlib.Core.Path.{sym, ◌∙◌}
use Rattle.text.specs.TextLaws.{put_append}
use Rattle.sheet_text.proofs.ListingLaws.{line_of_bridge, line_of_end}
use Rattle.sheet_text.proofs.put_record.Goals as goal

pub returns-then-is_bridge : goal.returns-then-is_bridge
returns-then-is_bridge c = rw (line_of_bridge _ (sym c.is_bridge.ensures ∙ c.if-is_bridge.true) _ c.id_of.ensures)
    (put_append c.put_hexadecimal-next.ensures c.put_bridge.ensures)

pub returns : goal.returns
returns c = rw (line_of_end _ (sym c.is_bridge.ensures ∙ c.if-is_bridge.false) _ c.id_of.ensures)
    (put_append c.put_hexadecimal-next.ensures c.put_end.ensures)
