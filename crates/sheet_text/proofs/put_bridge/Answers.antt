-- `sheet_text::put_bridge` meets its contract: two of the values that were read, the buses, the windows, the end of the line. Assumes
-- nothing.
use Rattle.text.specs.TextLaws.{put_append}
use Rattle.text.specs.Text.{ascii}
use Rattle.sheet_text.proofs.ListingLaws.{bridge_text_of_bridge}
use Rattle.sheet_text.proofs.put_bridge.Goals as goal

pub returns : goal.returns
unfolding ascii
returns c = rw (bridge_text_of_bridge _ c.requires.part_value _ c.values_of-values.ensures)
    (put_append (put_append (put_append c.put_bars-next.ensures c.put_buses-next.ensures) c.put_windows-next.ensures)
    c.put_byte.ensures)
