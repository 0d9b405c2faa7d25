-- `sheet_text::put_windows` meets its contract: of a bridge, the entry's windows are the registers that were read. Assumes nothing.
use Rattle.text.specs.TextLaws.{put_append}
use Rattle.sheet_text.proofs.ListingLaws.{window_text_of_bridge}
use Rattle.sheet_text.proofs.put_windows.Goals as goal

pub returns : goal.returns
returns c = rw (window_text_of_bridge _ c.requires.part_value _ _ _ c.window_of-io.ensures c.window_of-low.ensures c.window_of-high.ensures)
    (put_append (put_append (put_append c.put_pair-next.ensures c.put_pair-next-2.ensures) c.put_pair-next-3.ensures)
    c.put_pair.ensures)
