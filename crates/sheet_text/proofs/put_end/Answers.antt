-- `sheet_text::put_end` meets its contract: six values, the end of the line. Assumes nothing.
use Rattle.text.specs.TextLaws.{put_append}
use Rattle.text.specs.Text.{ascii}
use Rattle.sheet_text.proofs.ListingLaws.{end_text_of_end}
use Rattle.sheet_text.proofs.put_end.Goals as goal

pub returns : goal.returns
unfolding ascii
returns c = rw (end_text_of_end _ c.requires.part_value _ c.values_of-values.ensures) (put_append c.put_bars-next.ensures c.put_byte.ensures)
