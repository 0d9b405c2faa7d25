-- `sheet_text::put_count` meets its contract: the word, the count, the end of the line. Assumes nothing.
use Rattle.text.specs.TextLaws.{put_append}
use Rattle.text.specs.Text.{ascii}
use Rattle.sheet_text.specs.Listing.{count_text}
use Rattle.sheet_text.proofs.put_count.Goals as goal

pub returns : goal.returns
unfolding ascii count_text
returns c = put_append c.put_named-next.ensures c.put_byte.ensures
