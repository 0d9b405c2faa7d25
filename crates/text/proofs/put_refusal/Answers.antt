-- `text::put_refusal` meets its contract: the word, the number, the end of the line. Assumes nothing.
use Rattle.text.specs.Text.{ascii, refusal_text}
use Rattle.text.specs.TextLaws.{put_append}
use Rattle.text.proofs.put_refusal.Goals as goal

pub returns : goal.returns
unfolding ascii refusal_text
returns c = rw (← c.from.ensures) (put_append c.put_named-next.ensures c.put_byte.ensures)
