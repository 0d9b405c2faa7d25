-- `sheet_text::put_word` meets its contract: a space, then the digits. Assumes nothing.
use Rattle.text.specs.TextLaws.{put_append}
use Rattle.sheet_text.proofs.put_word.Goals as goal

pub returns : goal.returns
returns c = put_append c.put_byte-next.ensures c.put_hexadecimal.ensures
