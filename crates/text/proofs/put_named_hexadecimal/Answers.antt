-- `text::put_named_hexadecimal` meets its contract: the name, then the hexadecimal digits. Assumes nothing.
use Rattle.text.specs.TextLaws.{put_append}
use Rattle.text.proofs.put_named_hexadecimal.Goals as goal

pub returns : goal.returns
returns c = put_append c.put_text-next.ensures c.put_hexadecimal.ensures
