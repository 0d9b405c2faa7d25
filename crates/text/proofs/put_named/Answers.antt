-- `text::put_named` meets its contract: the name, then the decimal digits. Assumes nothing.
use Rattle.text.specs.TextLaws.{put_append}
use Rattle.text.proofs.put_named.Goals as goal

pub returns : goal.returns
returns c = put_append c.put_text-next.ensures c.put_decimal.ensures
