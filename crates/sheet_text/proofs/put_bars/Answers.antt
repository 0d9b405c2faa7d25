-- `sheet_text::put_bars` meets its contract: the name, then the values. Assumes nothing.
use Rattle.text.specs.TextLaws.{put_append}
use Rattle.sheet_text.proofs.put_bars.Goals as goal

pub returns : goal.returns
returns c = put_append c.put_text-next.ensures c.put_words.ensures
