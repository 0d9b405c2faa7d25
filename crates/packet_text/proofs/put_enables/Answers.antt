-- `packet_text::put_enables` meets its contract: the last byte enables, then the first. Assumes nothing.
use Rattle.text.specs.Text.{ascii}
use Rattle.packet_text.specs.Labels.{enables_text}
use Rattle.text.specs.TextLaws.{put_append}
use Rattle.packet_text.proofs.put_enables.Goals as goal

pub returns : goal.returns
unfolding ascii enables_text
returns c = put_append c.put_named_hexadecimal-at.ensures c.put_named_hexadecimal.ensures
