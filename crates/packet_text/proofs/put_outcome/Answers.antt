-- `packet_text::put_outcome` meets its contract: the completer, the status and the count, one after the other. Assumes nothing.
use Rattle.text.specs.Text.{ascii}
use Rattle.packet_text.specs.Labels.{outcome_text}
use Rattle.text.specs.TextLaws.{put_append}
use Rattle.packet_text.proofs.put_outcome.Goals as goal

pub returns : goal.returns
unfolding ascii outcome_text
returns c = put_append c.put_named_hexadecimal-at.ensures (put_append c.put_named-at.ensures c.put_count.ensures)
