-- `packet_text::put_content` meets its contract: the routing's number, the code and the tail, one after the other. Assumes nothing.
use Rattle.text.specs.Text.{ascii}
use Rattle.packet_text.specs.Labels.{content_text}
use Rattle.text.specs.TextLaws.{put_append}
use Rattle.packet_text.proofs.put_content.Goals as goal

pub returns : goal.returns
unfolding ascii content_text
returns c = put_append (rw c.routing_number.ensures.0 at c.put_named-at.ensures)
    (put_append c.put_named_hexadecimal-at.ensures c.put_named_hexadecimal.ensures)
