-- `packet_text::put_transaction` meets its contract: the Length, the requester and the tag, one after the other. Assumes nothing.
use Rattle.text.specs.Text.{ascii}
use Rattle.packet_text.specs.Labels.{transaction_text}
use Rattle.text.specs.TextLaws.{put_append}
use Rattle.packet_text.proofs.put_transaction.Goals as goal

pub returns : goal.returns
unfolding ascii transaction_text
returns c = put_append c.put_named-at.ensures
    (put_append c.put_named_hexadecimal-at.ensures c.put_named_hexadecimal.ensures)
