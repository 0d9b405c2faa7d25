-- `packet_text::put_head` meets its contract: five texts, one after the other. Assumes nothing.
use Rattle.text.specs.Text.{ascii}
use Rattle.packet_text.specs.Labels.{head_text}
use Rattle.text.specs.TextLaws.{put_append}
use Rattle.packet_text.proofs.put_head.Goals as goal

pub returns : goal.returns
unfolding ascii head_text
returns c = put_append c.put_named-at.ensures
    (put_append c.put_named-at-2.ensures
    (put_append c.put_named-at-3.ensures
    (put_append c.put_marks-at.ensures c.put_transaction.ensures)))
