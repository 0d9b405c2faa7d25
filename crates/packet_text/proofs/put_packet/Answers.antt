-- `packet_text::put_packet` meets its contract: its kind, its head and its body, one after the other. Assumes nothing.
use Rattle.packet_text.specs.Labels.{packet_text}
use Rattle.text.specs.TextLaws.{put_append}
use Rattle.packet_text.proofs.put_packet.Goals as goal

pub returns : goal.returns
unfolding packet_text
returns c = put_append (rw c.kind_of.ensures at c.put_kind-at.ensures)
    (put_append (rw c.head_of.ensures at c.put_head-at.ensures) c.put_body.ensures)
