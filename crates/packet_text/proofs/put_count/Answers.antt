-- `packet_text::put_count` meets its contract: BCM, the byte count and the lower address, one after the other. Assumes nothing.
use Rattle.std.proofs.Common.{◌∙◌}
use Rattle.text.specs.Text.{ascii}
use Rattle.packet_text.specs.Labels.{flag_bit, count_text}
use Rattle.text.specs.TextLaws.{put_append}
use Rattle.packet_text.proofs.put_count.Goals as goal

pub returns : goal.returns
unfolding ascii count_text
returns c = put_append (rw (c.from.ensures ∙ flag_bit c.args.o.bcm) at c.put_named-at.ensures)
    (put_append c.put_named-at-2.ensures c.put_named_hexadecimal.ensures)
