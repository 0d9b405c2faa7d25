-- `packet_text::put_marks` meets its contract: TD, EP and AT, one after the other. Assumes nothing.
use Rattle.std.proofs.Common.{◌∙◌}
use Rattle.text.specs.Text.{ascii}
use Rattle.packet_text.specs.Labels.{flag_bit, marks_text}
use Rattle.text.specs.TextLaws.{put_append}
use Rattle.packet_text.proofs.put_marks.Goals as goal

pub returns : goal.returns
unfolding ascii marks_text
returns c = put_append (rw (c.from.ensures ∙ flag_bit c.args.h.td) at c.put_named-at.ensures)
    (put_append (rw (c.from-2.ensures ∙ flag_bit c.args.h.ep) at c.put_named-at-2.ensures) c.put_named.ensures)
