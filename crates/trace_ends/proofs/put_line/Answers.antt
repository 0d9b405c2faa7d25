use Rattle.trace_ends.specs.Ends.{line_ends}
use Rattle.text.specs.TextLaws.{put_append}
use Rattle.text.specs.Text.{ascii}
use Rattle.trace_ends.proofs.put_line.Goals as goal

pub returns : goal.returns
unfolding line_ends ascii
returns c = put_append c.put_decimal-at.ensures (put_append c.put_label-at.ensures c.put_text.ensures)
