-- `trace_line::put_line` meets its contract. Assumes nothing.
use Rattle.text.specs.Text.{ascii}
use Rattle.text.specs.TextLaws.{put_append}
use Rattle.trace_line.specs.Line.{line_with}
use Rattle.trace_label.specs.WordLaws.{label_put}
use Rattle.trace_line.proofs.put_line.Goals as goal

pub returns : goal.returns
unfolding line_with ascii
returns c = put_append c.put_decimal-at.ensures
    (put_append (label_put c.label_of-label.result c.label_of-label.ensures c.put_name-at.ensures c.put_way-at.ensures)
    c.put_text.ensures)
