use Rattle.text.specs.TextLaws.{put_append}
use Rattle.text.specs.Text.{ascii}
use Rattle.trace_ends.proofs.put_kind.Goals as goal

pub returns : goal.returns
unfolding ascii
returns c = rw (← c.kind_of.ensures) (put_append c.put_text-next.ensures c.put_kind.ensures)
