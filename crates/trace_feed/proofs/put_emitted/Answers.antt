-- `trace_feed::put_emitted` meets its contract. Assumes nothing.
use Rattle.text.specs.Text.{ascii}
use Rattle.trace_feed.proofs.put_emitted.Goals as goal

pub put_line-requires : goal.put_line-requires
put_line-requires c = c.requires

pub returns-in-Nothing : goal.returns-in-Nothing
returns-in-Nothing c = rw c.in-Nothing.is c.place.ensures

pub returns-in-Refusal : goal.returns-in-Refusal
unfolding ascii
returns-in-Refusal c = rw c.in-Refusal.is c.put_text.ensures

pub returns-in-Line : goal.returns-in-Line
returns-in-Line c = rw c.in-Line.is c.put_line.ensures
