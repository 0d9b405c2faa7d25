-- `trace_label::put_short` meets its contract: the name stands at the front of its word. Assumes nothing.
use Rattle.trace_label.specs.WordLaws.{word_stored}
use Rattle.trace_label.proofs.put_short.Goals as goal

pub returns : goal.returns
returns c = rw (← word_stored _ _ c.write_be64.ensures, ← c.front.ensures) c.put_text.ensures
