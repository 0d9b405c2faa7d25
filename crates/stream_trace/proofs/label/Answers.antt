-- `stream_trace::label` meets its contract: a piece that was taken moves the state by all of it. Assumes nothing.
use Rattle.stream_trace.specs.PartsLaws.{taken_of_zero}
use Rattle.stream_trace.proofs.label.Goals as goal

pub returns-then-fed-eq0 : goal.returns-then-fed-eq0
returns-then-fed-eq0 c = taken_of_zero _ _ _ _ _ c.feed_by-fed.ensures.0 c.if-fed-eq0.true
