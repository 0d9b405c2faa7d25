-- `stream_trace::label_parts` meets its contract: no part is refused. The invariant: from the state so far, the rest of the piece comes to
-- what the whole piece comes to. Assumes nothing.
use Rattle.std.proofs.Common.{◌≡◌, ◌/◌, length}
use Rattle.std.specs.Slice.Iter.{chunks_rest, chunks_size}
use Rattle.trace.specs.Trace.{state_of}
use Rattle.trace.proofs.FeedLaws.{Sound}
use Rattle.trace_engine.specs.Engine.{longest_of}
use Rattle.stream_trace.proofs.label_parts.Given as goal

abbrev pub invariant-loop-part : goal.invariant-loop-part
invariant-loop-part l = record {
  size : chunks_size l.part-iterator ≡ length l.initial.lines / longest_of l.engine;
  sound : Sound l.t.number;
  state : state_of l.t (chunks_rest l.part-iterator) ≡ state_of l.initial.t l.piece;
}
