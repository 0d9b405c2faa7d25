-- `trace_feed::measured` meets its contract. The invariant: what was measured and the lines of the rest of the piece are as long as those
-- of the whole piece. Assumes nothing.
use mathlib.Core.Path.{◌≡◌}
use lib.ListN.{length}
use Rattle.trace.specs.Trace.{tracing}
use Rattle.trace_engine.specs.Engine.{line_of}
use Rattle.trace_feed.specs.LoopLaws.{Measuring}
use Rattle.trace_feed.proofs.measured.Given as goal

abbrev pub invariant-loop-byte : goal.invariant-loop-byte
invariant-loop-byte l =
    (length l.head ≡ 16)
    × Measuring (line_of l.engine l.bytes) l.piece l.room (tracing l.initial.stage l.initial.n l.initial.kept l.initial.head) (tracing l.stage l.n l.kept l.head) l.total l.byte-index
