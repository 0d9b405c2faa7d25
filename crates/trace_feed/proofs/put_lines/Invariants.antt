-- `trace_feed::put_lines` meets its contract. The invariant: with the lines of the rest of the piece put from here on, the room holds
-- those of the whole piece; the measure is the bytes left. Assumes nothing.
use Prim.Native.Nat.{◌-◌}
use mathlib.Core.Path.{◌≡◌}
use lib.ListN.{length}
use Rattle.trace.specs.Trace.{tracing}
use Rattle.trace_engine.specs.Engine.{line_of}
use Rattle.trace_feed.specs.LoopLaws.{Putting}
use Rattle.trace_feed.proofs.put_lines.Given as goal

abbrev pub invariant-loop-i : goal.invariant-loop-i
invariant-loop-i l =
    (length l.head ≡ 16)
    × Putting (line_of l.engine l.bytes) l.piece l.initial.out (tracing l.initial.stage l.initial.n l.initial.kept l.initial.head) l.out (tracing l.stage l.n l.kept l.head) l.at l.i

abbrev pub decreases-loop-i : goal.decreases-loop-i
decreases-loop-i l = length l.piece - l.i
