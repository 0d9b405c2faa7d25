-- `trace::count_lines` meets its contract. The invariant: from what was counted, the rest of the piece comes to what the whole piece
-- comes to. Assumes nothing.
use Rattle.std.proofs.Common.{◌≡◌, ◌-◌, ◌≤◌, length, drop}
use Rattle.records.specs.Frame.{heard_of}
use Rattle.trace.specs.Trace.{count_by}
use Rattle.trace.proofs.count_lines.Given as goal

abbrev pub invariant-loop-i : goal.invariant-loop-i
invariant-loop-i l =
    (l.i ≤ length l.piece) × (l.count ≤ l.i) × (heard_of count_by l.stage l.count (drop l.i l.piece) ≡ heard_of count_by l.initial.stage l.initial.count l.piece)

abbrev pub decreases-loop-i : goal.decreases-loop-i
decreases-loop-i l = length l.piece - l.i
