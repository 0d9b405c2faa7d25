-- `audit_spans::is_free`: the loop over the spans. Invariant: those before i are not met. Assumes nothing.
use mathlib.Core.Bool.{true}
use Rattle.audit_rising.specs.Rising.{spot}
use Rattle.audit_spans.specs.Spans.{Free}
use Rattle.audit_spans.proofs.is_free.Given as goal

abbrev pub invariant-loop-i : goal.invariant-loop-i
invariant-loop-i l = Free l.spans l.i (spot l.key l.first l.last true)
