-- `trace::line_at` meets its contract. Assumes nothing.
use Rattle.std.proofs.Common.{eq-eqb, ne_eqb}
use Rattle.trace.specs.Trace.{line_at}
use Rattle.trace.proofs.line_at.Goals as goal

pub returns-then-left-eq0 : goal.returns-then-left-eq0
unfolding line_at
returns-then-left-eq0 c = rw (eq-eqb _ _ c.if-left-eq0.true)

pub returns : goal.returns
unfolding line_at
returns c = rw (ne_eqb _ _ c.if-left-eq0.false)
