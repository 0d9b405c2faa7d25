-- `planner::refusal` meets its contract. Assumes nothing.
use borrow.Author.Tests.{lt-ltb, le-ltb}
use mathlib.Core.Path.{sym, ◌∙◌}
use Rattle.planner.specs.Measure.{refusal_by}
use Rattle.planner.proofs.refusal.Goals as goal

pub returns-then-host-m : goal.returns-then-host-m
unfolding refusal_by
returns-then-host-m c = rw (lt-ltb _ _ c.if-host-m.true)

pub returns-then-runs_out : goal.returns-then-runs_out
unfolding refusal_by
returns-then-runs_out c = rw (le-ltb _ _ c.if-host-m.false, sym c.runs_out.ensures ∙ c.if-runs_out.true)

pub returns-then-runs_out-2 : goal.returns-then-runs_out-2
unfolding refusal_by
returns-then-runs_out-2 c = rw (
  le-ltb _ _ c.if-host-m.false,
  sym c.runs_out.ensures
      ∙ c.if-runs_out.false,
  sym c.runs_out-2.ensures ∙ c.if-runs_out-2.true,
)

pub returns-then-runs_out-3 : goal.returns-then-runs_out-3
unfolding refusal_by
returns-then-runs_out-3 c = rw (
  le-ltb _ _ c.if-host-m.false,
  sym c.runs_out.ensures ∙ c.if-runs_out.false,
  sym c.runs_out-2.ensures
      ∙ c.if-runs_out-2.false,
  sym c.runs_out-3.ensures ∙ c.if-runs_out-3.true,
)

pub returns : goal.returns
unfolding refusal_by
returns c = rw (
  le-ltb _ _ c.if-host-m.false,
  sym c.runs_out.ensures ∙ c.if-runs_out.false,
  sym c.runs_out-2.ensures
      ∙ c.if-runs_out-2.false,
  sym c.runs_out-3.ensures ∙ c.if-runs_out-3.false,
)
