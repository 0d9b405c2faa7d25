-- `capi::plan_refusal` meets its contract: the planner's number of an empty sheet. Assumes nothing.
use mathlib.Core.Path.{sym, ◌∙◌}
use Rattle.capi.proofs.plan_refusal.Goals as goal

pub returns-in-Planned : goal.returns-in-Planned
returns-in-Planned c = rw (sym c.plan.ensures.0 ∙ c.in-Planned.is)

pub returns-in-Refused : goal.returns-in-Refused
returns-in-Refused c = rw (sym c.plan.ensures.0 ∙ c.in-Refused.is)
