-- `planner::plan` meets its contract. Assumes nothing.
use mathlib.Core.Path.{refl, sym, ap, ◌∙◌}
use Rattle.plan_answer.specs.declared.Planning.TheVariants.{Refused}
use Rattle.planner.specs.PlanLaws.{planning_unlawful, planning_lawful, sheet_after_is}
use Rattle.planner.proofs.plan.Goals as goal

pub returns-then-n-ne0 : goal.returns-then-n-ne0
returns-then-n-ne0 c = let e = ap Refused c.check-n.ensures
    ∙ sym (planning_unlawful c.args.board.now _
    (λ z. c.if-n-ne0.true (c.check-n.ensures ∙ z))) in (e, sheet_after_is _ _ e refl)

pub returns : goal.returns
returns c = let e = c.plan_lawful.ensures.0 ∙ sym (planning_lawful c.args.board.now _ (sym c.check-n.ensures ∙ c.if-n-ne0.false)) in
    (e, sheet_after_is _ _ e c.plan_lawful.ensures.1)
