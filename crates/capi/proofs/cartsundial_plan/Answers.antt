-- `capi::cartsundial_plan` meets its contract: with no room for the answer nothing is planned; else by what the planner answers.
-- Assumes nothing.
use mathlib.Core.Path.{refl}
use Rattle.capi_plan.specs.CallsLaws.{planned_nothing, planned}
use Rattle.capi.proofs.cartsundial_plan.Goals as goal

pub returns-then-written-eq0 : goal.returns-then-written-eq0
returns-then-written-eq0 c = let both = planned_nothing c.args.board.now c.args.sheet.now c.args.written.now c.plan_refusal.result c.plan_refusal.ensures
    c.if-written-eq0.true in
    record { value = both.0; sheet_after = both.1.0; written_after = both.1.1 }

pub returns-in-Planned : goal.returns-in-Planned
returns-in-Planned c = let both = planned c.args.board.now c.args.sheet.now c.args.written.now c.if-written-eq0.false c.plan.result c.plan.ensures.0 _
    c.plan.ensures.1 _ _ (rw c.in-Planned.is (c.give_one.ensures.value, c.give_one.ensures.out_after)) in
    record { value = both.0; sheet_after = both.1.0; written_after = both.1.1 }

pub returns-in-Refused : goal.returns-in-Refused
returns-in-Refused c = let both = planned c.args.board.now c.args.sheet.now c.args.written.now c.if-written-eq0.false c.plan.result c.plan.ensures.0 _
    c.plan.ensures.1 _ _
    (rw c.in-Refused.is (refl, refl)) in
    record { value = both.0; sheet_after = both.1.0; written_after = both.1.1 }
