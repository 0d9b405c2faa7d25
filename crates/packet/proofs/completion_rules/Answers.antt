-- `packet::completion_rules` meets its contract: rules 4, 5 and 9 in their order. Assumes nothing.
use borrow.Author.Tests.{ne_eqb}
use borrow.Author.Tests.{eq-eqb}
use Rattle.packet.specs.declared.Head.{Head}
use mathlib.Core.Path.{◌≡◌, refl, sym, ap, ◌∙◌}
use mathlib.Core.Bool.{Bool, not, ◌&&◌}
use lib.Dec.{eqb}
use Rattle.packet.proofs.RulesLaws.{passed, stopped, rule_number_completion}
use Rattle.packet.proofs.completion_rules.Goals as goal

-- the test of rule 5, with the definition in place of the call's answer
no_length : {a b : Bool} (h : Head) → a ≡ b → a && not (eqb h.length 0) ≡ b && not (eqb h.length 0)
no_length h e = ap (λ (a : Bool). a && not (eqb h.length 0)) e

pub returns-then-not-h : goal.returns-then-not-h
returns-then-not-h c = sym (rule_number_completion _ _ _ ∙ stopped _ refl (ap not (ne_eqb _ _ c.if-not-h.true)))

pub returns-then-has_no_length-h : goal.returns-then-has_no_length-h
returns-then-has_no_length-h c = let five = no_length c.args.h c.has_no_length.ensures in
    sym (rule_number_completion _ _ _ ∙ passed 4 refl (ap not (eq-eqb _ _ c.if-not-h.false)) ∙ stopped _ five c.if-has_no_length-h.true)

pub returns-then-not-is_status : goal.returns-then-not-is_status
returns-then-not-is_status c = let five = no_length c.args.h c.has_no_length.ensures in
    sym (rule_number_completion _ _ _ ∙ passed 4 refl (ap not (eq-eqb _ _ c.if-not-h.false)) ∙ passed 5 five c.if-has_no_length-h.false
    ∙ stopped _ (ap not c.is_status.ensures) (ap not c.if-not-is_status.true))

pub returns : goal.returns
returns c = let five = no_length c.args.h c.has_no_length.ensures in
    sym (rule_number_completion _ _ _ ∙ passed 4 refl (ap not (eq-eqb _ _ c.if-not-h.false)) ∙ passed 5 five c.if-has_no_length-h.false
    ∙ passed 9 (ap not c.is_status.ensures) (ap not c.if-not-is_status.false))
