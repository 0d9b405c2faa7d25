-- `packet::io_rules` meets its contract: rules 4 and 5 in their order. Assumes nothing.
use borrow.Author.Tests.{ne_eqb}
use borrow.Author.Tests.{eq-eqb}
use mathlib.Core.Path.{refl, sym, ap, ◌∙◌}
use mathlib.Core.Bool.{not}
use Rattle.packet.proofs.RulesLaws.{passed, stopped, rule_number_io}
use Rattle.packet.proofs.io_rules.Goals as goal

pub returns-then-not-a : goal.returns-then-not-a
returns-then-not-a c = λ k. sym (rule_number_io k _ _ _ ∙ stopped _ refl (ap not (ne_eqb _ _ c.if-not-a.true)))

pub returns-then-not-one_dword : goal.returns-then-not-one_dword
returns-then-not-one_dword c = λ k.
    let five = ap not c.one_dword.ensures in
    sym (rule_number_io k _ _ _ ∙ passed 4 refl (ap not (eq-eqb _ _ c.if-not-a.false)) ∙ stopped _ five (ap not c.if-not-one_dword.true))

pub returns : goal.returns
returns c = λ k.
    let five = ap not c.one_dword.ensures in
    sym (rule_number_io k _ _ _ ∙ passed 4 refl (ap not (eq-eqb _ _ c.if-not-a.false)) ∙ passed 5 five (ap not c.if-not-one_dword.false))
