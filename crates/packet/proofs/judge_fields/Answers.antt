-- `packet::judge_fields` meets its contract: 10, then the rules. Assumes nothing.
use Rattle.packet.specs.Verdict.{on_fields, on_rules}
use borrow.Author.Tests.{eq-eqb, ne_eqb}
use Rattle.packet.proofs.judge_fields.Goals as goal

pub returns-then-not-fields_fit : goal.returns-then-not-fields_fit
unfolding on_fields on_rules
returns-then-not-fields_fit c = rw (← c.fields_fit.ensures, c.if-not-fields_fit.true)

pub returns-then-n-eq0 : goal.returns-then-n-eq0
unfolding on_fields on_rules
returns-then-n-eq0 c = let fit = c.if-not-fields_fit.false in
    rw (← c.fields_fit.ensures, fit, ← c.rule_number-n.ensures, eq-eqb c.rule_number-n.result 0 c.if-n-eq0.true)

pub returns : goal.returns
unfolding on_fields on_rules
returns c = let fit = c.if-not-fields_fit.false in
    rw (← c.fields_fit.ensures, fit, ← c.rule_number-n.ensures, ne_eqb c.rule_number-n.result 0 c.if-n-eq0.false)
