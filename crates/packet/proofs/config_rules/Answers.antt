-- `packet::config_rules` meets its contract: rule 5 alone. Assumes nothing.
use mathlib.Core.Path.{sym, ap, ◌∙◌}
use mathlib.Core.Bool.{not}
use Rattle.packet.proofs.RulesLaws.{passed, stopped, rule_number_config}
use Rattle.packet.proofs.config_rules.Goals as goal

pub returns-then-not-one_dword : goal.returns-then-not-one_dword
returns-then-not-one_dword c = λ k t. sym (rule_number_config k _ _ t ∙ stopped _ (ap not c.one_dword.ensures) (ap not c.if-not-one_dword.true))

pub returns : goal.returns
returns c = λ k t. sym (rule_number_config k _ _ t ∙ passed 5 (ap not c.one_dword.ensures) (ap not c.if-not-one_dword.false))
