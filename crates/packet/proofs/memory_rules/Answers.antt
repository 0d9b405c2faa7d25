-- `packet::memory_rules` meets its contract: rules 4, 6, 7 and 8 in their order. Assumes nothing.
use mathlib.Core.Path.{◌∙◌}
use Rattle.packet.proofs.RulesLaws.{one_broken, none_broken}
use Rattle.packet.proofs.memory_rules.Goals as goal

pub returns-then-reserved-upper : goal.returns-then-reserved-upper
returns-then-reserved-upper c = λ k.
    c.first_broken.ensures
    ∙ one_broken k c.args.h c.args.e c.args.a c.enables_lawful-enables.ensures c.wide.ensures.0 c.if-reserved-upper.true

pub returns : goal.returns
returns c = λ k. none_broken k c.args.h c.args.e c.args.a c.enables_lawful-enables.ensures c.wide.ensures.0 c.if-reserved-upper.false
