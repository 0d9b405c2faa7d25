-- `tlp_judge::is_lawful_message` meets its contract: its length, its bits without a name, its rules. Assumes nothing.
use mathlib.Core.Path.{sym, ◌∙◌}
use borrow.Author.Tests.{eqb-true}
use Rattle.tlp_judge.specs.JudgeLaws.{not_passes, message_passes}
use Rattle.tlp_judge.proofs.is_lawful_message.Goals as goal

pub returns-then-s-lt16 : goal.returns-then-s-lt16
returns-then-s-lt16 c = not_passes _

pub returns-then-unnamed : goal.returns-then-unnamed
returns-then-unnamed c = not_passes _

pub returns : goal.returns
returns c = λ z.
    message_passes c.args.s.now c.if-s-lt16.false c.requires.1 _ c.message_kind-k.ensures _
    c.message_head_at-h.ensures _ c.message_routing.ensures _ c.address_at-tail.ensures
    (sym c.unnamed.ensures ∙ c.if-unnamed.false)
    (λ code. sym (c.message_rules.ensures code) ∙ eqb-true _ 0 z)
