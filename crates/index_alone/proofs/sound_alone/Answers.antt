-- `index_alone::sound_alone`: the sheet's own number, or by the host record made for it. Assumes nothing.
use mathlib.Core.Path.{sym, ◌∙◌}
use Rattle.sheet.proofs.SheetLaws.{checked_of_zero}
use Rattle.index_alone.proofs.AloneLaws.{refused_number, checked_number}
use Rattle.index_alone.proofs.sound_alone.Goals as goal

pub returns-then-n-ne0 : goal.returns-then-n-ne0
returns-then-n-ne0 c = c.check-n.ensures ∙ sym (refused_number c.args.sheet.now c.args.sheet.now (λ z. c.if-n-ne0.true (c.check-n.ensures ∙ z)))

pub root_of-requires : goal.root_of-requires
root_of-requires c = checked_of_zero _ (sym c.check-n.ensures ∙ c.if-n-ne0.false)

pub returns : goal.returns
returns c = checked_number c.args.sheet.now c.args.sheet.now (sym c.check-n.ensures ∙ c.if-n-ne0.false) _ c.root_of.ensures _ c.any_host-host.ensures _
    c.sound.ensures
