-- `index_alone::build_alone`: the sheet's own number, or by the host record made for it. Assumes nothing.
use mathlib.Core.Path.{sym, ◌∙◌}
use Rattle.sheet.proofs.SheetLaws.{checked_of_zero}
use Rattle.index_alone.proofs.AloneLaws.{refused_build, checked_build}
use Rattle.index_alone.proofs.build_alone.Goals as goal

pub returns-then-n-ne0 : goal.returns-then-n-ne0
returns-then-n-ne0 c = let kept = refused_build c.args.sheet.now c.args.index.now (λ z. c.if-n-ne0.true (c.check-n.ensures ∙ z)) in
    record { number = c.check-n.ensures ∙ sym kept.0; content = sym kept.1 }

pub root_of-requires : goal.root_of-requires
root_of-requires c = checked_of_zero _ (sym c.check-n.ensures ∙ c.if-n-ne0.false)

pub returns : goal.returns
returns c = let both = checked_build c.args.sheet.now c.args.index.now (sym c.check-n.ensures ∙ c.if-n-ne0.false) _
    c.root_of.ensures _ c.any_host-host.ensures _ _ (c.build_sound.ensures.number, c.build_sound.ensures.content) in
    record { number = both.0; content = both.1 }
