-- `route_sender::named_in`: by the tally of the ID's own bus. Assumes nothing.
use mathlib.Core.Path.{refl, ap, ◌∙◌}
use mathlib.Core.Logic.{inl, inr}
use Rattle.sheet.proofs.SheetLaws.{checked_of_zero}
use Rattle.route_sender.specs.SenderLaws.{named_as}
use Rattle.claims.specs.declared.Tally.TheVariants.{Nothing, One, Several}
use Rattle.route_sender.proofs.named_in.Goals as goal

pub tally_on-requires : goal.tally_on-requires
tally_on-requires c = checked_of_zero _ c.requires

pub returns-in-Nothing : goal.returns-in-Nothing
returns-in-Nothing c =
    elim c.in-Nothing.is [
      | inl e ↦ named_as _ c.args.id _ refl c.tally_on.result c.tally_on.ensures Nothing e
      | inr e ↦ named_as _ c.args.id _ refl c.tally_on.result c.tally_on.ensures Several e
    ]

pub returns-in-Bar : goal.returns-in-Bar
returns-in-Bar c = named_as _ c.args.id _ refl c.tally_on.result c.tally_on.ensures _ (c.in-One.is ∙ ap One c.in-Bar.is)

pub returns-in-Window : goal.returns-in-Window
returns-in-Window c = named_as _ c.args.id _ refl c.tally_on.result c.tally_on.ensures _ (c.in-One.is ∙ ap One c.in-Window.is)
