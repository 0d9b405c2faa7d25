-- `tlp_judge::is_lawful_io` meets its contract: its bits without a name, its rules. Assumes nothing.
use mathlib.Core.Path.{refl, sym, ap, ◌∙◌}
use borrow.Author.Tests.{eqb-true}
use Rattle.tlp.specs.Reading.{number_of}
use Rattle.tlp_kinds.specs.KindsLaws.{accepted_io}
use Rattle.tlp_judge.specs.JudgeLaws.{not_passes}
use Rattle.tlp_judge.proofs.is_lawful_io.Goals as goal

pub returns-then-unnamed : goal.returns-then-unnamed
returns-then-unnamed c = not_passes _

pub returns : goal.returns
returns c = λ z.
    ap number_of
    (accepted_io c.args.s.now c.requires.0 c.requires.1 _ refl _ c.request_head_at-h.ensures _
    c.enables_at-e.ensures _ c.address_at-a.ensures (sym c.unnamed.ensures ∙ c.if-unnamed.false)
    (sym (c.io_rules.ensures _) ∙ eqb-true _ 0 z))
