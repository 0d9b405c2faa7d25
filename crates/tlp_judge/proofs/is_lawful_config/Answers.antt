-- `tlp_judge::is_lawful_config` meets its contract: its bits without a name, its rule. Assumes nothing.
use mathlib.Core.Path.{refl, sym, ap, ap₂, ◌∙◌}
use mathlib.Core.Bool.{◌||◌}
use borrow.Author.Tests.{eqb-true}
use Rattle.tlp.specs.Reading.{number_of}
use Rattle.tlp_kinds.specs.KindsLaws.{accepted_config}
use Rattle.tlp_judge.specs.JudgeLaws.{not_passes}
use Rattle.tlp_judge.proofs.is_lawful_config.Goals as goal

pub returns-then-unnamed-unnamed_target : goal.returns-then-unnamed-unnamed_target
returns-then-unnamed-unnamed_target c = not_passes _

pub returns : goal.returns
returns c = λ z.
    ap number_of
    (accepted_config c.args.s.now c.requires.0 c.requires.1 _ refl _ c.request_head_at-h.ensures _
    c.enables_at-e.ensures _ refl
    (sym (ap₂ ◌||◌ c.unnamed.ensures c.unnamed_target.ensures) ∙ c.if-unnamed-unnamed_target.false)
    (sym (c.config_rules.ensures _ _) ∙ eqb-true _ 0 z))
