-- `tlp_judge::is_lawful_completion` meets its contract: its bits without a name, its rules. Assumes nothing.
use mathlib.Core.Path.{sym, ap, ap₂, ◌∙◌}
use mathlib.Core.Bool.{◌||◌}
use borrow.Author.Tests.{eqb-true}
use Rattle.tlp.specs.Reading.{number_of}
use Rattle.tlp_kinds.specs.KindsLaws.{accepted_completion}
use Rattle.tlp_judge.specs.JudgeLaws.{not_passes}
use Rattle.tlp_judge.proofs.is_lawful_completion.Goals as goal

pub returns-then-unnamed-unnamed_lower : goal.returns-then-unnamed-unnamed_lower
returns-then-unnamed-unnamed_lower c = not_passes _

pub returns : goal.returns
returns c = λ z.
    ap number_of
    (accepted_completion c.args.s.now c.requires.0 c.requires.1 _ c.completion_kind-k.ensures _
    c.completion_head_at-h.ensures _ c.outcome_at-o.ensures
    (sym (ap₂ ◌||◌ c.unnamed.ensures c.unnamed_lower.ensures) ∙ c.if-unnamed-unnamed_lower.false)
    (sym c.completion_rules.ensures ∙ eqb-true _ 0 z))
