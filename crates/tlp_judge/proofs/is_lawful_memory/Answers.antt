-- `tlp_judge::is_lawful_memory` meets its contract: its length, its bits without a name, its rules. Assumes nothing.
use mathlib.Core.Path.{sym, ap, ◌∙◌}
use Rattle.tlp.specs.Reading.{number_of}
use Rattle.tlp_kinds.specs.KindsLaws.{accepted_memory}
use Rattle.tlp_judge.specs.JudgeLaws.{not_passes}
use Rattle.tlp_judge.proofs.is_lawful_memory.Goals as goal

pub returns-then-s-form : goal.returns-then-s-form
returns-then-s-form c = not_passes _

pub returns-then-unnamed : goal.returns-then-unnamed
returns-then-unnamed c = not_passes _

pub returns : goal.returns
returns c = λ kept.
    ap number_of
    (accepted_memory c.args.s.now c.requires.0 c.requires.1 _ c.memory_kind-k.ensures _ c.memory_form-form.ensures
    c.if-s-form.false _ c.request_head_at-h.ensures _ c.enables_at-e.ensures _ c.address_at-a.ensures
    _ c.is_write.ensures (sym c.unnamed.ensures ∙ c.if-unnamed.false)
    (c.memory_keeps.ensures kept c.memory_kind-k.result))
