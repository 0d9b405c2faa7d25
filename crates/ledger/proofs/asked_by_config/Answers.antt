-- `ledger::asked_by_config` meets its contract: where nothing refuses the header, its fields are the packet's. Assumes nothing.
use mathlib.Core.Path.{refl, sym, ap₂, ◌∙◌}
use mathlib.Core.Bool.{◌||◌}
use Rattle.tlp_kinds.specs.KindsLaws.{accepted_config}
use Rattle.ledger.proofs.AskedLaws.{asks_word}
use Rattle.ledger.proofs.asked_by_config.Goals as goal

pub returns-then-unnamed-unnamed_target : goal.returns-then-unnamed-unnamed_target
returns-then-unnamed-unnamed_target c = λ told. absurd (told c.untold.ensures)

pub returns-then-config_rules-ne0 : goal.returns-then-config_rules-ne0
returns-then-config_rules-ne0 c = λ told. absurd (told c.untold-then-config_rules-ne0.ensures)

pub returns : goal.returns
returns c = let accepted =
    accepted_config c.args.header.now c.requires.0 c.requires.1 _ c.config_kind-k.ensures
    _ c.request_head_at-h.ensures _ c.enables_at-e.ensures _ refl
    (sym (ap₂ ◌||◌ c.unnamed.ensures c.unnamed_target.ensures) ∙ c.if-unnamed-unnamed_target.false)
    (sym (c.config_rules.ensures c.config_kind-k.result _) ∙ c.if-config_rules-ne0.false) in
    λ _. asks_word _ _ accepted _ refl c.request_head_at-h.result refl _ c.asked_by_kind.ensures
