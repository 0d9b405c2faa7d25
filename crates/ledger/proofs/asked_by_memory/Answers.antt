-- `ledger::asked_by_memory` meets its contract: where nothing refuses the header, its fields are the packet's. Assumes nothing.
use mathlib.Core.Path.{refl, sym, ◌∙◌}
use Rattle.tlp_kinds.specs.KindsLaws.{accepted_memory}
use Rattle.ledger.proofs.AskedLaws.{asks_word}
use Rattle.ledger.proofs.asked_by_memory.Goals as goal

pub returns-then-header-form : goal.returns-then-header-form
returns-then-header-form c = λ told. absurd (told c.untold.ensures)

pub returns-then-unnamed : goal.returns-then-unnamed
returns-then-unnamed c = λ told. absurd (told c.untold-then-unnamed.ensures)

pub returns-then-memory_rules-ne0 : goal.returns-then-memory_rules-ne0
returns-then-memory_rules-ne0 c = λ told. absurd (told c.untold-then-memory_rules-ne0.ensures)

pub returns : goal.returns
returns c = let accepted =
    accepted_memory c.args.header.now c.requires.0 c.requires.1 _ c.memory_kind-k.ensures _ c.memory_form-form.ensures
    c.if-header-form.false _ c.request_head_at-h.ensures _ c.enables_at-e.ensures _ c.address_at-a.ensures
    _ c.is_write.ensures (sym c.unnamed.ensures ∙ c.if-unnamed.false)
    (sym (c.memory_rules.ensures c.memory_kind-k.result) ∙ c.if-memory_rules-ne0.false) in
    λ _. asks_word _ _ accepted _ refl c.request_head_at-h.result refl _ c.asked_by_kind.ensures
