-- `ledger::asked_by_io` meets its contract: where nothing refuses the header, its fields are the packet's. Assumes nothing.
use mathlib.Core.Path.{refl, sym, ◌∙◌}
use Rattle.tlp_kinds.specs.KindsLaws.{accepted_io}
use Rattle.ledger.proofs.AskedLaws.{asks_word}
use Rattle.ledger.proofs.asked_by_io.Goals as goal

pub returns-then-unnamed : goal.returns-then-unnamed
returns-then-unnamed c = λ told. absurd (told c.untold.ensures)

pub returns-then-io_rules-ne0 : goal.returns-then-io_rules-ne0
returns-then-io_rules-ne0 c = λ told. absurd (told c.untold-then-io_rules-ne0.ensures)

pub returns : goal.returns
returns c = let accepted =
    accepted_io c.args.header.now c.requires.0 c.requires.1 _ c.io_kind-k.ensures _ c.request_head_at-h.ensures
    _ c.enables_at-e.ensures _ c.address_at-a.ensures (sym c.unnamed.ensures ∙ c.if-unnamed.false)
    (sym (c.io_rules.ensures c.io_kind-k.result) ∙ c.if-io_rules-ne0.false) in
    λ _. asks_word _ _ accepted _ refl c.request_head_at-h.result refl _ c.asked_by_kind.ensures
