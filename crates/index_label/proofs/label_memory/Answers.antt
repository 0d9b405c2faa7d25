-- `index_label::label_memory` meets its contract: where nothing refuses the header, the word found decides. Assumes nothing.
use mathlib.Core.Path.{◌≡◌, refl, sym, ◌∙◌}
use borrow.Author.Tests.{lt-ltb, le-ltb}
use Rattle.packet.specs.declared.Packet.TheVariants.{Memory}
use Rattle.tlp.specs.declared.Reading.TheVariants.{Accepted}
use Rattle.tlp.specs.Reading.{read_of}
use Rattle.tlp_kinds.specs.KindsLaws.{accepted_memory}
use Rattle.index_find.specs.FoundLaws.{out_of_reach, by_word}
use Rattle.index_label.specs.FoundLaws.{labels_found}
use Rattle.index_label.proofs.label_memory.Goals as goal
use Rattle.index_label.proofs.label_memory.Goals.{Else-memory_rules-ne0}

-- no check refuses the header
accepted : (c : Else-memory_rules-ne0)
    → read_of c.args.header.now
    ≡ Accepted
    (Memory c.memory_kind-k.result c.request_head_at-h.result c.enables_at-e.result c.address_at-a.result)
accepted c =
    accepted_memory c.args.header.now c.requires.0 c.requires.1 _ c.memory_kind-k.ensures _ c.memory_form-form.ensures
    c.if-header-form.false _ c.request_head_at-h.ensures _ c.enables_at-e.ensures _ c.address_at-a.ensures
    _ c.is_write.ensures (sym c.unnamed.ensures ∙ c.if-unnamed.false)
    (sym (c.memory_rules.ensures c.memory_kind-k.result) ∙ c.if-memory_rules-ne0.false)

pub returns-then-header-form : goal.returns-then-header-form
returns-then-header-form c = λ told. absurd (told c.untold.ensures)

pub returns-then-unnamed : goal.returns-then-unnamed
returns-then-unnamed c = λ told. absurd (told c.untold-then-unnamed.ensures)

pub returns-then-memory_rules-ne0 : goal.returns-then-memory_rules-ne0
returns-then-memory_rules-ne0 c = λ told. absurd (told c.untold-then-memory_rules-ne0.ensures)

pub returns-then-a-ge-MEMORY_END : goal.returns-then-a-ge-MEMORY_END
returns-then-a-ge-MEMORY_END c = let found = out_of_reach _ c.args.index.now _ _ (accepted (goal.at.returns-then-a-ge-MEMORY_END c).Else-memory_rules-ne0) refl refl (le-ltb _ _ c.if-a-ge-MEMORY_END.true) in
    λ _. labels_found c.args.index.now _ _ (accepted (goal.at.returns-then-a-ge-MEMORY_END c).Else-memory_rules-ne0) 0 found _ c.name_of_memory-name.ensures _ c.owned_by.ensures

pub returns : goal.returns
returns c = let found = by_word _ _ _ _ (accepted (goal.at.returns c).Else-memory_rules-ne0) refl refl (lt-ltb _ _ c.if-a-ge-MEMORY_END.false) c.word_for.result
    c.word_for.ensures in
    λ _. labels_found _ _ _ (accepted (goal.at.returns c).Else-memory_rules-ne0) c.word_for.result found _ c.name_of_memory-name.ensures _ c.owned_by-2.ensures
