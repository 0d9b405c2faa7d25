-- `capi_find::find_memory` meets its contract: where nothing refuses the header, the word found decides. Assumes nothing.
use mathlib.Core.Path.{◌≡◌, refl, sym, ◌∙◌}
use borrow.Author.Tests.{lt-ltb, le-ltb}
use Rattle.packet.specs.declared.Packet.TheVariants.{Memory}
use Rattle.tlp.specs.declared.Reading.TheVariants.{Accepted}
use Rattle.tlp.specs.Reading.{read_of}
use Rattle.tlp_kinds.specs.KindsLaws.{accepted_memory}
use Rattle.index_find.specs.FoundLaws.{out_of_reach, no_owner_lem, owned}
use Rattle.capi_find.specs.FoundLaws.{find_none, find_owned}
use Rattle.capi_find.specs.NumbersLaws.{numbers_memory}
use Rattle.capi_find.proofs.find_memory.Goals as goal
use Rattle.capi_find.proofs.find_memory.Goals.{Else-memory_rules-ne0}

-- no check refuses the header
accepted : (c : Else-memory_rules-ne0)
    → read_of c.args.header.now
    ≡ Accepted
    (Memory c.memory_kind-k.result c.request_head_at-h.result c.enables_at-e.result c.address_at-a.result)
accepted c =
    accepted_memory c.args.header.now c.requires.0 c.requires.1 _ c.memory_kind-k.ensures _ c.memory_form-form.ensures
    c.if-header-form.false _ c.request_head_at-h.ensures _ c.enables_at-e.ensures _ c.address_at-a.ensures
    _ c.is_write.ensures (sym c.unnamed.ensures ∙ c.if-unnamed.false)
    (sym (c.memory_rules.ensures c.memory_kind-k.result) ∙ c.if-memory_rules-ne0.false)

pub returns-then-a-ge-MEMORY_END : goal.returns-then-a-ge-MEMORY_END
returns-then-a-ge-MEMORY_END c = let e = find_none _ _ (out_of_reach _ c.args.index.now _ _ (accepted (goal.at.returns-then-a-ge-MEMORY_END c).Else-memory_rules-ne0) refl refl (le-ltb _ _ c.if-a-ge-MEMORY_END.true)) in
    record { value = rw e; answer_after = rw e }

pub returns-then-record_in-eq0 : goal.returns-then-record_in-eq0
returns-then-record_in-eq0 c = let e = find_none _ _ (no_owner_lem _ _ _ _ (accepted (goal.at.returns-then-record_in-eq0 c).Else-memory_rules-ne0) refl refl (lt-ltb _ _ c.if-a-ge-MEMORY_END.false)
    _ c.word_for-word.ensures (sym c.record_in.ensures.0 ∙ c.if-record_in-eq0.true)) in
    record { value = rw e; answer_after = rw e }

pub returns : goal.returns
returns c = let e = find_owned _ _ (owned _ _ _ _ (accepted (goal.at.returns c).Else-memory_rules-ne0) refl refl (lt-ltb _ _ c.if-a-ge-MEMORY_END.false)
    _ c.word_for-word.ensures (λ z. c.if-record_in-eq0.false (c.record_in.ensures.0 ∙ z)))
    _ (numbers_memory _ _ _ _ _ c.kind_number.ensures) in
    record { value = rw e c.give_request.ensures.value; answer_after = rw e c.give_request.ensures.out_after }
