-- `capi_find::find_config` meets its contract: where nothing refuses the header, the word found decides. Assumes nothing.
use Prim.Native.Nat.{◌+◌}
use native.Mathlib.Omega.{arith}
use mathlib.Core.Path.{◌≡◌, refl, sym, ap₂, ◌∙◌}
use mathlib.Core.Bool.{◌||◌}
use borrow.Author.Tests.{lt-ltb}
use Rattle.packet.specs.declared.Packet.TheVariants.{Config}
use Rattle.tlp.specs.declared.Reading.TheVariants.{Accepted}
use Rattle.tlp.specs.Reading.{read_of}
use Rattle.index_layout.specs.KeysLaws.{segment_id}
use Rattle.tlp_kinds.specs.KindsLaws.{accepted_config}
use Rattle.index_layout.specs.Keys.{id_size, id_base}
use Rattle.index_find.specs.FoundLaws.{no_owner_lem, owned}
use Rattle.capi_find.specs.FoundLaws.{find_none, find_owned}
use Rattle.capi_find.specs.NumbersLaws.{numbers_config}
use Rattle.capi_find.proofs.find_config.Goals as goal
use Rattle.capi_find.proofs.find_config.Goals.{Else-config_rules-ne0}

-- no check refuses the header
accepted : (c : Else-config_rules-ne0)
    → read_of c.args.header.now
    ≡ Accepted
    (Config c.config_kind-k.result c.request_head_at-h.result c.enables_at-e.result c.target_at-t.result)
accepted c =
    accepted_config c.args.header.now c.requires.0 c.requires.1 _ c.config_kind-k.ensures
    _ c.request_head_at-h.ensures _ c.enables_at-e.ensures _ c.target_at-t.ensures
    (sym (ap₂ ◌||◌ c.unnamed.ensures c.unnamed_target.ensures) ∙ c.if-unnamed-unnamed_target.false)
    (sym (c.config_rules.ensures c.config_kind-k.result c.target_at-t.result) ∙ c.if-config_rules-ne0.false)

pub word_for-word-requires : goal.word_for-word-requires
word_for-word-requires c = (sym (segment_id (id_base + c.target_at-t.result.id) (omega arith)), omega arith)

pub returns-then-record_in-eq0 : goal.returns-then-record_in-eq0
returns-then-record_in-eq0 c = let e =
    find_none _ _ (no_owner_lem _ _ _ _ (accepted (goal.at.returns-then-record_in-eq0 c).Else-config_rules-ne0) refl
    (sym c.type_wrong.ensures ∙ c.if-type_wrong.false)
    (lt-ltb c.target_at-t.result.id id_size (omega arith)) _ c.word_for-word.ensures (sym c.record_in.ensures.0 ∙ c.if-record_in-eq0.true)) in
    record { value = rw e; answer_after = rw e }

pub returns : goal.returns
returns c = let e =
    find_owned _ _ (owned _ _ _ _ (accepted (goal.at.returns c).Else-config_rules-ne0) refl
    (sym c.type_wrong.ensures ∙ c.if-type_wrong.false)
    (lt-ltb c.target_at-t.result.id id_size (omega arith)) _ c.word_for-word.ensures (λ z. c.if-record_in-eq0.false (c.record_in.ensures.0 ∙ z)))
    _ (numbers_config _ _ _ _ _ c.arrived_number.ensures) in
    record { value = rw e c.give_request.ensures.value; answer_after = rw e c.give_request.ensures.out_after }
