-- `capi_find::find_completion` meets its contract: where nothing refuses the header, the word found decides. Assumes nothing.
use Prim.Native.Nat.{◌+◌}
use native.Mathlib.Omega.{arith}
use mathlib.Core.Path.{◌≡◌, refl, sym, ap₂, ◌∙◌}
use mathlib.Core.Bool.{◌||◌}
use borrow.Author.Tests.{lt-ltb}
use Rattle.packet.specs.declared.Packet.TheVariants.{Completion}
use Rattle.tlp.specs.declared.Reading.TheVariants.{Accepted}
use Rattle.tlp.specs.Reading.{read_of}
use Rattle.index_layout.specs.KeysLaws.{segment_id}
use Rattle.tlp_kinds.specs.KindsLaws.{accepted_completion}
use Rattle.index_layout.specs.Keys.{id_size, id_base}
use Rattle.index_find.specs.FoundLaws.{no_owner_lem, owned}
use Rattle.capi_find.specs.FoundLaws.{find_none, find_owned}
use Rattle.capi_find.specs.NumbersLaws.{numbers_completion}
use Rattle.capi_find.proofs.find_completion.Goals as goal
use Rattle.capi_find.proofs.find_completion.Goals.{Else-completion_rules-ne0}

-- no check refuses the header
accepted : (c : Else-completion_rules-ne0)
    → read_of c.args.header.now
    ≡ Accepted (Completion c.completion_kind-k.result c.completion_head_at-h.result c.outcome_at-o.result)
accepted c =
    accepted_completion c.args.header.now c.requires.0 c.requires.1 _ c.completion_kind-k.ensures
    _ c.completion_head_at-h.ensures _ c.outcome_at-o.ensures
    (sym (ap₂ ◌||◌ c.unnamed.ensures c.unnamed_lower.ensures) ∙ c.if-unnamed-unnamed_lower.false)
    (sym c.completion_rules.ensures ∙ c.if-completion_rules-ne0.false)

pub word_for-word-requires : goal.word_for-word-requires
word_for-word-requires c = (sym (segment_id (id_base + c.completion_head_at-h.result.requester) (omega arith)), omega arith)

pub returns-then-record_in-eq0 : goal.returns-then-record_in-eq0
returns-then-record_in-eq0 c = let e =
    find_none _ _ (no_owner_lem _ c.args.index.now _ _ (accepted (goal.at.returns-then-record_in-eq0 c).Else-completion_rules-ne0) refl refl (lt-ltb c.completion_head_at-h.result.requester id_size (omega arith))
    _ c.word_for-word.ensures (sym c.record_in.ensures.0 ∙ c.if-record_in-eq0.true)) in
    record { value = rw e; answer_after = rw e }

pub returns : goal.returns
returns c = let e =
    find_owned _ _ (owned _ c.args.index.now _ _ (accepted (goal.at.returns c).Else-completion_rules-ne0) refl refl (lt-ltb c.completion_head_at-h.result.requester id_size (omega arith))
    _ c.word_for-word.ensures (λ z. c.if-record_in-eq0.false (c.record_in.ensures.0 ∙ z)))
    _ (numbers_completion _ _ _ _ c.kind_number.ensures) in
    record { value = rw e c.give_completion.ensures.value; answer_after = rw e c.give_completion.ensures.out_after }
