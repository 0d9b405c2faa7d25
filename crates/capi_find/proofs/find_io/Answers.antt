-- `capi_find::find_io` meets its contract: where nothing refuses the header, the word found decides. Assumes nothing.
use Prim.Native.Nat.{◌+◌}
use native.Mathlib.Omega.{arith}
use mathlib.Core.Path.{◌≡◌, refl, sym, ◌∙◌}
use borrow.Author.Tests.{lt-ltb, le-ltb}
use Rattle.packet.specs.declared.Packet.TheVariants.{Io}
use Rattle.tlp.specs.declared.Reading.TheVariants.{Accepted}
use Rattle.tlp.specs.Reading.{read_of}
use Rattle.index_layout.specs.KeysLaws.{segment_io}
use Rattle.tlp_kinds.specs.KindsLaws.{accepted_io}
use Rattle.index_layout.specs.Keys.{io_base}
use Rattle.index_find.specs.FoundLaws.{out_of_reach, no_owner_lem, owned}
use Rattle.capi_find.specs.FoundLaws.{find_none, find_owned}
use Rattle.capi_find.specs.NumbersLaws.{numbers_io}
use Rattle.capi_find.proofs.find_io.Goals as goal
use Rattle.capi_find.proofs.find_io.Goals.{Else-io_rules-ne0}

-- no check refuses the header
accepted : (c : Else-io_rules-ne0)
    → read_of c.args.header.now
    ≡ Accepted (Io c.io_kind-k.result c.request_head_at-h.result c.enables_at-e.result c.address_at-a.result)
accepted c =
    accepted_io c.args.header.now c.requires.0 c.requires.1 _ c.io_kind-k.ensures _ c.request_head_at-h.ensures
    _ c.enables_at-e.ensures _ c.address_at-a.ensures (sym c.unnamed.ensures ∙ c.if-unnamed.false)
    (sym (c.io_rules.ensures c.io_kind-k.result) ∙ c.if-io_rules-ne0.false)

pub returns-then-a-ge-IO_SIZE : goal.returns-then-a-ge-IO_SIZE
returns-then-a-ge-IO_SIZE c = let e = find_none _ _ (out_of_reach _ c.args.index.now _ _ (accepted (goal.at.returns-then-a-ge-IO_SIZE c).Else-io_rules-ne0) refl refl (le-ltb _ _ c.if-a-ge-IO_SIZE.true)) in
    record { value = rw e; answer_after = rw e }

pub word_for-word-requires : goal.word_for-word-requires
word_for-word-requires c = (sym (segment_io (io_base + c.address_at-a.result) (omega arith) (omega (arith, c.if-a-ge-IO_SIZE.false))), omega (arith, c.if-a-ge-IO_SIZE.false))

pub returns-then-record_in-eq0 : goal.returns-then-record_in-eq0
returns-then-record_in-eq0 c = let e = find_none _ _ (no_owner_lem _ _ _ _ (accepted (goal.at.returns-then-record_in-eq0 c).Else-io_rules-ne0) refl refl (lt-ltb _ _ c.if-a-ge-IO_SIZE.false)
    _ c.word_for-word.ensures (sym c.record_in.ensures.0 ∙ c.if-record_in-eq0.true)) in
    record { value = rw e; answer_after = rw e }

pub returns : goal.returns
returns c = let e = find_owned _ _ (owned _ _ _ _ (accepted (goal.at.returns c).Else-io_rules-ne0) refl refl (lt-ltb _ _ c.if-a-ge-IO_SIZE.false)
    _ c.word_for-word.ensures (λ z. c.if-record_in-eq0.false (c.record_in.ensures.0 ∙ z)))
    _ (numbers_io _ _ _ _ _ c.kind_number.ensures) in
    record { value = rw e c.give_request.ensures.value; answer_after = rw e c.give_request.ensures.out_after }
