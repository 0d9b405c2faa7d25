-- `index_label::label_io` meets its contract: where nothing refuses the header, the word found decides. Assumes nothing.
use Prim.Native.Nat.{◌+◌}
use native.Mathlib.Omega.{arith}
use mathlib.Core.Path.{◌≡◌, refl, sym, ◌∙◌}
use borrow.Author.Tests.{lt-ltb, le-ltb}
use Rattle.index_layout.specs.KeysLaws.{segment_io}
use Rattle.packet.specs.declared.Packet.TheVariants.{Io}
use Rattle.tlp.specs.declared.Reading.TheVariants.{Accepted}
use Rattle.tlp.specs.Reading.{read_of}
use Rattle.tlp_kinds.specs.KindsLaws.{accepted_io}
use Rattle.index_layout.specs.Keys.{io_base}
use Rattle.index_find.specs.FoundLaws.{out_of_reach, by_word}
use Rattle.index_label.specs.FoundLaws.{labels_found}
use Rattle.index_label.proofs.label_io.Goals as goal
use Rattle.index_label.proofs.label_io.Goals.{Else-io_rules-ne0}

-- no check refuses the header
accepted : (c : Else-io_rules-ne0)
    → read_of c.args.header.now
    ≡ Accepted (Io c.io_kind-k.result c.request_head_at-h.result c.enables_at-e.result c.address_at-a.result)
accepted c =
    accepted_io c.args.header.now c.requires.0 c.requires.1 _ c.io_kind-k.ensures _ c.request_head_at-h.ensures
    _ c.enables_at-e.ensures _ c.address_at-a.ensures (sym c.unnamed.ensures ∙ c.if-unnamed.false)
    (sym (c.io_rules.ensures c.io_kind-k.result) ∙ c.if-io_rules-ne0.false)

pub returns-then-unnamed : goal.returns-then-unnamed
returns-then-unnamed c = λ told. absurd (told c.untold.ensures)

pub returns-then-io_rules-ne0 : goal.returns-then-io_rules-ne0
returns-then-io_rules-ne0 c = λ told. absurd (told c.untold-then-io_rules-ne0.ensures)

pub returns-then-a-ge-IO_SIZE : goal.returns-then-a-ge-IO_SIZE
returns-then-a-ge-IO_SIZE c = let found = out_of_reach _ c.args.index.now _ _ (accepted (goal.at.returns-then-a-ge-IO_SIZE c).Else-io_rules-ne0) refl refl (le-ltb _ _ c.if-a-ge-IO_SIZE.true) in
    λ _. labels_found c.args.index.now _ _ (accepted (goal.at.returns-then-a-ge-IO_SIZE c).Else-io_rules-ne0) 0 found _ c.name_of_io-name.ensures _ c.owned_by.ensures

pub word_for-requires : goal.word_for-requires
word_for-requires c = (sym (segment_io (io_base + c.address_at-a.result) (omega arith) (omega (arith, c.if-a-ge-IO_SIZE.false))), omega (arith, c.if-a-ge-IO_SIZE.false))

pub returns : goal.returns
returns c = let found =
    by_word _ _ _ _ (accepted (goal.at.returns c).Else-io_rules-ne0) refl refl (lt-ltb _ _ c.if-a-ge-IO_SIZE.false) c.word_for.result c.word_for.ensures in
    λ _. labels_found _ _ _ (accepted (goal.at.returns c).Else-io_rules-ne0) c.word_for.result found _ c.name_of_io-name.ensures _ c.owned_by-2.ensures
