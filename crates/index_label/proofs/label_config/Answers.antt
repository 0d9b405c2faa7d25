-- `index_label::label_config` meets its contract: where nothing refuses the header, the word found decides. Assumes nothing.
use Prim.Native.Nat.{◌+◌}
use native.Mathlib.Omega.{arith}
use mathlib.Core.Path.{◌≡◌, refl, sym, ap₂, ◌∙◌}
use mathlib.Core.Bool.{◌||◌}
use borrow.Author.Tests.{lt-ltb}
use Rattle.index_layout.specs.KeysLaws.{segment_id}
use Rattle.packet.specs.declared.Packet.TheVariants.{Config}
use Rattle.tlp.specs.declared.Reading.TheVariants.{Accepted}
use Rattle.tlp.specs.Reading.{read_of}
use Rattle.tlp_kinds.specs.KindsLaws.{accepted_config}
use Rattle.index_layout.specs.Keys.{id_size, id_base}
use Rattle.index_find.specs.FoundLaws.{by_word}
use Rattle.index_label.specs.FoundLaws.{labels_found}
use Rattle.index_label.proofs.label_config.Goals as goal
use Rattle.index_label.proofs.label_config.Goals.{Else-config_rules-ne0}

-- no check refuses the header
accepted : (c : Else-config_rules-ne0)
    → read_of c.args.header.now
    ≡ Accepted
    (Config c.config_kind-k.result c.request_head_at-h.result c.enables_at-e.result c.target_at-t.result)
accepted c =
    accepted_config c.args.header.now c.requires.0 c.requires.1 _ c.config_kind-k.ensures
    _ c.request_head_at-h.ensures _ c.enables_at-e.ensures _ c.target_at-t.ensures
    (sym (ap₂ ◌||◌ c.unnamed.ensures c.unnamed_target.ensures) ∙ c.if-unnamed-unnamed_target.false)
    (sym (c.config_rules.ensures c.config_kind-k.result c.target_at-t.result) ∙ c.if-config_rules-ne0.false)

pub returns-then-unnamed-unnamed_target : goal.returns-then-unnamed-unnamed_target
returns-then-unnamed-unnamed_target c = λ told. absurd (told c.untold.ensures)

pub returns-then-config_rules-ne0 : goal.returns-then-config_rules-ne0
returns-then-config_rules-ne0 c = λ told. absurd (told c.untold-then-config_rules-ne0.ensures)

pub returns-then-index-le-ROOT : goal.returns-then-index-le-ROOT
returns-then-index-le-ROOT c = λ told. absurd (told c.untold-then-index-le-ROOT.ensures)

pub returns-then-type_wrong : goal.returns-then-type_wrong
returns-then-type_wrong c = λ told. absurd (told c.untold-then-type_wrong.ensures)

pub word_for-requires : goal.word_for-requires
word_for-requires c = (sym (segment_id (id_base + c.target_at-t.result.id) (omega arith)), omega arith)

pub returns : goal.returns
returns c = let found =
    by_word _ _ _ _ (accepted (goal.at.returns c).Else-config_rules-ne0) refl (sym c.type_wrong.ensures ∙ c.if-type_wrong.false) (lt-ltb c.target_at-t.result.id id_size (omega arith))
    c.word_for.result c.word_for.ensures in
    λ _. labels_found _ _ _ (accepted (goal.at.returns c).Else-config_rules-ne0) c.word_for.result found _ c.name_of_config-name.ensures _ c.owned_by.ensures
