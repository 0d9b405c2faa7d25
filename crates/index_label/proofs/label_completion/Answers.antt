-- `index_label::label_completion` meets its contract: where nothing refuses the header, the word found decides. Assumes nothing.
use Prim.Native.Nat.{◌+◌}
use native.Mathlib.Omega.{arith}
use mathlib.Core.Path.{◌≡◌, refl, sym, ap₂, ◌∙◌}
use mathlib.Core.Bool.{◌||◌}
use borrow.Author.Tests.{lt-ltb}
use Rattle.index_layout.specs.KeysLaws.{segment_id}
use Rattle.packet.specs.declared.Packet.TheVariants.{Completion}
use Rattle.tlp.specs.declared.Reading.TheVariants.{Accepted}
use Rattle.tlp.specs.Reading.{read_of}
use Rattle.tlp_kinds.specs.KindsLaws.{accepted_completion}
use Rattle.index_layout.specs.Keys.{id_size, id_base}
use Rattle.index_find.specs.FoundLaws.{by_word}
use Rattle.index_label.specs.FoundLaws.{labels_found}
use Rattle.index_label.proofs.label_completion.Goals as goal
use Rattle.index_label.proofs.label_completion.Goals.{Else-completion_rules-ne0}

-- no check refuses the header
accepted : (c : Else-completion_rules-ne0)
    → read_of c.args.header.now
    ≡ Accepted (Completion c.completion_kind-k.result c.completion_head_at-h.result c.outcome_at-o.result)
accepted c =
    accepted_completion c.args.header.now c.requires.0 c.requires.1 _ c.completion_kind-k.ensures
    _ c.completion_head_at-h.ensures _ c.outcome_at-o.ensures
    (sym (ap₂ ◌||◌ c.unnamed.ensures c.unnamed_lower.ensures) ∙ c.if-unnamed-unnamed_lower.false)
    (sym c.completion_rules.ensures ∙ c.if-completion_rules-ne0.false)

pub returns-then-unnamed-unnamed_lower : goal.returns-then-unnamed-unnamed_lower
returns-then-unnamed-unnamed_lower c = λ told. absurd (told c.untold.ensures)

pub returns-then-completion_rules-ne0 : goal.returns-then-completion_rules-ne0
returns-then-completion_rules-ne0 c = λ told. absurd (told c.untold-then-completion_rules-ne0.ensures)

pub word_for-requires : goal.word_for-requires
word_for-requires c = (sym (segment_id (id_base + c.completion_head_at-h.result.requester) (omega arith)), omega arith)

pub returns : goal.returns
returns c = let found =
    by_word _ c.args.index.now _ _ (accepted (goal.at.returns c).Else-completion_rules-ne0) refl refl (lt-ltb c.completion_head_at-h.result.requester id_size (omega arith)) c.word_for.result c.word_for.ensures in
    λ _. labels_found c.args.index.now _ _ (accepted (goal.at.returns c).Else-completion_rules-ne0) c.word_for.result found _ c.name_of_completion-name.ensures
    _ c.owned_by.ensures
