-- What a header is labelled with as the code holds it: a name in a word, and where the packet goes as a number. LabelLaws joins this with
-- the label. Assumes nothing.
use Rattle.std.specs.Prelude.{ℕ, ◌+◌, ◌%◌, ◌≤◌, min, ◌≡◌, cond, List, ◌++◌, length, take, eqb}
use Rattle.std.proofs.lemmas.List.Edits.{sets}
use Rattle.endian.specs.Endian.{be_bytes}
use Rattle.text.specs.Text.{ascii}
use Rattle.packet_text.specs.Labels.{named}
use Rattle.trace_label.specs.declared.Label.{Label}

-- the first bytes of a word, as many as its last byte says
unfoldable pub name_in : ℕ → List ℕ
name_in word = take (word % 256) (be_bytes 8 word)

pub record Names (word : ℕ) (name : List ℕ) : Type 0 where
  pub is : name_in word ≡ name
  pub few : word % 256 ≤ 8

-- where a packet goes, with its owner's number or a refusal's
unfoldable pub way_text : ℕ → ℕ → List ℕ
way_text way n =
    cond (eqb way 0) (named " owner " n)
    (cond (eqb way 1) (named " refused " n) (cond (eqb way 2) (ascii " owner all") (ascii " owner port")))

pub record Labels (l : Label) (label : List ℕ) : Type 0 where
  pub is : name_in l.name ++ way_text l.way l.number ≡ label
  pub few : l.name % 256 ≤ 8

-- unless it is untold, for which the way is 4
abbrev pub Told : Label → List ℕ → Type 0
Told l label = ¬ (l.way ≡ 4) → Labels l label

-- a text put at a place with up to eight bytes more, which stand where the next text will
pub record Over (bytes : List ℕ) (at : ℕ) (text : List ℕ) (after : List ℕ) (next : ℕ) : Type 0 where
  pub rest : List ℕ
  pub stored : after ≡ sets bytes at (text ++ rest)
  pub few : length rest ≤ 8
  pub place : next ≡ min (at + length text) (length bytes)
