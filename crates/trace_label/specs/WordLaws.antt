-- Names in words, ways as numbers, and a text put over the rest of another. Assumes nothing.
use Rattle.std.specs.Prelude.{ℕ, ◌+◌, ◌-◌, ◌/◌, ◌%◌, ◌≤◌, min, ◌≡◌, refl, Bool, true, false, cond, List, [], ◌∷◌, ◌++◌, length, take, drop, replicate, eqb, ltb}
use Rattle.std.proofs.Common.{sym, ap, ap₂, ◌∙◌, append-nil, arith, length-append, length-drop, take-append-drop, length-take-le, ltb-true, ltb-false}
use Rattle.std.proofs.lemmas.List.Edits.{sets}
use Rattle.std.proofs.Math.Seq.{length-sets}
use Rattle.endian.specs.Endian.{be_bytes}
use Rattle.endian.specs.EndianLaws.{length_be_bytes}
use Rattle.endian.specs.SetsLaws.{sets_sets, sets_over}
use Rattle.text.specs.Text.{Put, ascii, digit, decimal}
use Rattle.text.specs.TextLaws.{decimal_one, decimal_more, sets_min}
use Rattle.packet_text.specs.Labels.{named}
use Rattle.trace_label.specs.declared.Label.{Label}
use Rattle.trace_label.specs.Word.{name_in, way_text, Labels, Over}

-- ## Lengths

some_digit : (n : ℕ) → 1 ≤ length (decimal n)
some_digit n = go (ltb n 10) refl
  where
    go : (b : Bool) → ltb n 10 ≡ b → 1 ≤ length (decimal n)
    go true e = omega (arith, ap length (decimal_one n (ltb-true n 10 e)))
    go false e =
        omega (arith, ap length (decimal_more n (ltb-false n 10 e)), length-append (decimal (n / 10)) (digit (n % 10) ∷ []))

way_le : (way n : ℕ) → 8 ≤ length (way_text way n)
unfolding way_text ascii
way_le way n = go (eqb way 0) (eqb way 1) (eqb way 2)
  where
    go : (a b c : Bool)
        → 8 ≤ length (cond a (named " owner " n) (cond b (named " refused " n) (cond c (ascii " owner all") (ascii " owner port"))))
    go true b c = omega (arith, some_digit n)
    go false true c = omega (arith, some_digit n)
    go false false true = omega arith
    go false false false = omega arith

pub length_name_in : (word : ℕ) → word % 256 ≤ 8 → length (name_in word) ≡ word % 256
unfolding name_in
length_name_in word h = length-take-le (word % 256) (be_bytes 8 word) (omega (arith, length_be_bytes 8 word))

-- ## A name stored

-- a room of eight bytes holds the word
pub word_stored : (o : List ℕ) (word : ℕ) → o ≡ sets (replicate 8 0) 0 (be_bytes 8 word) → take (word % 256) o ≡ name_in word
unfolding name_in be_bytes
word_stored o word e = ap (take (word % 256)) e

split_name : (word : ℕ) → be_bytes 8 word ≡ name_in word ++ drop (word % 256) (be_bytes 8 word)
unfolding name_in
split_name word = sym (take-append-drop (word % 256) (be_bytes 8 word))

module _ (o : List ℕ) (start at word : ℕ) (few : word % 256 ≤ 8) where
  pub name_over : at ≡ min (start + 0) (length o) → 8 ≤ length o - at → (o₁ : List ℕ) → o₁ ≡ sets o at (be_bytes 8 word)
      → Over o start (name_in word) o₁ (at + word % 256)
  name_over place room o₁ e =
      let same : at ≡ start = omega arith in
      let l = length_name_in word few in
      record {
        rest = drop (word % 256) (be_bytes 8 word);
        stored = e ∙ ap₂ (sets o) same (split_name word);
        few = omega (arith, length-drop (word % 256) (be_bytes 8 word), length_be_bytes 8 word);
        place = omega arith;
      }

  pub name_put : (o₁ : List ℕ) (r : ℕ) → Put o start (name_in word) o₁ r → Over o start (name_in word) o₁ r
  name_put o₁ r put =
      record { rest = []; stored = put.stored ∙ ap (sets o start) (sym (append-nil (name_in word))); few = omega arith; place = put.place }

-- ## A text over the rest of another

over_longer : (o : List ℕ) (i : ℕ) (vs gs ws : List ℕ) → length gs ≤ length ws
    → sets (sets o i (vs ++ gs)) (i + length vs) ws ≡ sets o i (vs ++ ws)
over_longer o i vs gs ws h =
    let x = sets o i vs in
    let j = i + length vs in
    let u = take (length gs) ws in
    let v = drop (length gs) ws in
    let l : length u ≡ length gs = length-take-le (length gs) ws h in
    ap (λ (t : List ℕ). sets t j ws) (sym (sets_sets o i vs gs))
    ∙ ap (sets (sets x j gs) j) (sym (take-append-drop (length gs) ws))
    ∙ sym (sets_sets (sets x j gs) j u v)
    ∙ ap (λ (t : List ℕ). sets t (j + length u) v) (sets_over x j gs u (sym l))
    ∙ sets_sets x j u v
    ∙ ap (sets x j) (take-append-drop (length gs) ws)
    ∙ sets_sets o i vs ws

put_over : {o o₁ o₂ vs ws : List ℕ} {at next r : ℕ} → Over o at vs o₁ next → Put o₁ next ws o₂ r → 8 ≤ length ws → Put o at (vs ++ ws) o₂ r
put_over {o} {o₁} {o₂} {vs} {ws} {at} {next} {r} p q long =
    let l : length o₁ ≡ length o = ap length p.stored ∙ length-sets o at (vs ++ p.rest) in
    let e : next ≡ min (at + length vs) (length o₁) = omega (arith, p.place, l) in
    record {
      stored =
          q.stored
          ∙ ap (λ (k : ℕ). sets o₁ k ws) e
          ∙ sets_min o₁ (at + length vs) ws
          ∙ ap (λ (t : List ℕ). sets t (at + length vs) ws) p.stored
          ∙ over_longer o at vs p.rest ws (omega (arith, p.few));
      place = omega (arith, length-append vs ws, q.place, p.place, l);
    }

-- the label, by its name and its way
pub label_put : {o o₁ o₂ label : List ℕ} {at next r : ℕ} (l : Label) → Labels l label → Over o at (name_in l.name) o₁ next
    → Put o₁ next (way_text l.way l.number) o₂ r → Put o at label o₂ r
label_put l labels over way = rw (← labels.is) (put_over over way (way_le l.way l.number))
