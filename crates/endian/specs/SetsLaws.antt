-- Stores of several elements from a place on (`sets` of lib.Seq): two runs that meet, that stand apart, one over the other; and what
-- stands at each index after. Assumes nothing.
use Rattle.std.specs.Prelude.{◌≡◌, refl, ℕ, zero, suc, ◌+◌, ◌-◌, ◌≤◌, ◌<◌, List, [], ◌∷◌, ◌++◌, length, get_or, set}
use Rattle.std.proofs.Common.{sym, ap, ◌∙◌, append_assoc, add-zero, add-suc, suc-add, arith, length-set, set-set, get_or-set_same, get_or-set_other}
use Rattle.std.proofs.lemmas.List.Edits.{sets, sets-eq}
use Rattle.std.proofs.lemmas.List.{set_comm, drop-drop}
use borrow.Rule.Slice.PartMut.{put_mid}

module _ {ℓ} {A : Type ℓ} where
  -- two runs of stores that meet are one
  pub sets_sets : (o : List A) (i : ℕ) (vs ws : List A) → sets (sets o i vs) (i + length vs) ws ≡ sets o i (vs ++ ws)
  sets_sets o i [] ws = ap (λ (k : ℕ). sets o k ws) (add-zero i)
  sets_sets o i (v ∷ vs) ws =
      ap (λ (k : ℕ). sets (sets (set o i v) (suc i) vs) k ws) (add-suc i (length vs) ∙ sym (suc-add i (length vs)))
      ∙ sets_sets (set o i v) (suc i) vs ws

  -- the same of two calls that each store a run: what is left after both
  pub sets_append : {o₁ o₂ : List A} (o : List A) (i k : ℕ) (vs ws : List A)
      → length vs ≡ k → o₁ ≡ sets o i vs → o₂ ≡ sets o₁ (i + k) ws
      → o₂ ≡ sets o i (vs ++ ws)
  sets_append o i k vs ws l p q = q ∙ rw (p, ← l) (sets_sets o i vs ws)

  sets_set : (o : List A) (k : ℕ) (a : A) (i : ℕ) (vs : List A) → k < i → sets (set o k a) i vs ≡ set (sets o i vs) k a
  sets_set o k a i [] h = refl
  sets_set o k a i (v ∷ vs) h =
      ap (λ (t : List A). sets t (suc i) vs) (set_comm o k i a v (λ e. omega arith)) ∙ sets_set (set o i v) k a (suc i) vs (omega arith)

  -- two runs that stand apart, in either order
  pub sets_comm : (o : List A) (i : ℕ) (vs : List A) (j : ℕ) (ws : List A)
      → i + length vs ≤ j → sets (sets o i vs) j ws ≡ sets (sets o j ws) i vs
  sets_comm o i [] j ws h = refl
  sets_comm o i (v ∷ vs) j ws h =
      sets_comm (set o i v) (suc i) vs j ws (omega arith)
      ∙ ap (λ (t : List A). sets t (suc i) vs) (sets_set o i v j ws (omega arith))

  -- one run over another
  pub sets_over : (o : List A) (i : ℕ) (vs ws : List A) → length vs ≡ length ws → sets (sets o i vs) i ws ≡ sets o i ws
  sets_over o i [] [] h = refl
  sets_over o i [] (w ∷ ws) h = absurd (omega (arith, h))
  sets_over o i (v ∷ vs) [] h = absurd (omega (arith, h))
  sets_over o i (v ∷ vs) (w ∷ ws) h =
      ap (λ (t : List A). sets t (suc i) ws)
      (sym (sets_set (set o i v) i w (suc i) vs (omega arith)) ∙ ap (λ (t : List A). sets t (suc i) vs) (set-set o i v w))
      ∙ sets_over (set o i w) (suc i) vs ws (omega (arith, h))

  -- before the stores, and after them, all is as it was
  pub get_d_sets_before : (o : List A) (i : ℕ) (vs : List A) (k : ℕ) (d : A) → k < i → get_or (sets o i vs) k d ≡ get_or o k d
  get_d_sets_before o i [] k d h = refl
  get_d_sets_before o i (v ∷ vs) k d h =
      get_d_sets_before (set o i v) (suc i) vs k d (omega arith) ∙ get_or-set_other o i k v d (λ e. omega arith)

  pub get_d_sets_after : (o : List A) (i : ℕ) (vs : List A) (k : ℕ) (d : A) → i + length vs ≤ k → get_or (sets o i vs) k d ≡ get_or o k d
  get_d_sets_after o i [] k d h = refl
  get_d_sets_after o i (v ∷ vs) k d h =
      get_d_sets_after (set o i v) (suc i) vs k d (omega arith) ∙ get_or-set_other o i k v d (λ e. omega arith)

  -- among the stores stands what was stored
  pub get_d_sets_at : (o : List A) (i : ℕ) (vs : List A) (k : ℕ) (d : A)
      → k < length vs → i + k < length o → get_or (sets o i vs) (i + k) d ≡ get_or vs k d
  get_d_sets_at o i [] k d h l = absurd (omega arith)
  get_d_sets_at o i (v ∷ vs) zero d h l =
      ap (λ (j : ℕ). get_or (sets (set o i v) (suc i) vs) j d) (add-zero i)
      ∙ get_d_sets_before (set o i v) (suc i) vs i d (omega arith)
      ∙ get_or-set_same o i v d (omega arith)
  get_d_sets_at o i (v ∷ vs) (suc k) d h l =
      ap (λ (j : ℕ). get_or (sets (set o i v) (suc i) vs) j d) (add-suc i k ∙ sym (suc-add i k))
      ∙ get_d_sets_at (set o i v) (suc i) vs k d (omega arith) (omega (arith, length-set o i v))

-- a part of a slice that was copied over is a run of stores
pub sets_of_copy : {A : Type 0} (o : List A) (at end : ℕ) (vs : List A) → at + length vs ≡ end → end ≤ length o
    → put_mid at (end - at) o vs ≡ sets o at vs
sets_of_copy o at end vs e h =
    let n : end - at ≡ length vs = omega arith in
    rw (n, drop-drop (length vs) at o, ← append_assoc) (sym (sets-eq vs o at (omega arith)))
