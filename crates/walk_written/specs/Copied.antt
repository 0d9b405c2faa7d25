-- Stores that copy a list's own elements to their own places: a copied place is final and stays so, others are as they were, and where
-- every place is copied or was final the end is that list. Assumes nothing.
use Rattle.std.specs.Prelude.{◌≡◌, ◌⊎◌, Bool, cond, ℕ, ◌<◌, eqb, get_or, set}
use Rattle.std.proofs.Math.Path.{refl}
use Rattle.std.proofs.Common.{◌∙◌, inl, inr, arith, ext_get_or, get_or-set_same, eqb-true}
use mathlib.Core.List.Memᴰ
use mathlib.Core.List.{List, [], ◌∷◌, ◌++◌}
use Rattle.std.proofs.Math.Bool.{true, false}
use Rattle.std.proofs.Math.ListN.{length, length-set}
use Rattle.std.proofs.Math.Seq.{get_or-set_other}
use Rattle.std.proofs.lemmas.Bool.{eqb-false}
use Rattle.lists.specs.Lists.{◌∈◌, All, one_if}
use Rattle.lists.specs.ListLaws.{all_imp}

module _ (final : List ℕ) where
  -- the bytes of these places, one after another
  unfoldable pub copied : List ℕ → List ℕ → List ℕ
  copied [] s = s
  copied (i ∷ is) s = copied is (set s i (get_or final i 0))

  pub length_copied : (is s : List ℕ) → length (copied is s) ≡ length s
  unfolding copied
  length_copied [] s = refl
  length_copied (i ∷ is) s = length_copied is (set s i (get_or final i 0)) ∙ length-set s i (get_or final i 0)

  -- a byte that is final stays so
  set_final : (s : List ℕ) (i j : ℕ) → i < length s → (j ≡ i) ⊎ (get_or s j 0 ≡ get_or final j 0) → get_or (set s i (get_or final i 0)) j 0
      ≡ get_or final j 0
  set_final s i j h here = go (eqb j i) refl here
    where
      go : (t : Bool) → eqb j i ≡ t → (j ≡ i) ⊎ (get_or s j 0 ≡ get_or final j 0) → get_or (set s i (get_or final i 0)) j 0 ≡ get_or final j 0
      go true e here = let same : j ≡ i = eqb-true j i e in rw same (get_or-set_same s i (get_or final i 0) 0 h)
      go false e (inl same) = absurd (eqb-false j i e same)
      go false e (inr was) = get_or-set_other s i j (get_or final i 0) 0 (eqb-false j i e) ∙ was

  pub copied_final : (is s : List ℕ) → All (λ i. i < length s) is → (j : ℕ) → (j ∈ is) ⊎ (get_or s j 0 ≡ get_or final j 0)
      → get_or (copied is s) j 0 ≡ get_or final j 0
  unfolding copied
  copied_final [] s h j (inl m) = absurd (Memᴰ.not-nil m)
  copied_final [] s h j (inr e) = e
  copied_final (i ∷ is) s h j here = go here (λ k. copied_final is (set s i (get_or final i 0)) still j k)
    where
      still : All (λ k. k < length (set s i (get_or final i 0))) is
      still = all_imp _ _ is h.1 (λ k l. omega (arith, l, length-set s i (get_or final i 0)))

      go : (j ∈ i ∷ is) ⊎ (get_or s j 0 ≡ get_or final j 0)
          → ((j ∈ is) ⊎ (get_or (set s i (get_or final i 0)) j 0 ≡ get_or final j 0) → get_or (copied is (set s i (get_or final i 0))) j 0
          ≡ get_or final j 0)
          → get_or (copied is (set s i (get_or final i 0))) j 0 ≡ get_or final j 0
      go (inr was) on = on (inr (set_final s i j h.0 (inr was)))
      go (inl m) on = pick (Memᴰ.cases_cons m) on
        where
          pick : (j ≡ i) ⊎ (j ∈ is)
              → ((j ∈ is) ⊎ (get_or (set s i (get_or final i 0)) j 0 ≡ get_or final j 0) → get_or (copied is (set s i (get_or final i 0))) j 0
              ≡ get_or final j 0)
              → get_or (copied is (set s i (get_or final i 0))) j 0 ≡ get_or final j 0
          pick (inl same) on = on (inr (set_final s i j h.0 (inl same)))
          pick (inr n) on = on (inl n)

  -- a place that is not copied stays as it was
  pub copied_other : (is s : List ℕ) (j : ℕ) → ¬ (j ∈ is) → get_or (copied is s) j 0 ≡ get_or s j 0
  unfolding copied
  copied_other [] s j out = refl
  copied_other (i ∷ is) s j out =
      copied_other is (set s i (get_or final i 0)) j (λ m. out (Memᴰ.tail m))
      ∙ get_or-set_other s i j (get_or final i 0) 0 (λ e. out (Memᴰ.head e))

  pub copied_append : (is js s : List ℕ) → copied (is ++ js) s ≡ copied js (copied is s)
  unfolding copied
  copied_append [] js s = refl
  copied_append (i ∷ is) js s = copied_append is js (set s i (get_or final i 0))

  -- one place, on a condition
  pub copied_one_if : (t : Bool) (i : ℕ) (is s : List ℕ) → copied (one_if t i ++ is) s ≡ copied is (cond t (set s i (get_or final i 0)) s)
  unfolding copied
  copied_one_if true i is s = refl
  copied_one_if false i is s = refl

  -- every place is written or was final: the end state is the sheet
  pub ends_as_final : (is s : List ℕ) → length s ≡ length final → All (λ i. i < length s) is
      → ((j : ℕ) → j < length final → (j ∈ is) ⊎ (get_or s j 0 ≡ get_or final j 0)) → copied is s ≡ final
  ends_as_final is s long h covered =
      ext_get_or 0 (copied is s) final (length_copied is s ∙ long)
      (λ j l. copied_final is s h j (covered j (omega (arith, l, length_copied is s, long))))
