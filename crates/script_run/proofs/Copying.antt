-- The places that writes name, and that storing a sheet's own bytes there copies them. Assumes nothing.
use Rattle.std.specs.Prelude.{◌≡◌, refl, ◌⊎◌, Bool, true, false, get_or, set}
use Rattle.std.proofs.Math.Path.{sym, ap}
use Rattle.std.proofs.Common.{◌∙◌, inl, inr, append_assoc, arith}
use Rattle.std.proofs.Math.Bool.{cond}
use mathlib.Core.List.Memᴰ
use mathlib.Core.List.{List, [], ◌∷◌, ◌++◌, flat_map}
use Prim.Native.Nat.{ℕ, zero, suc, ◌+◌, ◌<◌}
use Rattle.lists.specs.Lists.{◌∈◌, one_if}
use Rattle.lists.specs.ListLaws.{flat_elim, flat_intro}
use Rattle.walk_written.specs.Copied.{copied, copied_one_if}
use Rattle.script_writes.specs.Writes.{Write, named}
use Rattle.script_run.specs.Model.{register_place, store_byte, store_four}

-- the bytes of a dword that are enabled
abbrev pub places_at : ℕ → ℕ → List ℕ
places_at at enables =
    one_if (named enables 0) (at + 0)
    ++ (one_if (named enables 1) (at + 1) ++ (one_if (named enables 2) (at + 2) ++ (one_if (named enables 3) (at + 3) ++ [])))

unfoldable pub places_of : Write → List ℕ
places_of w = places_at (register_place w.number w.offset) w.enables

unfoldable pub all_places : List Write → List ℕ
all_places ws = flat_map places_of ws

-- ## Storing is copying

module _ (final : List ℕ) (at enables : ℕ) (bytes : List ℕ)
    (own : (i : ℕ) → i < 4 → named enables i ≡ true → get_or bytes i 0 ≡ get_or final (at + i) 0) where
  one : (i : ℕ) → i < 4 → (s : List ℕ) → store_byte at enables bytes i s ≡ cond (named enables i) (set s (at + i) (get_or final (at + i) 0)) s
  one i h s = go (named enables i) refl
    where
      go : (t : Bool) → named enables i ≡ t → cond t (set s (at + i) (get_or bytes i 0)) s ≡ cond t (set s (at + i) (get_or final (at + i) 0)) s
      go true e = ap (set s (at + i)) (own i h e)
      go false e = refl

  pub store_copied : (s : List ℕ) → store_four at enables bytes s ≡ copied final (places_at at enables) s
  unfolding copied
  store_copied s =
      let step : ℕ → List ℕ → List ℕ = λ i x. cond (named enables i) (set x (at + i) (get_or final (at + i) 0)) x in
      let s0 = one 0 (omega arith) s in
      let s1 = ap (store_byte at enables bytes 1) s0 ∙ one 1 (omega arith) (step 0 s) in
      let s2 = ap (store_byte at enables bytes 2) s1 ∙ one 2 (omega arith) (step 1 (step 0 s)) in
      let s3 = ap (store_byte at enables bytes 3) s2 ∙ one 3 (omega arith) (step 2 (step 1 (step 0 s))) in
      s3
      ∙ sym (copied_one_if final (named enables 0) (at + 0) _ s
      ∙ copied_one_if final (named enables 1) (at + 1) _ (step 0 s)
      ∙ copied_one_if final (named enables 2) (at + 2) _ (step 1 (step 0 s))
      ∙ copied_one_if final (named enables 3) (at + 3) [] (step 2 (step 1 (step 0 s))))

-- ## Which places are named

one_if_elim : (t : Bool) (x y : ℕ) → y ∈ one_if t x → (t ≡ true) × (y ≡ x)
one_if_elim true x y m = (refl, go (Memᴰ.cases_cons m))
  where
    go : (y ≡ x) ⊎ (y ∈ []) → y ≡ x
    go (inl e) = e
    go (inr n) = absurd (Memᴰ.not-nil n)
one_if_elim false x y m = absurd (Memᴰ.not-nil m)

one_if_intro : (t : Bool) (x : ℕ) → t ≡ true → x ∈ one_if t x
one_if_intro t x e = rw e (Memᴰ.head refl)

pub record NamedAt (at enables x : ℕ) : Type 0 where
  pub byte : ℕ
  pub in_dword : byte < 4
  pub is_named : named enables byte ≡ true
  pub place_is : x ≡ at + byte

places_elim : (at enables x : ℕ) → x ∈ places_at at enables → NamedAt at enables x
places_elim at enables x m = first (Memᴰ.append_cases (one_if (named enables 0) (at + 0)) m)
  where
    found : (i : ℕ) → i < 4 → x ∈ one_if (named enables i) (at + i) → NamedAt at enables x
    found i h n = let e = one_if_elim (named enables i) (at + i) x n in record { byte = i; in_dword = h; is_named = e.0; place_is = e.1 }

    fourth : (x ∈ one_if (named enables 3) (at + 3)) ⊎ (x ∈ []) → NamedAt at enables x
    fourth (inl n) = found 3 (omega arith) n
    fourth (inr n) = absurd (Memᴰ.not-nil n)

    third : (x ∈ one_if (named enables 2) (at + 2)) ⊎ (x ∈ one_if (named enables 3) (at + 3) ++ []) → NamedAt at enables x
    third (inl n) = found 2 (omega arith) n
    third (inr n) = fourth (Memᴰ.append_cases (one_if (named enables 3) (at + 3)) n)

    second : (x ∈ one_if (named enables 1) (at + 1)) ⊎ (x ∈ one_if (named enables 2) (at + 2) ++ (one_if (named enables 3) (at + 3) ++ []))
        → NamedAt at enables x
    second (inl n) = found 1 (omega arith) n
    second (inr n) = third (Memᴰ.append_cases (one_if (named enables 2) (at + 2)) n)

    first : (x ∈ one_if (named enables 0) (at + 0))
        ⊎ (x ∈ one_if (named enables 1) (at + 1) ++ (one_if (named enables 2) (at + 2) ++ (one_if (named enables 3) (at + 3) ++ [])))
        → NamedAt at enables x
    first (inl n) = found 0 (omega arith) n
    first (inr n) = second (Memᴰ.append_cases (one_if (named enables 1) (at + 1)) n)

places_intro : (at enables i : ℕ) → i < 4 → named enables i ≡ true → at + i ∈ places_at at enables
places_intro at enables zero h e = Memᴰ.append_left _ (one_if_intro _ (at + 0) e)
places_intro at enables (suc zero) h e = Memᴰ.append_right (one_if (named enables 0) (at + 0))
    (Memᴰ.append_left _ (one_if_intro _ (at + 1) e))
places_intro at enables (suc (suc zero)) h e =
    Memᴰ.append_right (one_if (named enables 0) (at + 0))
    (Memᴰ.append_right (one_if (named enables 1) (at + 1)) (Memᴰ.append_left _ (one_if_intro _ (at + 2) e)))
places_intro at enables (suc (suc (suc zero))) h e =
    Memᴰ.append_right (one_if (named enables 0) (at + 0))
    (Memᴰ.append_right (one_if (named enables 1) (at + 1))
    (Memᴰ.append_right (one_if (named enables 2) (at + 2)) (Memᴰ.append_left _ (one_if_intro _ (at + 3) e))))
places_intro at enables (suc (suc (suc (suc i)))) h e = absurd (omega arith)

-- of several writes
pub all_places_elim : (ws : List Write) (x : ℕ) → x ∈ all_places ws
    → (w : Write) × (w ∈ ws) × NamedAt (register_place w.number w.offset) w.enables x
unfolding all_places places_of
all_places_elim ws x m =
    let (w, there, n) = flat_elim places_of ws m in
    (w, there, places_elim (register_place w.number w.offset) w.enables x n)

pub all_places_intro : (ws : List Write) (w : Write) → w ∈ ws → (i : ℕ) → i < 4 → named w.enables i ≡ true
    → register_place w.number w.offset + i ∈ all_places ws
unfolding all_places places_of
all_places_intro ws w m i h e = flat_intro places_of ws m (places_intro (register_place w.number w.offset) w.enables i h e)

pub all_places_append : (ws vs : List Write) → all_places (ws ++ vs) ≡ all_places ws ++ all_places vs
unfolding all_places flat_map
all_places_append [] vs = refl
all_places_append (w ∷ ws) vs = ap (places_of w ++◌) (all_places_append ws vs)
    ∙ sym (append_assoc (places_of w) (all_places ws) (all_places vs))
