-- What stands at the place of a key, how many places are in use after one has changed, and what a word holds. Assumes nothing.
use Rattle.std.specs.Prelude.{◌≡◌, Bool, get_or, set, replicate, ltb}
use Rattle.std.proofs.Math.Path.{refl}
use Rattle.std.proofs.Common.{sym, ap, ◌∙◌, arith}
use Rattle.std.proofs.Math.Bool.{true, false, cond}
use mathlib.Core.List.{List, [], ◌∷◌}
use Prim.Native.Nat.{ℕ, zero, suc, ◌+◌, ◌*◌, ◌-◌, ◌/◌, ◌%◌, ◌≤◌, ◌<◌}
use Rattle.std.proofs.Math.ListN.{length}
use Rattle.std.proofs.Math.Dec.{eqb}
use borrow.Author.Tests.{eq-eqb, ne_eqb, eqb-true, eqb-false, ltb-true, ltb-false}
use Rattle.ledger.specs.Words.{half, key_in, left_in, is_read, is_config, is_locked, word_of, used_by, place_of, in_use}

-- ## The place of a key

module _ (k : ℕ) where
  pub place_holds : (ws : List ℕ) → place_of k ws < length ws → key_in (get_or ws (place_of k ws) 0) ≡ k
  unfolding place_of
  place_holds [] h = absurd (omega arith)
  place_holds (w ∷ ws) h = go (eqb (key_in w) k) refl h (place_holds ws)
    where
      go : (b : Bool) → eqb (key_in w) k ≡ b → cond b 0 (suc (place_of k ws)) < suc (length ws)
          → (place_of k ws < length ws → key_in (get_or ws (place_of k ws) 0) ≡ k)
          → key_in (get_or (w ∷ ws) (cond b 0 (suc (place_of k ws))) 0) ≡ k
      go true e h later = eqb-true (key_in w) k e
      go false e h later = later (omega arith)

  pub place_before : (ws : List ℕ) (i : ℕ) → i < place_of k ws → key_in (get_or ws i 0) ≡ k → ⊥
  unfolding place_of
  place_before [] i h = absurd (omega arith)
  place_before (w ∷ ws) i h = go (eqb (key_in w) k) refl i h (place_before ws)
    where
      go : (b : Bool) → eqb (key_in w) k ≡ b → (i : ℕ) → i < cond b 0 (suc (place_of k ws))
          → ((j : ℕ) → j < place_of k ws → key_in (get_or ws j 0) ≡ k → ⊥)
          → key_in (get_or (w ∷ ws) i 0) ≡ k → ⊥
      go true e i h later = absurd (omega arith)
      go false e zero h later = eqb-false (key_in w) k e
      go false e (suc i) h later = later i (omega arith)

-- past the end there is no key
pub past_free : (ws : List ℕ) (i : ℕ) → length ws ≤ i → key_in (get_or ws i 0) ≡ 0
past_free [] i h = refl
past_free (w ∷ ws) zero h = absurd (omega arith)
past_free (w ∷ ws) (suc i) h = past_free ws i (omega arith)

-- a place that holds a key is one of the ledger's
pub inside_of_key : (k : ℕ) (ws : List ℕ) (i : ℕ) → key_in (get_or ws i 0) ≡ k → (k ≡ 0 → ⊥) → i < length ws
inside_of_key k ws i e some = go (ltb i (length ws)) refl
  where
    go : (b : Bool) → ltb i (length ws) ≡ b → i < length ws
    go true h = ltb-true i (length ws) h
    go false h = absurd (some (sym e ∙ past_free ws i (ltb-false i (length ws) h)))

pub place_none : (k : ℕ) (ws : List ℕ) → length ws ≤ place_of k ws → (k ≡ 0 → ⊥) → (i : ℕ) → key_in (get_or ws i 0) ≡ k → ⊥
place_none k ws none some i e = place_before k ws i (omega (arith, inside_of_key k ws i e some, none)) e

pub place_of_key : (k : ℕ) (ws : List ℕ) (i : ℕ) → key_in (get_or ws i 0) ≡ k → (k ≡ 0 → ⊥) → place_of k ws < length ws
place_of_key k ws i e some = go (ltb (place_of k ws) (length ws)) refl
  where
    go : (b : Bool) → ltb (place_of k ws) (length ws) ≡ b → place_of k ws < length ws
    go true h = ltb-true (place_of k ws) (length ws) h
    go false h = absurd (place_none k ws (ltb-false (place_of k ws) (length ws) h) some i e)

-- ## How many places are in use

used_le : (b : Bool) → cond b 0 1 ≤ 1
used_le true = omega arith
used_le false = omega arith

pub used_of_key : (w : ℕ) → (key_in w ≡ 0 → ⊥) → used_by w ≡ 1
used_of_key w h = rw (ne_eqb (key_in w) 0 h)

pub used_of_free : (w : ℕ) → key_in w ≡ 0 → used_by w ≡ 0
used_of_free w h = rw (eq-eqb (key_in w) 0 h)

-- one place changed: the count moves by that place
pub in_use_set : (ws : List ℕ) (i w : ℕ) → i < length ws → in_use (set ws i w) + used_by (get_or ws i 0) ≡ in_use ws + used_by w
unfolding in_use
in_use_set [] i w h = absurd (omega arith)
in_use_set (v ∷ ws) zero w h = omega arith
in_use_set (v ∷ ws) (suc i) w h = omega (arith, in_use_set ws i w (omega arith))

pub in_use_le : (ws : List ℕ) → in_use ws ≤ length ws
unfolding in_use
in_use_le [] = omega arith
in_use_le (w ∷ ws) = omega (arith, in_use_le ws, used_le (eqb (key_in w) 0))

pub in_use_zeros : (n : ℕ) → in_use (replicate n 0) ≡ 0
unfolding in_use
in_use_zeros zero = refl
in_use_zeros (suc n) = omega (arith, in_use_zeros n)

-- no place is free exactly when all are in use
pub full_of_none : (ws : List ℕ) → length ws ≤ place_of 0 ws → in_use ws ≡ length ws
unfolding place_of in_use
full_of_none [] h = refl
full_of_none (w ∷ ws) h = go (eqb (key_in w) 0) h (full_of_none ws)
  where
    go : (b : Bool) → suc (length ws) ≤ cond b 0 (suc (place_of 0 ws)) → (length ws ≤ place_of 0 ws → in_use ws ≡ length ws)
        → cond b 0 1 + in_use ws ≡ suc (length ws)
    go true h later = absurd (omega arith)
    go false h later = omega (arith, later (omega arith))

pub none_of_full : (ws : List ℕ) → in_use ws ≡ length ws → length ws ≤ place_of 0 ws
unfolding place_of in_use
none_of_full [] h = omega arith
none_of_full (w ∷ ws) h = go (eqb (key_in w) 0) h (none_of_full ws)
  where
    go : (b : Bool) → cond b 0 1 + in_use ws ≡ suc (length ws) → (in_use ws ≡ length ws → length ws ≤ place_of 0 ws)
        → suc (length ws) ≤ cond b 0 (suc (place_of 0 ws))
    go true h later = absurd (omega (arith, in_use_le ws))
    go false h later = omega (arith, later (omega arith))

-- ## What a word tells

module _ (k n c : ℕ) (small : n * 8 + c < half) where
  pub key_in_word : key_in (word_of k n c) ≡ k
  key_in_word = omega (arith, small)

  pub left_in_word : c < 8 → left_in (word_of k n c) ≡ n
  left_in_word h = omega (arith, small)

module _ (k n c : ℕ) where
  pub word_used : (k ≡ 0 → ⊥) → key_in (word_of k n c) ≡ 0 → ⊥
  word_used some e = some (omega (arith, e))

  pub is_read_word : is_read (word_of k n c) ≡ is_read c
  is_read_word = let e : (k * half + n * 8 + c) / 4 % 2 ≡ c / 4 % 2 = omega arith in ap (λ (x : ℕ). eqb x 1) e

  pub is_config_word : is_config (word_of k n c) ≡ is_config c
  is_config_word = let e : (k * half + n * 8 + c) / 2 % 2 ≡ c / 2 % 2 = omega arith in ap (λ (x : ℕ). eqb x 1) e

  pub is_locked_word : is_locked (word_of k n c) ≡ is_locked c
  is_locked_word = let e : (k * half + n * 8 + c) % 2 ≡ c % 2 = omega arith in ap (λ (x : ℕ). eqb x 1) e

-- a part of what is left taken away
module _ (w d : ℕ) (h : d ≤ left_in w) where
  pub key_in_less : key_in (w - 8 * d) ≡ key_in w
  key_in_less = omega (arith, h)

  pub left_in_less : left_in (w - 8 * d) + d ≡ left_in w
  left_in_less = omega (arith, h)

  pub is_read_less : is_read (w - 8 * d) ≡ is_read w
  is_read_less = let e : (w - 8 * d) / 4 % 2 ≡ w / 4 % 2 = omega (arith, h) in ap (λ (x : ℕ). eqb x 1) e

  pub is_config_less : is_config (w - 8 * d) ≡ is_config w
  is_config_less = let e : (w - 8 * d) / 2 % 2 ≡ w / 2 % 2 = omega (arith, h) in ap (λ (x : ℕ). eqb x 1) e

  pub is_locked_less : is_locked (w - 8 * d) ≡ is_locked w
  is_locked_less = let e : (w - 8 * d) % 2 ≡ w % 2 = omega (arith, h) in ap (λ (x : ℕ). eqb x 1) e
