-- The place of a key and the places in use, in the words of the two loops over places. Assumes nothing.
use Rattle.std.specs.Prelude.{◌≡◌, Bool, true, false, not, cond, count_by, length, get_or, drop, eqb}
use Rattle.std.proofs.Math.Path.{refl}
use Rattle.std.proofs.Common.{subst, zero-add, arith, eq-eqb, ne_eqb}
use mathlib.Core.List.{List, [], ◌∷◌}
use Prim.Native.Nat.{ℕ, zero, suc, ◌+◌, ◌≤◌, ◌<◌}
use Rattle.std.proofs.lemmas.Bool.{eqb-false}
use Rattle.std.proofs.lemmas.List.Recursion.{is_count_by}
use Rattle.arith.specs.BoolLaws.{false_of_or}
use Rattle.ledger.specs.Words.{key_in, used_by, place_of, in_use}
use Rattle.ledger.specs.WordsLaws.{is_among_four}

-- ## Where a key is found

module _ (k : ℕ) where
  place_drop : (i : ℕ) (ws : List ℕ) → i < length ws
      → place_of k (drop i ws) ≡ cond (eqb (key_in (get_or ws i 0)) k) 0 (suc (place_of k (drop (suc i) ws)))
  unfolding place_of
  place_drop i [] h = absurd (omega arith)
  place_drop zero (w ∷ ws) h = refl
  place_drop (suc i) (w ∷ ws) h = place_drop i ws (omega arith)

  place_past : (i : ℕ) (ws : List ℕ) → length ws ≤ i → place_of k (drop i ws) ≡ 0
  unfolding place_of
  place_past zero [] h = refl
  place_past (suc i) [] h = refl
  place_past zero (w ∷ ws) h = absurd (omega arith)
  place_past (suc i) (w ∷ ws) h = place_past i ws (omega arith)

  place_hit : (i : ℕ) (ws : List ℕ) → i < length ws → key_in (get_or ws i 0) ≡ k → place_of k (drop i ws) ≡ 0
  place_hit i ws h same = rw (place_drop i ws h, eq-eqb (key_in (get_or ws i 0)) k same)

  place_miss : (i : ℕ) (ws : List ℕ) → i < length ws → (key_in (get_or ws i 0) ≡ k → ⊥)
      → place_of k (drop i ws) ≡ suc (place_of k (drop (suc i) ws))
  place_miss i ws h other = rw (place_drop i ws h, ne_eqb (key_in (get_or ws i 0)) k other)

  -- in the words of the search, which has passed i places
  pub find_hit : (i all : ℕ) (ws : List ℕ) → i < length ws → i + place_of k (drop i ws) ≡ all → key_in (get_or ws i 0) ≡ k → i ≡ all
  find_hit i all ws h e same = omega (arith, place_hit i ws h same, e)

  pub find_miss : (i all : ℕ) (ws : List ℕ) → i < length ws → i + place_of k (drop i ws) ≡ all → (key_in (get_or ws i 0) ≡ k → ⊥)
      → i + 1 + place_of k (drop (i + 1) ws) ≡ all
  find_miss i all ws h e other =
      let one : i + 1 ≡ suc i = omega arith in rw one (omega (arith, place_miss i ws h other, e))

  pub find_end : (i all : ℕ) (ws : List ℕ) → length ws ≤ i → i + place_of k (drop i ws) ≡ all → i ≡ all
  find_end i all ws h e = omega (arith, place_past i ws h, e)

module _ (k i all : ℕ) (ws : List ℕ) where
  skip_one : (j next : ℕ) → j + 1 ≡ next → j < length ws → j + place_of k (drop j ws) ≡ all → eqb (key_in (get_or ws j 0)) k ≡ false
      → next + place_of k (drop next ws) ≡ all
  skip_one j next step h e none =
      subst (λ (n : ℕ). n + place_of k (drop n ws) ≡ all) step (find_miss k j all ws h e (eqb-false (key_in (get_or ws j 0)) k none))

  -- in the words of the search by fours
  pub skip_four : i + 4 ≤ length ws → i + place_of k (drop i ws) ≡ all → is_among_four k ws i ≡ false
      → i + 4 + place_of k (drop (i + 4) ws) ≡ all
  skip_four room e none =
      let (first, rest) = false_of_or _ _ none in
      let (second, more) = false_of_or _ _ rest in
      let (third, fourth) = false_of_or _ _ more in
      let e1 = skip_one i (i + 1) refl (omega arith) e first in
      let e2 = skip_one (i + 1) (i + 2) (omega arith) (omega arith) e1 second in
      let e3 = skip_one (i + 2) (i + 3) (omega arith) (omega arith) e2 third in
      skip_one (i + 3) (i + 4) (omega arith) (omega arith) e3 fourth

-- ## How many places are in use

pub in_use_drop : (i : ℕ) (ws : List ℕ) → i < length ws → in_use (drop i ws) ≡ used_by (get_or ws i 0) + in_use (drop (suc i) ws)
unfolding in_use
in_use_drop i [] h = absurd (omega arith)
in_use_drop zero (w ∷ ws) h = refl
in_use_drop (suc i) (w ∷ ws) h = in_use_drop i ws (omega arith)

in_use_past : (i : ℕ) (ws : List ℕ) → length ws ≤ i → in_use (drop i ws) ≡ 0
unfolding in_use
in_use_past zero [] h = refl
in_use_past (suc i) [] h = refl
in_use_past zero (w ∷ ws) h = absurd (omega arith)
in_use_past (suc i) (w ∷ ws) h = in_use_past i ws (omega arith)

-- in the words of the count, which has passed i places
pub count_turn : (n i all used : ℕ) (ws : List ℕ) → i < length ws → n + in_use (drop i ws) ≡ all → used ≡ used_by (get_or ws i 0)
    → n + used + in_use (drop (i + 1) ws) ≡ all
count_turn n i all used ws h e same =
    let one : i + 1 ≡ suc i = omega arith in rw one (omega (arith, in_use_drop i ws h, e, same))

pub count_end : (n i all : ℕ) (ws : List ℕ) → length ws ≤ i → n + in_use (drop i ws) ≡ all → n ≡ all
count_end n i all ws h e = omega (arith, in_use_past i ws h, e)

-- the code counts them
pub in_use_count : (ws : List ℕ) → in_use ws ≡ count_by (λ w. not (eqb (key_in w) 0)) ws
unfolding in_use
in_use_count = is_count_by in_use (λ w. not (eqb (key_in w) 0)) refl (λ w ws. one_more (eqb (key_in w) 0) (in_use ws))
  where
    one_more : (free : Bool) (n : ℕ) → cond free 0 1 + n ≡ cond (not free) (1 + n) n
    one_more true n = zero-add n
    one_more false n = refl
