-- Slots put in piece by piece, by a loop: putting in what is left from here on gives what putting in all from the start gives. Assumes
-- nothing.
use Rattle.std.specs.Prelude.{◌≡◌, refl, ℕ, ◌+◌, ◌≤◌}
use Rattle.std.proofs.Common.{sym, ◌∙◌, add-one, arith, length-append}
use Rattle.std.proofs.Math.Path.{ap}
use mathlib.Core.List.{List, [], ◌∷◌, ◌++◌}
use Rattle.std.proofs.Math.ListN.{length}
use Rattle.index_slots.specs.Slots.{Slot, put_slot, stored, placed}
use Rattle.index_slots.specs.PlacedLaws.{placed_append}

-- ## One piece: o₁ and count₁ are told after it

module _ (n : ℕ) (xs : List Slot) (count : ℕ) (o : List ℕ) where
  pub none_placed : xs ≡ [] → (o ≡ placed count n xs o) × (count ≡ count + length xs)
  unfolding placed stored
  none_placed e = rw e (refl, omega arith)

  pub one_placed : (x : Slot) → xs ≡ x ∷ [] → (o₁ : List ℕ) → o₁ ≡ put_slot o n (count + 1) x
      → (o₁ ≡ placed count n xs o) × (count + 1 ≡ count + length xs)
  unfolding placed stored
  one_placed x e o₁ q = rw e (q ∙ ap (λ (k : ℕ). put_slot o n k x) (add-one count), refl)

  pub same_placed : (ys : List Slot) → xs ≡ ys → (o₁ : List ℕ) (count₁ : ℕ) → (o₁ ≡ placed count n ys o) × (count₁ ≡ count + length ys)
      → (o₁ ≡ placed count n xs o) × (count₁ ≡ count + length xs)
  same_placed ys e o₁ count₁ h = rw e h

module _ (xs : List Slot) (count m : ℕ) (room : count + length xs ≤ m) where
  pub one_room : (x : Slot) → xs ≡ x ∷ [] → count + 1 ≤ m
  one_room x e = omega (arith, room, ap length e)

  pub same_room : (ys : List Slot) → xs ≡ ys → count + length ys ≤ m
  same_room ys e = omega (arith, room, ap length e)

-- ## Piece by piece

-- `all` from `count₀` on in `o₀`; `rest` is left, from `count` on in `o`
pub record Placing (n : ℕ) (all : List Slot) (count₀ : ℕ) (o₀ : List ℕ) (rest : List Slot) (count : ℕ) (o : List ℕ) : Type 0 where
  pub same_length : length o ≡ length o₀
  pub rest_placed_lem : placed count n rest o ≡ placed count₀ n all o₀
  pub counted : count + length rest ≡ count₀ + length all

module _ (n : ℕ) (all : List Slot) (count₀ : ℕ) (o₀ : List ℕ) where
  pub placing_start : (rest : List Slot) → rest ≡ all → Placing n all count₀ o₀ rest count₀ o₀
  placing_start rest e = rw e (record { same_length = refl; rest_placed_lem = refl; counted = refl })

  module _ (rest : List Slot) (count : ℕ) (o : List ℕ) (p : Placing n all count₀ o₀ rest count o) where
    pub placing_end : rest ≡ [] → (o ≡ placed count₀ n all o₀) × (count ≡ count₀ + length all)
    unfolding placed stored
    placing_end e = (sym (ap (λ (xs : List Slot). placed count n xs o) e) ∙ p.rest_placed_lem, omega (arith, p.counted, ap length e))

    -- xs come next
    module _ (xs later : List Slot) (e : rest ≡ xs ++ later) where
      length_rest : length rest ≡ length xs + length later
      length_rest = ap length e ∙ length-append xs later

      pub placing_room : (m : ℕ) → count₀ + length all ≤ m → count + length xs ≤ m
      placing_room m h = omega (arith, h, p.counted, length_rest)

      pub placing_next : (o₁ : List ℕ) (count₁ : ℕ) → length o₁ ≡ length o → o₁ ≡ placed count n xs o → count₁ ≡ count + length xs
          → Placing n all count₀ o₀ later count₁ o₁
      placing_next o₁ count₁ l q c =
          record {
            same_length = l ∙ p.same_length;
            rest_placed_lem =
                rw (q, c)
                (sym (placed_append count n xs later o) ∙ ap (λ (ys : List Slot). placed count n ys o) (sym e) ∙ p.rest_placed_lem);
            counted = omega (arith, c, p.counted, length_rest);
          }
