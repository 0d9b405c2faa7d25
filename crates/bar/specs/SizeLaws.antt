-- Sizes, once over width w and least size bit k: a mask has a size exactly when it is ones from a bit j with k ≤ j < w to the top, and then
-- it is 2 ^ j. Assumes nothing.
use Rattle.std.specs.Prelude.{◌≡◌, refl, Bool, true, false, cond, ◌⊎◌, ℕ, zero, suc, ◌+◌, ◌-◌, ◌^◌, ◌<◌, ◌≤◌, eqb}
use Rattle.std.proofs.Common.{sym, ap, ◌∙◌, inl, inr, ⊎_elim, arith, eqb-true, pow_pos, pow_mono}
use Rattle.std.proofs.lemmas.Bool.{eqb-false}
use Rattle.std.proofs.Math.Arith.{lt_of_le-ne}
use Rattle.std.specs.Int.Bits.{bit_and}
use Rattle.std.proofs.Math.Pow.{pow-lt}
use Rattle.arith.specs.PowersLaws.{lt_of_pow_lt, power_of_and_pred_zero, and_pred_zero_of_power, le_of_pow_le}
use Rattle.bar.specs.Bar.{ones_from, size_from, size_of}

-- a mask of w bits with its size bit at k or above
pub record SizeBit (w k mask size : ℕ) : Type 0 where
  pub bit : ℕ
  pub least : k ≤ bit
  pub most : bit < w
  pub ones : mask ≡ ones_from w bit
  pub power : size ≡ 2 ^ bit

sized_from : (w k n mask : ℕ) → n ≤ w - k → (size_from w k n mask ≡ 0) ⊎ SizeBit w k mask (size_from w k n mask)
unfolding size_from
sized_from w k zero mask f = inl refl
sized_from w k (suc n) mask f = go (eqb mask (ones_from w k)) refl (sized_from w (suc k) n mask (omega arith))
  where
    later : ℕ
    later = size_from w (suc k) n mask

    go : (b : Bool) → eqb mask (ones_from w k) ≡ b → (later ≡ 0) ⊎ SizeBit w (suc k) mask later → (cond b (2 ^ k) later ≡ 0)
        ⊎ SizeBit w k mask (cond b (2 ^ k) later)
    go true e i = inr (record { bit = k; least = omega arith; most = omega arith; ones = eqb-true _ _ e; power = refl })
    go false e (inl z) = inl z
    go false e (inr s) = inr (record { bit = s.bit; least = omega arith; most = s.most; ones = s.ones; power = s.power })

-- ## What a size says

-- a mask has no size, or its size bit
pub size_cases : (w k mask : ℕ) → (size_of w k mask ≡ 0) ⊎ SizeBit w k mask (size_of w k mask)
size_cases w k mask = sized_from w k (w - k) mask (omega arith)

pub power_of_size : (w k mask size : ℕ) → size_of w k mask ≡ size → 0 < size → SizeBit w k mask size
power_of_size w k mask size e p =
    ⊎_elim (λ z. absurd (never z)) (λ s. rw e at s) (size_cases w k mask)
  where
    never : size_of w k mask ≡ 0 → ⊥
    never z = omega arith

-- ## How a size is found

-- ones from bit j on have the size 2 ^ j
size_from_ones : (w k n j : ℕ) → k ≤ j → j < k + n → j < w → size_from w k n (ones_from w j) ≡ 2 ^ j
unfolding size_from
size_from_ones w k zero j l h m = absurd none
  where
    none : ⊥
    none = omega arith
size_from_ones w k (suc n) j l h m = go (eqb (ones_from w j) (ones_from w k)) refl (λ d. size_from_ones w (suc k) n j d (omega arith) m)
  where
    go : (b : Bool) → eqb (ones_from w j) (ones_from w k) ≡ b → (suc k ≤ j → size_from w (suc k) n (ones_from w j) ≡ 2 ^ j)
        → cond b (2 ^ k) (size_from w (suc k) n (ones_from w j)) ≡ 2 ^ j
    go true e on = omega (arith, eqb-true (ones_from w j) (ones_from w k) e, pow-lt m, pow_mono l)
    go false e on = on (lt_of_le-ne l (λ s. eqb-false _ _ e (ap (ones_from w) (sym s))))

size_of_ones : (w k j : ℕ) → k ≤ j → j < w → size_of w k (ones_from w j) ≡ 2 ^ j
size_of_ones w k j l m = size_from_ones w k (w - k) j l (omega arith) m

-- a mask that is ones from no bit has no size
size_zero_of_none : (w k mask : ℕ) → (SizeBit w k mask (size_of w k mask) → ⊥) → size_of w k mask ≡ 0
size_zero_of_none w k mask none = ⊎_elim (λ z. z) (λ s. absurd (none s)) (size_cases w k mask)

-- ## The size as the complement plus one, in the words of the code: ones + 1 is 2 ^ w, least is 2 ^ k

module _ (w k ones least mask : ℕ) (width : ones + 1 ≡ 2 ^ w) (bottom : least ≡ 2 ^ k) where
  pub size_zero_of_zero : mask ≡ 0 → size_of w k mask ≡ 0
  size_zero_of_zero z = size_zero_of_none w k mask (λ s. omega (arith, pow-lt s.most))

  pub size_zero_of_past : ones < mask → size_of w k mask ≡ 0
  size_zero_of_past h = size_zero_of_none w k mask (λ s. omega (arith, pow_pos s.bit))

  pub size_zero_of_small : ones - mask + 1 < least → size_of w k mask ≡ 0
  size_zero_of_small h = size_zero_of_none w k mask (λ s. omega (arith, pow-lt s.most, pow_mono s.least))

  pub size_zero_of_mixed : (bit_and (ones - mask + 1) (ones - mask + 1 - 1) ≡ 0 → ⊥) → size_of w k mask ≡ 0
  size_zero_of_mixed h =
      size_zero_of_none w k mask
      (λ s. h (and_pred_zero_of_power (ones - mask + 1) (s.bit, omega (arith, pow-lt s.most, pow_pos s.bit))))

  pub size_of_complement : 0 < mask → mask ≤ ones → least ≤ ones - mask + 1 → bit_and (ones - mask + 1) (ones - mask + 1 - 1) ≡ 0
      → size_of w k mask ≡ ones - mask + 1
  size_of_complement p f l e =
      let (j, q) = power_of_and_pred_zero (ones - mask + 1) (omega arith) e in
      let o : mask ≡ ones_from w j = omega arith in
      ap (size_of w k) o
      ∙ size_of_ones w k j (le_of_pow_le (omega arith)) (lt_of_pow_lt (omega arith))
      ∙ sym q
