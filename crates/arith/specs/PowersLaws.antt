-- The laws of powers of two: their exponents, told by x & (x - 1), as a mask, and which divides which. Assumes nothing.
use Rattle.std.specs.Prelude.{◌≡◌, refl, ℕ, zero, suc, ◌+◌, ◌-◌, ◌/◌, ◌%◌, ◌^◌, ◌≤◌, ◌<◌, max}
use Rattle.std.proofs.Common.{sym, ap, ◌∙◌, ⊎_elim, arith, pow-suc, lt_of_not-le, not-le_of_lt, le_of_suc-le-suc, pow_pos, pow_mono, pow-add}
use Rattle.std.proofs.Math.Nat.{mod_self, mul-mod_right, max-eq_left, max-eq_right}
use Rattle.std.proofs.Math.Arith.{bin_ind}
use Rattle.std.specs.Int.Bits.{bit_and, and_step, and_self}
use Rattle.std.proofs.lemmas.Nat.{and_mask}
use Rattle.std.proofs.Math.Pow.{pow-lt}
use Rattle.arith.specs.Order.{le_or_lt}
use Rattle.arith.specs.Powers.{PowerOfTwo}
use Rattle.arith.specs.Align.{Multiple}

pub pos_of_power : {n : ℕ} → PowerOfTwo n → 0 < n
pos_of_power (k, e) = rw e (pow_pos k)

-- Of two powers the smaller has the smaller exponent
pub lt_of_pow_lt : {j k : ℕ} → 2 ^ j < 2 ^ k → j < k
lt_of_pow_lt h = lt_of_not-le (λ g. not-le_of_lt h (pow_mono g))

pub le_of_pow_le : {j k : ℕ} → 2 ^ j ≤ 2 ^ k → j ≤ k
le_of_pow_le h = le_of_suc-le-suc (lt_of_not-le (λ g. not-le_of_lt (pow-lt g) h))

-- A power of two that fits 64 bits leaves room for 2^62
pub le_of_power : (a : ℕ) → PowerOfTwo a → a < 2 ^ 64 → a ≤ 2 ^ 63
le_of_power a (k, e) h = rw e (pow_mono (lt_63 (rw e at h)))
  where
    lt_63 : 2 ^ k < 2 ^ 64 → k ≤ 63
    lt_63 g = omega (arith, lt_of_pow_lt {j = k} {k = 64} g)

-- A mask below a power of two takes the remainder
pub and_pred_power : (n size : ℕ) → PowerOfTwo size → bit_and n (size - 1) ≡ n % size
and_pred_power n size (k, e) = rw e (and_mask n k)

pub and_pred_zero_of_power : (n : ℕ) → PowerOfTwo n → bit_and n (n - 1) ≡ 0
and_pred_zero_of_power n p = and_pred_power n n p ∙ mod_self n

pub power_of_and_pred_zero : (n : ℕ) → 0 < n → bit_and n (n - 1) ≡ 0 → PowerOfTwo n
power_of_and_pred_zero = bin_ind (λ (n : ℕ). 0 < n → bit_and n (n - 1) ≡ 0 → PowerOfTwo n) (λ p e. absurd (¬_lt p)) digit
  where
    ¬_lt : 0 < zero → ⊥
    ¬_lt p = omega arith

    digit : (n : ℕ) → (0 < n / 2 → bit_and (n / 2) (n / 2 - 1) ≡ 0 → PowerOfTwo (n / 2)) → 0 < n → bit_and n (n - 1) ≡ 0 → PowerOfTwo n
    digit n half p e = go (n % 2) refl
      where
        go : (b : ℕ) → n % 2 ≡ b → PowerOfTwo n
        go zero even =
            let q : (n - 1) / 2 ≡ n / 2 - 1 = omega arith in
            let z : bit_and (n / 2) (n / 2 - 1) ≡ 0 = omega (arith, sym e ∙ and_step n (n - 1), ap (bit_and (n / 2)) q) in
            let (k, f) = half (omega arith) z in
            (suc k, omega (arith, pow-suc 2 k))
        go (suc b) odd =
            let q : (n - 1) / 2 ≡ n / 2 = omega arith in
            (0, omega (arith, sym e ∙ and_step n (n - 1), ap (bit_and (n / 2)) q ∙ and_self (n / 2)))

-- Of two powers of two the smaller divides the larger
pub multiple_of_le : {a b : ℕ} → PowerOfTwo a → PowerOfTwo b → a ≤ b → Multiple a b
multiple_of_le {a} {b} (i, d) (j, e) h =
    ⊎_elim
    (λ (l : i ≤ j).
    let s : i + (j - i) ≡ j = omega arith in
    rw (d, e) (ap (λ (n : ℕ). 2 ^ n % 2 ^ i) (sym s) ∙ ap (λ (n : ℕ). n % 2 ^ i) (pow-add 2 i (j - i))
    ∙ mul-mod_right (2 ^ i) (2 ^ (j - i))))
    (λ (l : j < i). let g : b < a = rw (d, e) (pow-lt l) in absurd (omega arith))
    (le_or_lt i j)

pub power_max : {a b : ℕ} → PowerOfTwo a → PowerOfTwo b → PowerOfTwo (max a b)
power_max {a} {b} p q =
    ⊎_elim (λ (l : a ≤ b). (q.0, max-eq_right l ∙ q.1)) (λ (l : b < a). (p.0, max-eq_left {n = a} {m = b} (omega arith) ∙ p.1))
    (le_or_lt a b)
