-- Nothing is marked at first, and `marked` marks one ID and no other. Assumes nothing.
use Rattle.std.specs.Prelude.{◌≡◌, refl, Bool, true, false, ◌||◌, List, ℕ, zero, suc, ◌+◌, ◌-◌, ◌*◌, ◌/◌, ◌%◌, ◌^◌, ◌<◌, max, length, get_or, set, replicate, eqb, ltb}
use Rattle.std.proofs.Common.{sym, ap, ◌∙◌, suc-le-suc, arith, le_of_suc-le-suc, mod-lt, mod-eq_of_lt, one-mul, zero-lt-suc, get_or-set_same, get_or-set_other, pow-add, shl_exact, eq-eqb, ne_eqb, eqb-true, ltb-true, ltb-false}
use Rattle.std.proofs.Math.Nat.{div-eq_of_lt, mul-add-mod_self_right, max-le, zero-div}
use Rattle.std.specs.Int.Bits.{bit_or, or_step, shifted_even}
use Rattle.std.proofs.lemmas.Nat.{or_shr, shl-shr}
use Rattle.std.proofs.Math.Pow.{pow-lt}
use Rattle.std.proofs.lemmas.Bool.{eqb-false}
use Rattle.sheet_marks.specs.Marks.{has_bit, is_marked, marked}

-- ## Bits of a word

or_odd : (a b : ℕ) → bit_or a b % 2 ≡ max (a % 2) (b % 2)
or_odd a b =
    ap (λ (x : ℕ). x % 2) (or_step a b)
    ∙ mul-add-mod_self_right (bit_or (a / 2) (b / 2)) 2 (max (a % 2) (b % 2))
    ∙ mod-eq_of_lt (suc-le-suc (max-le (le_of_suc-le-suc (mod-lt a (zero-lt-suc 1))) (le_of_suc-le-suc (mod-lt b (zero-lt-suc 1)))))

max_one : (x y : ℕ) → x < 2 → y < 2 → eqb (max x y) 1 ≡ (eqb y 1 || eqb x 1)
max_one zero zero h k = refl
max_one zero (suc zero) h k = refl
max_one zero (suc (suc y)) h k = absurd (omega arith)
max_one (suc zero) zero h k = refl
max_one (suc zero) (suc zero) h k = refl
max_one (suc zero) (suc (suc y)) h k = absurd (omega arith)
max_one (suc (suc x)) y h k = absurd (omega arith)

-- a power of two has one bit
power_above : (j d : ℕ) → 2 ^ (suc d + j) / 2 ^ j % 2 ≡ 0
power_above j d =
    ap (λ (x : ℕ). x / 2 ^ j % 2) (pow-add 2 (suc d) j) ∙ ap (λ (x : ℕ). x % 2) (shl-shr (2 ^ suc d) j)
    ∙ ap (λ (x : ℕ). x % 2) (sym (one-mul (2 ^ suc d))) ∙ shifted_even 1 d

has_bit_power : (k j : ℕ) → has_bit (2 ^ k) j ≡ eqb j k
has_bit_power k j = go (ltb j k) refl (ltb k j) refl
  where
    go : (below : Bool) → ltb j k ≡ below → (above : Bool) → ltb k j ≡ above → has_bit (2 ^ k) j ≡ eqb j k
    go true l above _ =
        let h = ltb-true j k l in
        let e : k ≡ suc (k - j - 1) + j = omega arith in
        ap (λ (x : ℕ). has_bit (2 ^ x) j) e ∙ ap (λ (x : ℕ). eqb x 1) (power_above j (k - j - 1)) ∙ sym (ne_eqb j k (λ q. omega arith))
    go false _ true l =
        let h = ltb-true k j l in
        ap (λ (x : ℕ). eqb (x % 2) 1) (div-eq_of_lt (pow-lt h)) ∙ sym (ne_eqb j k (λ q. omega arith))
    go false l false m =
        let e : k ≡ j = omega (arith, ltb-false j k l, ltb-false k j m) in
        ap (λ (x : ℕ). has_bit (2 ^ x) j) e
        ∙ ap (λ (x : ℕ). eqb (x / 2 ^ j % 2) 1) (sym (one-mul (2 ^ j)))
        ∙ ap (λ (x : ℕ). eqb (x % 2) 1) (shl-shr 1 j)
        ∙ sym (eq-eqb j k (sym e))

has_bit_or : (w k j : ℕ) → has_bit (bit_or w (2 ^ k)) j ≡ (eqb j k || has_bit w j)
has_bit_or w k j =
    let x = w / 2 ^ j in
    let y = 2 ^ k / 2 ^ j in
    ap (λ (v : ℕ). eqb (v % 2) 1) (or_shr w (2 ^ k) j)
    ∙ ap (λ (v : ℕ). eqb v 1) (or_odd x y)
    ∙ max_one (x % 2) (y % 2) (mod-lt x (zero-lt-suc 1)) (mod-lt y (zero-lt-suc 1))
    ∙ ap (λ (b : Bool). b || has_bit w j) (has_bit_power k j)

-- the code's `1 << k`, in 64 bits
pub shift_one : (k : ℕ) → k < 64 → 1 * 2 ^ k % 2 ^ 64 ≡ 2 ^ k
shift_one k h = shl_exact 1 k 64 (omega arith) (omega arith) ∙ one-mul (2 ^ k)

-- ## IDs

-- two IDs of one word differ by their bit
eqb_bit : (i j : ℕ) → i / 64 ≡ j / 64 → eqb (i % 64) (j % 64) ≡ eqb i j
eqb_bit i j e = go (eqb (i % 64) (j % 64)) refl
  where
    go : (b : Bool) → eqb (i % 64) (j % 64) ≡ b → b ≡ eqb i j
    go true q = sym (eq-eqb i j (omega (arith, eqb-true (i % 64) (j % 64) q)))
    go false q = sym (ne_eqb i j (λ s. eqb-false (i % 64) (j % 64) q (ap (λ (x : ℕ). x % 64) s)))

pub is_marked_marked : (ws : List ℕ) (id j : ℕ) → id / 64 < length ws → is_marked (marked ws id) j ≡ (eqb j id || is_marked ws j)
unfolding is_marked marked
is_marked_marked ws id j h = go (eqb (j / 64) (id / 64)) refl
  where
    old : ℕ
    old = get_or ws (id / 64) 0

    new : ℕ
    new = bit_or old (2 ^ (id % 64))

    go : (b : Bool) → eqb (j / 64) (id / 64) ≡ b
        → has_bit (get_or (set ws (id / 64) new) (j / 64) 0) (j % 64) ≡ (eqb j id || has_bit (get_or ws (j / 64) 0) (j % 64))
    go true q =
        let e = eqb-true (j / 64) (id / 64) q in
        rw (e, get_or-set_same ws (id / 64) new 0 h)
        (has_bit_or old (id % 64) (j % 64) ∙ ap (λ (b : Bool). b || has_bit old (j % 64)) (eqb_bit j id e))
    go false q =
        let d = eqb-false (j / 64) (id / 64) q in
        rw (get_or-set_other ws (id / 64) (j / 64) new 0 d, ne_eqb j id (λ s. d (ap (λ (x : ℕ). x / 64) s)))

get_d_zeros : (n i : ℕ) → ◌≡◌ {A = ℕ} (get_or (replicate n 0) i 0) 0
get_d_zeros zero i = refl
get_d_zeros (suc n) zero = refl
get_d_zeros (suc n) (suc i) = get_d_zeros n i

pub is_marked_zeros : (n id : ℕ) → is_marked (replicate n 0) id ≡ false
unfolding is_marked
is_marked_zeros n id = rw (get_d_zeros n (id / 64), zero-div (2 ^ (id % 64)))
