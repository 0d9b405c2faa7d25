-- The laws of multiples and of `align_up`, once over the alignment and by a mask. Assumes nothing.
use Rattle.std.specs.Prelude.{◌≡◌}
use Rattle.std.proofs.Math.Path.{ap}
use Rattle.std.proofs.Common.{◌∙◌, le_antisymm}
use Prim.Native.Nat.{ℕ, suc, ◌+◌, ◌-◌, ◌*◌, ◌/◌, ◌≤◌, ◌<◌}
use native.Mathlib.Omega.{arith}
use Rattle.std.proofs.Math.Nat.{div-add-mod', mod-lt, mod-eq-zero_of_dvd, dvd_of_mod-eq-zero, dvd_trans, mul-mod_left, zero-mod, add-mod, mul-add-div_right, add-mul, lt_of_mul-lt-mul_right, le_of_dvd, mul-le-mul_right}
use Rattle.std.specs.Int.Bits.{bit_and}
use Rattle.arith.specs.Powers.{PowerOfTwo}
use Rattle.arith.specs.PowersLaws.{and_pred_power}
use Rattle.arith.specs.Align.{align_up, Multiple}

pub align_up_mask : (a x : ℕ) → PowerOfTwo a → x + (a - 1) - bit_and (x + (a - 1)) (a - 1) ≡ align_up a x
unfolding align_up
align_up_mask a x p = omega (arith, and_pred_power (x + (a - 1)) a p, div-add-mod' (x + (a - 1)) a)

pub multiple_trans : (a b c : ℕ) → Multiple a b → Multiple b c → Multiple a c
multiple_trans a b c h k = mod-eq-zero_of_dvd a (dvd_trans a (dvd_of_mod-eq-zero a h) (dvd_of_mod-eq-zero b k))

pub multiple_add : (a x y : ℕ) → Multiple a x → Multiple a y → Multiple a (x + y)
multiple_add a x y h k = add-mod x y a ∙ rw (h, k) (zero-mod a)

multiple_div : (a x : ℕ) → Multiple a x → x / a * a ≡ x
multiple_div a x h = let d = div-add-mod' x a in omega arith

module _ (a : ℕ) (pos : 0 < a) where
  pub le_align_up : (x : ℕ) → x ≤ align_up a x
  unfolding align_up
  le_align_up x = omega (arith, div-add-mod' (x + (a - 1)) a, mod-lt (x + (a - 1)) pos)

  pub align_up_multiple : (x : ℕ) → Multiple a (align_up a x)
  unfolding align_up
  align_up_multiple x = mul-mod_left ((x + (a - 1)) / a) a

  pub align_le_align_up : (x : ℕ) → 0 < x → a ≤ align_up a x
  align_le_align_up x h = le_of_dvd (omega (arith, le_align_up x)) (dvd_of_mod-eq-zero a (align_up_multiple x))

  -- No multiple comes before it
  pub align_up_least : (x m : ℕ) → x ≤ m → Multiple a m → align_up a x ≤ m
  unfolding align_up
  align_up_least x m h e =
      let q : ℕ = (x + (a - 1)) / a in
      let l : q * a < suc (m / a) * a = omega (arith, div-add-mod' (x + (a - 1)) a, div-add-mod' m a) in
      let k : q < suc (m / a) = lt_of_mul-lt-mul_right a l in
      let n : q ≤ m / a = omega arith in
      omega (arith, mul-le-mul_right a n, div-add-mod' m a)

  pub align_up_of_multiple : (x : ℕ) → Multiple a x → align_up a x ≡ x
  align_up_of_multiple x h = le_antisymm (align_up_least x x (omega arith) h) (le_align_up x)

  -- A multiple of a added first is a multiple of a added last
  pub align_up_add : (s x : ℕ) → Multiple a s → align_up a (s + x) ≡ s + align_up a x
  unfolding align_up
  align_up_add s x h =
      let y : ℕ = x + (a - 1) in
      let e : s + x + (a - 1) ≡ s / a * a + y = omega (arith, multiple_div a s h) in
      ap (λ (n : ℕ). n / a * a) e
      ∙ ap (λ (n : ℕ). n * a) (mul-add-div_right pos (s / a) y)
      ∙ add-mul (s / a) (y / a) a
      ∙ ap (λ (n : ℕ). n + y / a * a) (multiple_div a s h)
