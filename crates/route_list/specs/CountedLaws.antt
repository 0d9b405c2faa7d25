-- The n numbers from k on are n, and each stands at its own place; stored one by one, what is left to store. Assumes nothing.
use Rattle.std.specs.Prelude.{◌≡◌, refl, List, length, get_or, set}
use Rattle.std.proofs.Common.{sym, ap, ◌∙◌, add-zero}
use Prim.Native.Nat.{ℕ, zero, suc, ◌+◌, ◌-◌, ◌<◌, ◌≤◌}
use Rattle.std.proofs.Math.Nat.{sub-zero}
use native.Mathlib.Omega.{arith}
use Rattle.std.proofs.lemmas.List.Edits.{sets}
use Rattle.route_list.specs.Counted.{counted}

pub length_counted : (k n : ℕ) → length (counted k n) ≡ n
unfolding counted
length_counted k zero = refl
length_counted k (suc n) = ap suc (length_counted (k + 1) n)

-- k + i stands at i: in order, and each just once
pub get_d_counted : (k n i : ℕ) → i < n → get_or (counted k n) i 0 ≡ k + i
unfolding counted
get_d_counted k zero i h = absurd (omega arith)
get_d_counted k (suc n) zero h = sym (add-zero k)
get_d_counted k (suc n) (suc i) h = get_d_counted (k + 1) n i (omega arith) ∙ omega arith

-- ## Stored one by one

-- what is left of n to store after i of them
abbrev pub rest : List ℕ → ℕ → ℕ → ℕ → List ℕ
rest o at n i = sets o (at + i) (counted (i + 1) (n - i))

pub rest_all : (o : List ℕ) (at n : ℕ) → rest o at n 0 ≡ sets o at (counted 1 n)
rest_all o at n = rw (add-zero at, sub-zero n)

module _ (o : List ℕ) (at n i : ℕ) where
  pub rest_more : i < n → rest (set o (at + i) (i + 1)) at n (i + 1) ≡ rest o at n i
  unfolding counted
  rest_more h =
      let d : n - i ≡ suc (n - (i + 1)) = omega arith in
      let e : at + (i + 1) ≡ suc (at + i) = omega arith in
      rw (d, e)

  pub rest_none : n ≤ i → rest o at n i ≡ o
  unfolding counted
  rest_none h = let d : n - i ≡ 0 = omega arith in rw d
