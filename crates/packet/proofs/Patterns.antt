-- The byte enables' patterns as bits of a number, as the code tests them: bit x is set exactly where x is one of the patterns.
-- Assumes nothing.
use Rattle.std.specs.Prelude.{ℕ, zero, suc, ◌<◌, ◌≤◌, ◌/◌, ◌%◌, ◌^◌, ◌≡◌, refl, Bool, true, false, not, ◌&&◌, ltb, eqb}
use Rattle.std.proofs.Common.{sym, arith, eqb-true, ne_eqb, ltb-true, ltb-false}
use Rattle.std.proofs.Math.Bool.{and-eq-true_iff}
use Rattle.std.proofs.lemmas.Bool.{eqb-false}
use Rattle.packet.specs.Rules.{is_first, is_last}

-- bit x of the number, for x of four bits
abbrev pub has_pattern : ℕ → ℕ → Bool
has_pattern bits x = ltb x 16 && eqb (bits / 2 ^ (x % 16) % 2) 1

abbrev same : Bool → Bool → Bool
same true b = b
same false b = not b

same_elim : (a b : Bool) → same a b ≡ true → a ≡ b
same_elim true true e = refl
same_elim true false e = sym e
same_elim false true e = e
same_elim false false e = refl

-- two tests agree on every number below n
unfoldable same_below : (ℕ → Bool) → (ℕ → Bool) → ℕ → Bool
same_below f g zero = true
same_below f g (suc n) = same_below f g n && same (f n) (g n)

same_below_lem : (f g : ℕ → Bool) (n : ℕ) → same_below f g n ≡ true → (x : ℕ) → x < n → f x ≡ g x
unfolding same_below
same_below_lem f g zero e x h = absurd (omega (arith, h))
same_below_lem f g (suc n) e x h =
    let parts = (and-eq-true_iff (same_below f g n) (same (f n) (g n))).0 e in
    go (eqb x n) refl (same_elim (f n) (g n) parts.1) (same_below_lem f g n parts.0 x)
  where
    go : (b : Bool) → eqb x n ≡ b → f n ≡ g n → (x < n → f x ≡ g x) → f x ≡ g x
    go true is here before = rw (eqb-true x n is) here
    go false is here before = before (let differ = eqb-false x n is in omega (arith, differ, h))

pattern_bits : (bits : ℕ) (p : ℕ → Bool) → same_below (λ x. eqb (bits / 2 ^ (x % 16) % 2) 1) p 16 ≡ true
    → ((x : ℕ) → 16 ≤ x → p x ≡ false)
    → (x : ℕ) → has_pattern bits x ≡ p x
pattern_bits bits p below from16 x = go (ltb x 16) refl
  where
    go : (b : Bool) → ltb x 16 ≡ b → b && eqb (bits / 2 ^ (x % 16) % 2) 1 ≡ p x
    go true is = same_below_lem (λ x. eqb (bits / 2 ^ (x % 16) % 2) 1) p 16 below x (ltb-true x 16 is)
    go false is = sym (from16 x (ltb-false x 16 is))

pub first_patterns : (x : ℕ) → has_pattern 53504 x ≡ is_first x
unfolding same_below
first_patterns =
    pattern_bits 53504 is_first refl
    (λ x h. simp (ne_eqb x 15 (omega arith), ne_eqb x 14 (omega arith), ne_eqb x 12 (omega arith), ne_eqb x 8 (omega arith)))

pub last_patterns : (x : ℕ) → has_pattern 32906 x ≡ is_last x
unfolding same_below
last_patterns =
    pattern_bits 32906 is_last refl
    (λ x h. simp (ne_eqb x 15 (omega arith), ne_eqb x 7 (omega arith), ne_eqb x 3 (omega arith), ne_eqb x 1 (omega arith)))
