-- An owner that fits: its word gives back its size, its bridges and its number, and so a position says whether it is over a key. Assumes
-- nothing.
use Rattle.std.specs.Prelude.{◌≡◌, refl, Bool, true, false, cond, ℕ, zero, suc, ◌+◌, ◌-◌, ◌*◌, ◌/◌, ◌%◌, ◌^◌, ◌≤◌, ◌<◌, eqb, leb, ltb}
use Rattle.std.proofs.Common.{sym, ap, ◌∙◌, pow-suc, zero-lt-suc, div-lt_iff_lt-mul, arith, le-leb, eq-eqb, ne_eqb, ltb-true, ltb-false}
use Rattle.std.proofs.Math.Nat.{one-le-pow}
use Rattle.std.proofs.lemmas.Bool.{lt-leb}
use Rattle.walk.specs.Walk.{delivered, refused, no_owner}
use Rattle.index_layout.specs.Keys.{no_key}
use Rattle.index_layout.specs.Words.{word_from, record_in, bridges_in, size_in}
use Rattle.index_rule.specs.Owners.{Owner, exponent_over, exponent_of, word_of}
use Rattle.index_rule.specs.Search.{is_over, answer_at}
use Rattle.index_rule.proofs.BarsLaws.{Powered}

-- ## The exponent

exponent_over_lem : (n b : ℕ) → b ≤ n → exponent_over n (2 ^ b) ≡ b
unfolding exponent_over
exponent_over_lem zero zero h = refl
exponent_over_lem zero (suc b) h = absurd (omega arith)
exponent_over_lem (suc n) zero h = refl
exponent_over_lem (suc n) (suc b) h =
    let large : leb (2 ^ suc b) 1 ≡ false = lt-leb (2 ^ suc b) 1 (omega (arith, pow-suc 2 b, one-le-pow b 2 (zero-lt-suc 1))) in
    let half : 2 ^ suc b / 2 ≡ 2 ^ b = omega (arith, pow-suc 2 b) in
    rw large (rw half (ap suc (exponent_over_lem n b (omega arith))))

pub exponent_of_power : (b : ℕ) → b < 64 → exponent_of (2 ^ b) ≡ b
unfolding exponent_of
exponent_of_power b h = exponent_over_lem 64 b (omega arith)

-- ## The word

pub record Fits (x : Owner) : Type 0 where
  pub powered : Powered x.start x.stop
  pub start_small : x.start < no_key
  pub number_from_1 : 1 ≤ x.number
  pub number_small : x.number < 65536
  pub bridges_small : x.bridges < 256

module _ (x : Owner) (f : Fits x) where
  exponent_is : exponent_of (x.stop - x.start) ≡ f.powered.bit
  exponent_is =
      let p = f.powered in
      let size : x.stop - x.start ≡ 2 ^ p.bit = omega (arith, p.stop_is) in
      ap exponent_of size ∙ exponent_of_power p.bit p.below_64

  word_is : word_of x ≡ word_from f.powered.bit x.bridges x.number
  word_is = ap (λ (e : ℕ). word_from e x.bridges x.number) exponent_is

  pub word_small : word_of x < 18446744073709551616
  word_small = omega (arith, word_is, f.powered.below_64, f.number_small, f.bridges_small)

  pub record_of_word : record_in (word_of x) ≡ x.number
  record_of_word = omega (arith, word_is, f.powered.below_64, f.number_small, f.bridges_small)

  pub bridges_of_word : bridges_in (word_of x) ≡ x.bridges
  bridges_of_word = omega (arith, word_is, f.powered.below_64, f.number_small, f.bridges_small)

  pub exponent_of_word : word_of x % 64 ≡ f.powered.bit
  exponent_of_word = omega (arith, word_is, f.powered.below_64, f.number_small, f.bridges_small)

  pub size_of_word : x.start + size_in (word_of x) ≡ x.stop
  size_of_word = ap (λ (e : ℕ). x.start + 2 ^ e) exponent_of_word ∙ sym f.powered.stop_is

  -- ## What the position says, of a key that its start is not above

  module _ (a : ℕ) (from_start : x.start ≤ a) where
    size_pos : 0 < size_in (word_of x)
    size_pos = one-le-pow (word_of x % 64) 2 (zero-lt-suc 1)

    owner_here : eqb (record_in (word_of x)) 0 ≡ false
    owner_here = ne_eqb (record_in (word_of x)) 0 (λ z. omega (arith, record_of_word, f.number_from_1, z))

    -- within the size
    inside : (t : Bool) → ltb a x.stop ≡ t → eqb ((a - x.start) / size_in (word_of x)) 0 ≡ t
    inside true e =
        let before = ltb-true a x.stop e in
        let below : a - x.start < 1 * size_in (word_of x) = omega (arith, before, from_start, size_of_word) in
        let q = (div-lt_iff_lt-mul {k = size_in (word_of x)} size_pos).1 below in
        eq-eqb ((a - x.start) / size_in (word_of x)) 0 (omega (arith, q))
    inside false e =
        let past = ltb-false a x.stop e in
        ne_eqb ((a - x.start) / size_in (word_of x)) 0
        (λ z.
        let q : (a - x.start) / size_in (word_of x) < 1 = omega (arith, z) in
        let below : a - x.start < 1 * size_in (word_of x) = (div-lt_iff_lt-mul {k = size_in (word_of x)} size_pos).0 q in
        omega (arith, below, past, from_start, size_of_word))

    over_is : is_over x.start (word_of x) a ≡ ltb a x.stop
    over_is = rw (owner_here, le-leb x.start a from_start) (inside (ltb a x.stop) refl)

    pub answer_is : answer_at x.start (word_of x) a ≡ cond (ltb a x.stop) (delivered x.number x.bridges) (refused no_owner)
    answer_is =
        ap (λ (t : Bool). cond t (delivered (record_in (word_of x)) (bridges_in (word_of x))) (refused no_owner)) over_is
        ∙ ap (λ (k : ℕ). cond (ltb a x.stop) (delivered k (bridges_in (word_of x))) (refused no_owner)) record_of_word
        ∙ ap (λ (k : ℕ). cond (ltb a x.stop) (delivered x.number k) (refused no_owner)) bridges_of_word
