-- Values: the loop over a set's slots, and the round trip between a value and its base, once over pool and width. Assumes nothing.
use Rattle.std.specs.Prelude.{◌≡◌, refl, Bool, true, false, cond, not, ◌&&◌, ◌||◌, List, [], ◌∷◌, ℕ, suc, ◌+◌, ◌-◌, ◌*◌, ◌/◌, ◌%◌, ◌^◌, ◌<◌, ◌≤◌, min, eqb, leb, length, get_or, take, drop}
use Rattle.std.proofs.Common.{sym, ap, ap₂, ◌∙◌, add-zero, mod-lt, div-add-mod', div-lt_iff_lt-mul, le_trans, le_of_lt, one-add, arith, pow_pos, pow_mono, pow-add, length-drop, drop_of_length-le, drop-drop, get_or-drop, get_or-take}
use Rattle.std.proofs.Math.Path.{transport}
use Rattle.std.proofs.lemmas.Bool.{false≢true}
use Rattle.std.proofs.Math.Bool.{and-eq-true_iff}
use Rattle.std.proofs.Math.Nat.{zero-mod}
use borrow.Author.Tests.{eqb-true, eq-eqb, leb-true, le-leb}
use Rattle.std.proofs.Math.Arith.{digits_lt, digits_div, digits_mod}
use Rattle.std.proofs.Math.Pow.{mod-mod-pow, ones_lt}
use Rattle.std.specs.Int.Bits.{bit_and}
use Rattle.std.proofs.Math.ListN.{get_or-eq_default}
use Rattle.arith.specs.Powers.{PowerOfTwo}
use Rattle.arith.specs.PowersLaws.{and_pred_power}
use Rattle.pools.specs.declared.Pool.{Pool}
use Rattle.pools.specs.declared.Pool.TheVariants.{Low, High, Io}
use Rattle.pools.specs.Pools.{is_io}
use Rattle.bar.specs.declared.Slot.{Slot}
use Rattle.bar.specs.declared.Slot.TheVariants.{Unused, Bar, Upper, Bad}
use Rattle.bar.specs.Bar.{type_bits, least_bit, width, type_of, without_type, joined, slot_here, slots, is_bad, any_bad, takes_next, span}
use Rattle.bar.specs.Bar.{BarSize}
use Rattle.bar.specs.BarLaws.{length_first, slots_head, slots_at_step}
use Rattle.bar.specs.Values.{value_here, is_bar_value, is_value, values_fit, base_of, value_of}

-- ## Multiples of powers of two

-- a multiple of a power of two is a multiple of every smaller one
multiple_of_le : (j k n : ℕ) → j ≤ k → n % 2 ^ k ≡ 0 → n % 2 ^ j ≡ 0
multiple_of_le j k n h e =
    let s : k ≡ k - j + j = omega arith in
    sym (mod-mod-pow n (k - j) j) ∙ ap (λ (x : ℕ). n % 2 ^ x % 2 ^ j) (sym s) ∙ ap (λ (x : ℕ). x % 2 ^ j) e ∙ zero-mod (2 ^ j)

-- a multiple of 2 ^ j below 2 ^ k ends at or below it
pub end_le_of_multiple : (j k n : ℕ) → j ≤ k → n % 2 ^ j ≡ 0 → n < 2 ^ k → n + 2 ^ j ≤ 2 ^ k
end_le_of_multiple j k n h e l =
    let d : k ≡ k - j + j = omega arith in
    let t : 2 ^ k ≡ 2 ^ (k - j) * 2 ^ j = ap (λ (x : ℕ). 2 ^ x) d ∙ pow-add 2 (k - j) j in
    let q : n / 2 ^ j < 2 ^ (k - j) = (div-lt_iff_lt-mul (pow_pos j)).1 (rw t at l) in
    omega (arith, digits_lt q (ones_lt j), div-add-mod' n (2 ^ j), t, pow_pos j)

types_le_least : (pool : Pool) → type_bits pool ≤ least_bit pool
types_le_least Low = omega arith
types_le_least High = omega arith
types_le_least Io = omega arith

-- any base with any type bits fits 64 bits
pub typed_lt_64 : (pool : Pool) (base r : ℕ) → base < 2 ^ 64 → without_type pool base + type_of pool r < 2 ^ 64
typed_lt_64 Low base r h = omega arith
typed_lt_64 High base r h = omega arith
typed_lt_64 Io base r h = omega arith

-- an I/O value within its width is at most FFFFh
within_io : (pool : Pool) (wide : Bool) (v : ℕ) → v < 2 ^ width pool wide → (not (is_io pool) || leb v 65535) ≡ true
within_io Low wide v h = refl
within_io High wide v h = refl
within_io Io wide v h = le-leb v 65535 (omega arith)

-- ## The round trip

-- a base that fits its BAR: a multiple of the size, within the width
pub record Placed (pool : Pool) (wide : Bool) (size base : ℕ) : Type 0 where
  pub multiple : base % size ≡ 0
  pub fits : base < 2 ^ width pool wide

module _ (pool : Pool) (wide : Bool) (size : ℕ) (z : BarSize pool wide size) (r base : ℕ) (p : Placed pool wide size base) where
  typed_lt : type_of pool r < 2 ^ type_bits pool
  typed_lt = mod-lt r (pow_pos (type_bits pool))

  base_multiple : base % 2 ^ z.bit ≡ 0
  base_multiple = ap (λ (x : ℕ). base % x) (sym z.power) ∙ p.multiple

  without_type_base : without_type pool base ≡ base
  without_type_base =
      omega (
        arith,
        div-add-mod' base (2 ^ type_bits pool),
        multiple_of_le (type_bits pool) z.bit base
            (le_trans (types_le_least pool) z.least) base_multiple,
      )

  pub base_value : base_of (Bar pool wide size) (value_of (Bar pool wide size) r base) ≡ base
  base_value = ap (λ (x : ℕ). x * 2 ^ type_bits pool) (digits_div (base / 2 ^ type_bits pool) typed_lt) ∙ without_type_base

  type_value : type_of pool (value_of (Bar pool wide size) r base) ≡ type_of pool r
  type_value = digits_mod (base / 2 ^ type_bits pool) typed_lt

  pub value_lt : value_of (Bar pool wide size) r base < 2 ^ width pool wide
  value_lt =
      let e = end_le_of_multiple z.bit (width pool wide) base (le_of_lt z.most) base_multiple p.fits in
      let m = pow_mono (le_trans (types_le_least pool) z.least) in
      omega (arith, without_type_base, typed_lt)

  pub is_value_of_placed : is_value (Bar pool wide size) r (value_of (Bar pool wide size) r base) ≡ true
  unfolding is_bar_value
  is_value_of_placed =
      rw (eq-eqb _ _ type_value, eq-eqb _ _ (ap (λ (x : ℕ). x % size) base_value ∙ p.multiple)) (within_io pool wide _ value_lt)

-- ## What a lawful value says

pub record BarValue (pool : Pool) (size r v : ℕ) : Type 0 where
  pub typed : type_of pool v ≡ type_of pool r
  pub multiple : without_type pool v % size ≡ 0
  pub io : is_io pool ≡ true → v ≤ 65535

pub bar_value_elim : (pool : Pool) (size r v : ℕ) → is_bar_value pool size r v ≡ true → BarValue pool size r v
unfolding is_bar_value
bar_value_elim pool size r v e =
    let a = (and-eq-true_iff _ _).0 e in
    let b = (and-eq-true_iff _ _).0 a.0 in
    record {
      typed = eqb-true _ _ b.0;
      multiple = eqb-true _ _ b.1;
      io = λ h. leb-true v 65535 (rw h at a.1);
    }

-- the test in the words of the code: the mask of a power of two takes the remainder
pub is_bar_value_masked : (pool : Pool) (size r v t u w : ℕ) (io : Bool) → PowerOfTwo size
    → t ≡ type_of pool v → u ≡ type_of pool r → w ≡ without_type pool v → io ≡ is_io pool
    → (eqb t u && eqb (bit_and w (size - 1)) 0 && (not io || leb v 65535)) ≡ is_bar_value pool size r v
unfolding is_bar_value
is_bar_value_masked pool size r v t u w io p e f g h = rw (and_pred_power w size p, e, f, g, h)

-- the test in the words of the code: the mask of a power of two takes the remainder
pub is_bar_value_memory : (pool : Pool) (size r v t u w : ℕ) (memory : Bool) → PowerOfTwo size
    → t ≡ type_of pool v → u ≡ type_of pool r → w ≡ without_type pool v → memory ≡ not (is_io pool)
    → (eqb t u && eqb (bit_and w (size - 1)) 0 && (memory || leb v 65535)) ≡ is_bar_value pool size r v
unfolding is_bar_value
is_bar_value_memory pool size r v t u w memory p e f g h = rw (and_pred_power w size p, e, f, g, h)

-- ## The loop over a set's slots

pub head_at : (s : List ℕ) (i : ℕ) → get_or (drop i s) 0 0 ≡ get_or s i 0
head_at s i = get_or-drop i s 0 0 ∙ ap (λ (k : ℕ). get_or s k 0) (add-zero i)

-- the number in the registers at a place
pub value_here_at : (x : Slot) (vs : List ℕ) (i : ℕ) → value_here x (drop i vs)
    ≡ cond (takes_next x) (joined (get_or vs i 0) (get_or vs (i + 1) 0)) (get_or vs i 0)
value_here_at x vs i = rw (head_at vs i, get_or-drop i vs 1 0)

-- lawful values are of lawful slots
pub not_bad_of_value : (x : Slot) (r v : ℕ) → is_value x r v ≡ true → is_bad x ≡ false
not_bad_of_value Unused r v e = refl
not_bad_of_value (Bar pool wide size) r v e = refl
not_bad_of_value Upper r v e = refl
not_bad_of_value Bad r v e = absurd (false≢true e)

-- the slot at a place has its lawful value
abbrev pub ValueAt : List Slot → List ℕ → List ℕ → ℕ → Type 0
ValueAt xs rs vs i = is_value (get_or xs i Unused) (get_or rs i 0) (value_here (get_or xs i Unused) (drop i vs)) ≡ true

value_at_suc : (x : Slot) (xs : List Slot) (rs vs : List ℕ) (i : ℕ) → ValueAt xs (drop 1 rs) (drop 1 vs) i ≡ ValueAt (x ∷ xs) rs vs (suc i)
value_at_suc x xs rs vs i = rw (get_or-drop 1 rs i 0, drop-drop i 1 vs, one-add i)

values_fit_cons : (x : Slot) (xs : List Slot) (rs vs : List ℕ) → values_fit (x ∷ xs) rs vs ≡ true
    → (is_value x (get_or rs 0 0) (value_here x vs) ≡ true) × (values_fit xs (drop 1 rs) (drop 1 vs) ≡ true)
unfolding values_fit
values_fit_cons x xs rs vs e = (and-eq-true_iff _ _).0 e

pub values_fit_intro : (xs : List Slot) (rs vs : List ℕ) → ((i : ℕ) → i < length xs → ValueAt xs rs vs i) → values_fit xs rs vs ≡ true
unfolding values_fit
values_fit_intro [] rs vs f = refl
values_fit_intro (x ∷ xs) rs vs f =
    (and-eq-true_iff _ _).1 (
      f 0 (omega arith),
      values_fit_intro xs (drop 1 rs) (drop 1 vs)
          (λ i h. transport (sym (value_at_suc x xs rs vs i)) (f (suc i) (omega arith))),
    )

-- lawful values stand beside lawful read-backs
pub lawful_of_values : (xs : List Slot) (rs vs : List ℕ) → values_fit xs rs vs ≡ true → any_bad xs ≡ false
unfolding any_bad
lawful_of_values [] rs vs e = refl
lawful_of_values (x ∷ xs) rs vs e =
    let a = values_fit_cons x xs rs vs e in
    rw (not_bad_of_value x _ _ a.0) (lawful_of_values xs (drop 1 rs) (drop 1 vs) a.1)

-- what is left to be judged from a place on
abbrev pub values_from : List ℕ → List ℕ → ℕ → Bool
values_from rs vs i = values_fit (slots (drop i rs)) (drop i rs) (drop i vs)

values_head : (rs vs : List ℕ) (i : ℕ) (x : Slot) → i < length rs → x ≡ slot_here (drop i rs)
    → values_from rs vs i
    ≡ is_value x (get_or rs i 0) (value_here x (drop i vs)) && values_fit (drop 1 (slots (drop i rs))) (drop 1 (drop i rs)) (drop 1 (drop i vs))
unfolding values_fit
values_head rs vs i x h e =
    let p : 0 < length (drop i rs) = simp length-drop (omega arith) in
    ap (λ (xs : List Slot). values_fit xs (drop i rs) (drop i vs)) (slots_head (drop i rs) p)
    ∙ ap₂ (λ (y : Slot) (r : ℕ). is_value y r (value_here y (drop i vs)) && values_fit (drop 1 (slots (drop i rs))) (drop 1 (drop i rs))
    (drop 1 (drop i vs))) (sym e) (head_at rs i)

pub values_from_off : (rs vs : List ℕ) (i : ℕ) (x : Slot) → i < length rs → x ≡ slot_here (drop i rs)
    → is_value x (get_or rs i 0) (value_here x (drop i vs)) ≡ false → values_from rs vs i ≡ false
values_from_off rs vs i x h e f = values_head rs vs i x h e ∙ rw f

pub values_from_step : (rs vs : List ℕ) (i : ℕ) (x : Slot) → i < length rs → x ≡ slot_here (drop i rs)
    → is_value x (get_or rs i 0) (value_here x (drop i vs)) ≡ true → values_from rs vs (i + span x) ≡ values_from rs vs i
unfolding values_fit
values_from_step rs vs i x h e t =
    let l = not_bad_of_value x _ _ t in
    go (takes_next x)
    ∙ ap (λ (xs : List Slot). values_fit xs (drop 1 (drop i rs)) (drop 1 (drop i vs)))
    (sym (ap (λ (xs : List Slot). drop 1 xs) (slots_at_step rs i x h e l)))
    ∙ sym (values_head rs vs i x h e ∙ rw t)
  where
    two : i + 1 + 1 ≡ i + 2
    two = omega arith

    go : (b : Bool) → values_from rs vs (i + cond b 2 1)
        ≡ values_fit (cond b (Upper ∷ slots (drop (i + 2) rs)) (slots (drop (i + 1) rs))) (drop 1 (drop i rs)) (drop 1 (drop i vs))
    go true = rw (drop-drop 1 i rs, drop-drop 1 i vs, drop-drop 1 (i + 1) rs, drop-drop 1 (i + 1) vs, two)
    go false = rw (drop-drop 1 i rs, drop-drop 1 i vs)

pub values_from_end : (rs vs : List ℕ) (i : ℕ) → length rs ≤ i → values_from rs vs i ≡ true
unfolding values_fit slots
values_from_end rs vs i h = rw (drop_of_length-le rs h)

-- the first n of a set of six, in the words of the code
pub entry_past : (set : List ℕ) (n i : ℕ) → length set ≡ 6 → min n 6 ≤ i → get_or (take n set) i 0 ≡ 0
entry_past set n i six h = get_or-eq_default (take n set) 0 (omega (arith, length_first set n six))

pub entry_within : (set : List ℕ) (n i : ℕ) → i < min n 6 → get_or (take n set) i 0 ≡ get_or set i 0
entry_within set n i h = get_or-take n set i 0 (omega arith)

-- x is the slot at i, v the number in its registers, b the test of it
module _ (set values : List ℕ) (n i : ℕ) (x : Slot) (v : ℕ) (b : Bool) (six : length set ≡ 6) (h : i < min n 6)
    (e : x ≡ slot_here (drop i (take n set)))
    (f : v ≡ value_here x (drop i (take n values))) (t : b ≡ is_value x (get_or set i 0) v) where
  test : is_value x (get_or (take n set) i 0) (value_here x (drop i (take n values))) ≡ b
  test = ap₂ (is_value x) (entry_within set n i h) (sym f) ∙ sym t

  pub values_off : b ≡ false → values_from (take n set) (take n values) i ≡ false
  values_off o = values_from_off (take n set) (take n values) i x (omega (arith, length_first set n six)) e (test ∙ o)

  pub values_on : b ≡ true → values_from (take n set) (take n values) (i + span x) ≡ values_from (take n set) (take n values) i
  values_on o = values_from_step (take n set) (take n values) i x (omega (arith, length_first set n six)) e (test ∙ o)
