-- The laws of `be`, `be_bytes`, `le` and `le_bytes`, each over every width. Assumes nothing.
use Rattle.std.specs.Prelude.{◌≡◌, refl, ℕ, zero, suc, ◌+◌, ◌*◌, ◌/◌, ◌%◌, ◌^◌, ◌≤◌, ◌<◌, List, ◌∷◌, ◌++◌, length, get_or, take, drop}
use Rattle.std.proofs.Common.{sym, ap, ap₂, ◌∙◌, add-zero, zero-add, suc-add, add_assoc, add_comm, mul_assoc, add-mul, mul-add, zero-lt-suc, mod-lt, mod-eq_of_lt, div-one, pow-suc, arith, pow-add}
use Rattle.std.proofs.Math.Nat.{div-div-eq-div-mul, add-mul-div_right, one-le-pow, pow-succ'}
use Rattle.std.proofs.lemmas.List.Edits.{sets}
use Rattle.std.proofs.lemmas.Nat.{div-add-mod'}
use Rattle.std.proofs.Math.Arith.{digits_lt, digits_div, mod-mul}
use Rattle.endian.specs.Endian.{Bytes, be, be_bytes, le, le_bytes}
use Rattle.endian.specs.SetsLaws.{sets_append}
use Rattle.endian.specs.ByteOrder as order
use Rattle.endian.specs.ByteOrder.{ByteOrder}

pow_pos : (n : ℕ) → zero < 256 ^ n
pow_pos n = one-le-pow n 256 (zero-lt-suc 255)

-- ---- big_endian

-- what is above the n bytes does not show in them
be_bytes_above : (n q x : ℕ) → be_bytes n (q * 256 ^ n + x) ≡ be_bytes n x
unfolding be_bytes
be_bytes_above zero q x = refl
be_bytes_above (suc n) q x = rw shift (ap₂ ◌∷◌ byte (be_bytes_above n (q * 256) x))
  where
    shift : q * 256 ^ suc n ≡ q * 256 * 256 ^ n
    shift = ap (λ (p : ℕ). q * p) (pow-succ' 256 n) ∙ sym (mul_assoc q 256 (256 ^ n))

    byte : (q * 256 * 256 ^ n + x) / 256 ^ n % 256 ≡ x / 256 ^ n % 256
    byte = rw (add_comm (q * 256 * 256 ^ n) x) (omega (arith, add-mul-div_right x (q * 256) (pow_pos n)))

pub big_endian : ByteOrder be be_bytes
unfolding be be_bytes
big_endian =
    record {
      step = λ n b r. b * 256 ^ n + r;
      first = λ n x. x / 256 ^ n % 256;
      rest = λ n x. x;
      read_zero = λ s at. refl;
      read_suc = λ n s at. refl;
      write_zero = λ x. refl;
      write_suc = λ n x. refl;
      step_lt = λ n b r h l. rw (pow-succ' 256 n) (digits_lt h l);
      step_first = λ n x. rw (pow-succ' 256 n) (sym (mod-mul x (zero-lt-suc 255) (pow_pos n)));
      first_lt = λ n x. mod-lt (x / 256 ^ n) (zero-lt-suc 255);
      first_step = λ n b r h l. ap (λ (y : ℕ). y % 256) (digits_div b l) ∙ mod-eq_of_lt h;
      write_rest_step = λ n b r h l. be_bytes_above n b r;
    }

pub be_lt : (n : ℕ) (s : List ℕ) (at : ℕ) → Bytes s → be n s at < 256 ^ n
be_lt = order.read_lt big_endian

-- equal bytes spell equal numbers, wherever they stand
pub be_agree : (n : ℕ) (s t : List ℕ) (i j : ℕ) → ((k : ℕ) → k < n → get_or s (i + k) 0 ≡ get_or t (j + k) 0) → be n s i ≡ be n t j
be_agree = order.read_agree big_endian

pub be_append : (n : ℕ) (a b : List ℕ) (at : ℕ) → at + n ≤ length a → be n (a ++ b) at ≡ be n a at
be_append = order.read_append big_endian

pub be_append_add : (n : ℕ) (a b : List ℕ) (at : ℕ) → be n (a ++ b) (length a + at) ≡ be n b at
be_append_add = order.read_append_add big_endian

-- bytes that follow each other
pub be_add : (m n : ℕ) (s : List ℕ) (at : ℕ) → be (m + n) s at ≡ be m s at * 256 ^ n + be n s (at + m)
unfolding be
be_add zero n s at = rw (zero-add n, add-zero at) (omega arith)
be_add (suc m) n s at =
    let e : at + suc m ≡ at + 1 + m = omega arith in
    rw (suc-add m n, be_add m n s (at + 1), pow-add 256 m n, e) (simp (add-mul, mul_assoc, add_assoc))

pub length_be_bytes : (n x : ℕ) → length (be_bytes n x) ≡ n
length_be_bytes = order.length_write big_endian

pub bytes_be_bytes : (n x : ℕ) → Bytes (be_bytes n x)
bytes_be_bytes = order.bytes_write big_endian

-- n bytes are those of what is left of the number below 256 ^ n
pub be_bytes_low : (n x : ℕ) → be_bytes n (x % 256 ^ n) ≡ be_bytes n x
be_bytes_low n x =
    sym (be_bytes_above n (x / 256 ^ n) (x % 256 ^ n)) ∙ ap (be_bytes n) (div-add-mod' x (256 ^ n))

be_bytes_add : (m n x : ℕ) → be_bytes (m + n) x ≡ be_bytes m (x / 256 ^ n) ++ be_bytes n x
unfolding be_bytes
be_bytes_add zero n x = rw (zero-add n)
be_bytes_add (suc m) n x =
    rw (suc-add m n, div-div-eq-div-mul x (256 ^ n) (256 ^ m), ← pow-add 256 n m, add_comm n m, be_bytes_add m n x)

-- two stores that meet are one store of the wider number
pub sets_be_bytes : {o₁ o₂ : List ℕ} (m n : ℕ) (o : List ℕ) (i x : ℕ)
    → o₁ ≡ sets o i (be_bytes m (x / 256 ^ n)) → o₂ ≡ sets o₁ (i + m) (be_bytes n x)
    → o₂ ≡ sets o i (be_bytes (m + n) x)
sets_be_bytes m n o i x p q =
    rw (be_bytes_add m n x) (sets_append o i m (be_bytes m (x / 256 ^ n)) (be_bytes n x) (length_be_bytes m (x / 256 ^ n)) p q)

pub be_be_bytes : (n x : ℕ) → be n (be_bytes n x) 0 ≡ x % 256 ^ n
be_be_bytes = order.read_write big_endian

pub be_be_bytes_at : (n x : ℕ) (before after : List ℕ) → x < 256 ^ n → be n (before ++ be_bytes n x ++ after) (length before) ≡ x
be_be_bytes_at = order.read_write_at big_endian

pub be_bytes_be : (n : ℕ) (s : List ℕ) (at : ℕ) → Bytes s → at + n ≤ length s → be_bytes n (be n s at) ≡ take n (drop at s)
be_bytes_be = order.write_read big_endian

-- ---- little_endian

pub little_endian : ByteOrder le le_bytes
unfolding le le_bytes
little_endian =
    record {
      step = λ n b r. b + 256 * r;
      first = λ n x. x % 256;
      rest = λ n x. x / 256;
      read_zero = λ s at. refl;
      read_suc = λ n s at. refl;
      write_zero = λ x. refl;
      write_suc = λ n x. refl;
      step_lt = λ n b r h l. omega (arith, pow-succ' 256 n);
      step_first = λ n x. rw (pow-suc 256 n) (omega (arith, mod-mul x {m = 256 ^ n} {c = 256} (pow_pos n) (zero-lt-suc 255)));
      first_lt = λ n x. mod-lt x (zero-lt-suc 255);
      first_step = λ n b r h l. omega arith;
      write_rest_step = λ n b r h l. ap (le_bytes n) (omega arith);
    }

pub le_agree : (n : ℕ) (s t : List ℕ) (i j : ℕ) → ((k : ℕ) → k < n → get_or s (i + k) 0 ≡ get_or t (j + k) 0) → le n s i ≡ le n t j
le_agree = order.read_agree little_endian

pub le_drop : (n k : ℕ) (s : List ℕ) (at : ℕ) → le n (drop k s) at ≡ le n s (k + at)
le_drop = order.read_drop little_endian

pub le_take : (n k : ℕ) (s : List ℕ) (at : ℕ) → at + n ≤ k → le n (take k s) at ≡ le n s at
le_take = order.read_take little_endian

pub le_sets_before : (n : ℕ) (s : List ℕ) (i : ℕ) (vs : List ℕ) (at : ℕ) → at + n ≤ i → le n (sets s i vs) at ≡ le n s at
le_sets_before = order.read_sets_before little_endian

pub le_sets_after : (n : ℕ) (s : List ℕ) (i : ℕ) (vs : List ℕ) (at : ℕ) → i + length vs ≤ at → le n (sets s i vs) at ≡ le n s at
le_sets_after = order.read_sets_after little_endian

pub le_add : (m n : ℕ) (s : List ℕ) (at : ℕ) → le (m + n) s at ≡ le m s at + 256 ^ m * le n s (at + m)
unfolding le
le_add zero n s at = rw (zero-add n, add-zero at) (omega arith)
le_add (suc m) n s at =
    let e : at + suc m ≡ at + 1 + m = omega arith in
    rw (suc-add m n, le_add m n s (at + 1), pow-succ' 256 m, e) (simp (mul-add, mul_assoc, add_assoc))

pub length_le_bytes : (n x : ℕ) → length (le_bytes n x) ≡ n
length_le_bytes = order.length_write little_endian

pub bytes_le_bytes : (n x : ℕ) → Bytes (le_bytes n x)
bytes_le_bytes = order.bytes_write little_endian

pub le_bytes_low : (n x : ℕ) → le_bytes n (x % 256 ^ n) ≡ le_bytes n x
unfolding le_bytes little_endian
le_bytes_low zero x = refl
le_bytes_low (suc n) x =
    let e : x % 256 + 256 * (x / 256 % 256 ^ n) ≡ x % 256 ^ suc n = little_endian.step_first n x in
    rw (← e) (ap₂ ◌∷◌ (omega arith) (ap (le_bytes n) (omega arith) ∙ le_bytes_low n (x / 256)))

le_bytes_add : (m n x : ℕ) → le_bytes (m + n) x ≡ le_bytes m x ++ le_bytes n (x / 256 ^ m)
unfolding le_bytes
le_bytes_add zero n x = rw (zero-add n, div-one x)
le_bytes_add (suc m) n x =
    rw (suc-add m n, le_bytes_add m n (x / 256), div-div-eq-div-mul x 256 (256 ^ m), ← pow-succ' 256 m)

pub sets_le_bytes : {o₁ o₂ : List ℕ} (m n : ℕ) (o : List ℕ) (i x : ℕ)
    → o₁ ≡ sets o i (le_bytes m x) → o₂ ≡ sets o₁ (i + m) (le_bytes n (x / 256 ^ m))
    → o₂ ≡ sets o i (le_bytes (m + n) x)
sets_le_bytes m n o i x p q =
    rw (le_bytes_add m n x) (sets_append o i m (le_bytes m x) (le_bytes n (x / 256 ^ m)) (length_le_bytes m x) p q)

pub le_le_bytes : (n x : ℕ) → le n (le_bytes n x) 0 ≡ x % 256 ^ n
le_le_bytes = order.read_write little_endian

pub le_sets : (n : ℕ) (s : List ℕ) (at x : ℕ) → at + n ≤ length s → x < 256 ^ n → le n (sets s at (le_bytes n x)) at ≡ x
le_sets = order.read_sets little_endian
