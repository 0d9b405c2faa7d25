-- What the two byte orders have in common, and each law that follows from it, once for both and over every width.
-- `EndianLaws` says that `be` and `le` are such orders, and has their laws by name. Assumes nothing.
use Rattle.std.specs.Prelude.{◌≡◌, ℕ, zero, suc, ◌+◌, ◌%◌, ◌^◌, ◌≤◌, ◌<◌, List, [], ◌∷◌, ◌++◌, length, get_or, take, drop}
use Rattle.std.proofs.Common.{sym, ap, ap₂, ◌∙◌, add-zero, zero-add, mod-eq_of_lt, add-one, arith, length-append, drop-cons, get_or-drop, get_or-take, get_or-append-add}
use Rattle.std.proofs.Math.Nat.{pow-zero, mod-one}
use Rattle.std.proofs.Math.ListN.{get_or-append}
use Rattle.std.proofs.lemmas.List.Edits.{sets}
use Rattle.endian.specs.Endian.{Bytes}
use Rattle.endian.specs.BytesLaws.{bytes_nil, bytes_cons}
use Rattle.endian.specs.SetsLaws.{get_d_sets_before, get_d_sets_after, get_d_sets_at}

-- A way to read n bytes as a number and to write them. `step n b r` is the number of a byte b with n bytes after it that spell r;
-- `first n x` is the byte that is written before n others, and `rest n x` the number whose n bytes those are.
pub record ByteOrder (read : ℕ → List ℕ → ℕ → ℕ) (write : ℕ → ℕ → List ℕ) : Type 0 where
  pub step : ℕ → ℕ → ℕ → ℕ
  pub first : ℕ → ℕ → ℕ
  pub rest : ℕ → ℕ → ℕ
  pub read_zero : (s : List ℕ) (at : ℕ) → read zero s at ≡ 0
  pub read_suc : (n : ℕ) (s : List ℕ) (at : ℕ) → read (suc n) s at ≡ step n (get_or s at 0) (read n s (at + 1))
  pub write_zero : (x : ℕ) → write zero x ≡ []
  pub write_suc : (n x : ℕ) → write (suc n) x ≡ first n x ∷ write n (rest n x)
  pub step_lt : (n b r : ℕ) → b < 256 → r < 256 ^ n → step n b r < 256 ^ suc n
  pub step_first : (n x : ℕ) → step n (first n x) (rest n x % 256 ^ n) ≡ x % 256 ^ suc n
  pub first_lt : (n x : ℕ) → first n x < 256
  pub first_step : (n b r : ℕ) → b < 256 → r < 256 ^ n → first n (step n b r) ≡ b
  pub write_rest_step : (n b r : ℕ) → b < 256 → r < 256 ^ n → write n (rest n (step n b r)) ≡ write n r

module _ {read : ℕ → List ℕ → ℕ → ℕ} {write : ℕ → ℕ → List ℕ} (o : ByteOrder read write) where
  -- ---- a number depends on its bytes only, wherever they stand

  pub read_agree : (n : ℕ) (s t : List ℕ) (i j : ℕ) → ((k : ℕ) → k < n → get_or s (i + k) 0 ≡ get_or t (j + k) 0) → read n s i ≡ read n t j
  read_agree zero s t i j h = o.read_zero s i ∙ sym (o.read_zero t j)
  read_agree (suc n) s t i j h =
      o.read_suc n s i ∙ ap₂ (o.step n) here (read_agree n s t (i + 1) (j + 1) later) ∙ sym (o.read_suc n t j)
    where
      here : get_or s i 0 ≡ get_or t j 0
      here = rw (add-zero i, add-zero j) at (h 0 (omega arith))

      later : (k : ℕ) → k < n → get_or s (i + 1 + k) 0 ≡ get_or t (j + 1 + k) 0
      later k l =
          let p : i + 1 + k ≡ i + (k + 1) = omega arith in
          let q : j + 1 + k ≡ j + (k + 1) = omega arith in
          rw (p, q) (h (k + 1) (omega arith))

  pub read_drop : (n k : ℕ) (s : List ℕ) (at : ℕ) → read n (drop k s) at ≡ read n s (k + at)
  read_drop n k s at = read_agree n (drop k s) s at (k + at) (λ j l. let e : k + at + j ≡ k + (at + j) = omega arith in rw (get_or-drop, e))

  pub read_take : (n k : ℕ) (s : List ℕ) (at : ℕ) → at + n ≤ k → read n (take k s) at ≡ read n s at
  read_take n k s at h = read_agree n (take k s) s at at (λ j l. get_or-take k s (at + j) 0 (omega arith))

  pub read_append : (n : ℕ) (a b : List ℕ) (at : ℕ) → at + n ≤ length a → read n (a ++ b) at ≡ read n a at
  read_append n a b at h = read_agree n (a ++ b) a at at (λ j l. get_or-append a b 0 (at + j) (omega arith))

  pub read_append_add : (n : ℕ) (a b : List ℕ) (at : ℕ) → read n (a ++ b) (length a + at) ≡ read n b at
  read_append_add n a b at =
      read_agree n (a ++ b) b (length a + at) at
      (λ j l. let e : length a + at + j ≡ length a + (at + j) = omega arith in rw e (get_or-append-add a b (at + j) 0))

  pub read_sets_before : (n : ℕ) (s : List ℕ) (i : ℕ) (vs : List ℕ) (at : ℕ) → at + n ≤ i → read n (sets s i vs) at ≡ read n s at
  read_sets_before n s i vs at h = read_agree n (sets s i vs) s at at (λ j l. get_d_sets_before s i vs (at + j) 0 (omega arith))

  pub read_sets_after : (n : ℕ) (s : List ℕ) (i : ℕ) (vs : List ℕ) (at : ℕ) → i + length vs ≤ at → read n (sets s i vs) at ≡ read n s at
  read_sets_after n s i vs at h = read_agree n (sets s i vs) s at at (λ j l. get_d_sets_after s i vs (at + j) 0 (omega arith))

  -- ---- sizes

  pub read_lt : (n : ℕ) (s : List ℕ) (at : ℕ) → Bytes s → read n s at < 256 ^ n
  read_lt zero s at b = omega (arith, o.read_zero s at, pow-zero 256)
  read_lt (suc n) s at b = rw (o.read_suc n s at) (o.step_lt n _ _ (b at) (read_lt n s (at + 1) b))

  pub length_write : (n x : ℕ) → length (write n x) ≡ n
  length_write zero x = ap length (o.write_zero x)
  length_write (suc n) x = ap length (o.write_suc n x) ∙ ap suc (length_write n (o.rest n x))

  pub bytes_write : (n x : ℕ) → Bytes (write n x)
  bytes_write zero x = rw (o.write_zero x) bytes_nil
  bytes_write (suc n) x = rw (o.write_suc n x) (bytes_cons _ (write n (o.rest n x)) (o.first_lt n x) (bytes_write n (o.rest n x)))

  -- ---- round trips

  -- n bytes hold a number up to multiples of 256 ^ n
  pub read_write : (n x : ℕ) → read n (write n x) 0 ≡ x % 256 ^ n
  read_write zero x = o.read_zero (write zero x) 0 ∙ sym (mod-one x)
  read_write (suc n) x =
      o.read_suc n (write (suc n) x) 0
      ∙ rw (o.write_suc n x, read_append_add n (o.first n x ∷ []) (write n (o.rest n x)) 0, read_write n (o.rest n x))
      (o.step_first n x)

  pub read_write_at : (n x : ℕ) (before after : List ℕ) → x < 256 ^ n → read n (before ++ write n x ++ after) (length before) ≡ x
  read_write_at n x before after h =
      read_append n (before ++ write n x) after (length before) (omega (arith, length-append before (write n x), length_write n x))
      ∙ rw (← add-zero (length before)) (read_append_add n before (write n x) 0)
      ∙ read_write n x ∙ mod-eq_of_lt h

  -- what was stored is read back
  pub read_sets : (n : ℕ) (s : List ℕ) (at x : ℕ) → at + n ≤ length s → x < 256 ^ n → read n (sets s at (write n x)) at ≡ x
  read_sets n s at x f h = read_agree n (sets s at (write n x)) (write n x) at 0 stored ∙ read_write n x ∙ mod-eq_of_lt h
    where
      stored : (k : ℕ) → k < n → get_or (sets s at (write n x)) (at + k) 0 ≡ get_or (write n x) (0 + k) 0
      stored k l = rw (zero-add k) (get_d_sets_at s at (write n x) k 0 (omega (arith, length_write n x)) (omega arith))

  pub write_read : (n : ℕ) (s : List ℕ) (at : ℕ) → Bytes s → at + n ≤ length s → write n (read n s at) ≡ take n (drop at s)
  write_read zero s at b h = o.write_zero _
  write_read (suc n) s at b h =
      ap (write (suc n)) (o.read_suc n s at)
      ∙ o.write_suc n _
      ∙ ap₂ ◌∷◌ (o.first_step n _ _ (b at) small) (o.write_rest_step n _ _ (b at) small ∙ write_read n s (at + 1) b (omega arith))
      ∙ rw (add-one at, drop-cons s at 0 (omega arith))
    where
      small : read n s (at + 1) < 256 ^ n
      small = read_lt n s (at + 1) b
