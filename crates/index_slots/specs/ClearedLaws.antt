-- The keys of an index with no slots, and slot 0; the turns of the loop that stores copies. Assumes nothing.
use Rattle.std.specs.Prelude.{◌≡◌, refl, ℕ, zero, suc, ◌+◌, ◌-◌, ◌*◌, ◌≤◌, ◌<◌, List, length, get_or}
use Rattle.std.proofs.Math.Path.{ap}
use Rattle.std.proofs.Common.{ap₂, ◌∙◌, length-append}
use native.Mathlib.Omega.{arith}
use Rattle.std.proofs.lemmas.List.Edits.{sets}
use Rattle.std.proofs.Math.Seq.{length-sets}
use Rattle.endian.specs.Endian.{le, le_bytes}
use Rattle.endian.specs.EndianLaws.{length_le_bytes, le_sets, le_sets_before}
use Rattle.endian.specs.SetsLaws.{sets_sets, get_d_sets_after}
use Rattle.index_layout.specs.Places.{index_size, key_place, word_place, last_key, front_numbers, back_numbers}
use Rattle.index_layout.specs.Keys.{no_key}
use Rattle.index_slots.specs.Slots.{no_slot, key_at, word_at, slot_at}
use Rattle.index_slots.specs.Cleared.{copies, cleared}

pub length_copies : (k v : ℕ) → length (copies k v) ≡ 8 * k
unfolding copies
length_copies zero v = refl
length_copies (suc k) v = length-append (le_bytes 8 v) (copies k v) ∙ omega (arith, length_le_bytes 8 v, length_copies k v)

pub le_copies : (k v : ℕ) (o : List ℕ) (at j : ℕ) → j < k → at + 8 * k ≤ length o → v < 18446744073709551616
    → le 8 (sets o at (copies k v)) (at + 8 * j) ≡ v
unfolding copies
le_copies zero v o at j h l f = absurd (omega arith)
le_copies (suc k) v o at zero h l f =
    let z : at + 8 * 0 ≡ at = omega arith in
    rw (z, ← sets_sets o at (le_bytes 8 v) (copies k v))
    (le_sets_before 8 (sets o at (le_bytes 8 v)) (at + length (le_bytes 8 v)) (copies k v) at (omega (arith, length_le_bytes 8 v))
    ∙ le_sets 8 o at v (omega arith) f)
le_copies (suc k) v o at (suc j) h l f =
    let z : at + 8 * suc j ≡ at + length (le_bytes 8 v) + 8 * j = omega (arith, length_le_bytes 8 v) in
    rw (z, ← sets_sets o at (le_bytes 8 v) (copies k v))
    (le_copies k v (sets o at (le_bytes 8 v)) (at + length (le_bytes 8 v)) j (omega arith)
    (omega (arith, l, length_le_bytes 8 v, length-sets o at (le_bytes 8 v))) f)

-- ---- the loop's turns

pub copies_start : (k v at : ℕ) (o : List ℕ) → sets o (at + 8 * 0) (copies (k - 0) v) ≡ sets o at (copies k v)
copies_start k v at o =
    let d : k - 0 ≡ k = omega arith in let z : at + 8 * 0 ≡ at = omega arith in ap₂ (λ (i j : ℕ). sets o i (copies j v)) z d

pub copies_turn : {t : List ℕ} (k v at i : ℕ) (o : List ℕ) → i < k → t ≡ sets o (at + 8 * i) (le_bytes 8 v)
    → sets t (at + 8 * (i + 1)) (copies (k - (i + 1)) v) ≡ sets o (at + 8 * i) (copies (k - i) v)
unfolding copies
copies_turn {t} k v at i o h e =
    let d : k - i ≡ suc (k - (i + 1)) = omega arith in
    let a : at + 8 * (i + 1) ≡ at + 8 * i + length (le_bytes 8 v) = omega (arith, length_le_bytes 8 v) in
    rw (d, e, a) (sets_sets o (at + 8 * i) (le_bytes 8 v) (copies (k - (i + 1)) v))

pub copies_end : (k v at i : ℕ) (o : List ℕ) → k ≤ i → sets o (at + 8 * i) (copies (k - i) v) ≡ o
unfolding copies
copies_end k v at i o h = let d : k - i ≡ 0 = omega arith in rw d refl

-- ---- what an index with no slots holds

pub get_d_cleared_past : (n : ℕ) (o : List ℕ) (k d : ℕ) → index_size n ≤ k → get_or (cleared n o) k d ≡ get_or o k d
unfolding cleared
get_d_cleared_past n o k d h =
    get_d_sets_after (sets (sets o 0 (copies (front_numbers n) 0)) (key_place n 1) (copies (last_key n) no_key)) (word_place n 0)
    (copies (back_numbers n) 0) k d (omega (arith, h, length_copies (back_numbers n) 0))
    ∙ get_d_sets_after (sets o 0 (copies (front_numbers n) 0)) (key_place n 1) (copies (last_key n) no_key) k d
    (omega (arith, h, length_copies (last_key n) no_key))
    ∙ get_d_sets_after o 0 (copies (front_numbers n) 0) k d (omega (arith, h, length_copies (front_numbers n) 0))

module _ (n : ℕ) (o : List ℕ) (room : index_size n ≤ length o) where
  pub length_cleared : length (cleared n o) ≡ length o
  unfolding cleared
  length_cleared =
      length-sets (sets (sets o 0 (copies (front_numbers n) 0)) (key_place n 1) (copies (last_key n) no_key)) (word_place n 0)
      (copies (back_numbers n) 0)
      ∙ length-sets (sets o 0 (copies (front_numbers n) 0)) (key_place n 1) (copies (last_key n) no_key)
      ∙ length-sets o 0 (copies (front_numbers n) 0)

  pub key_at_cleared : (i : ℕ) → 0 < i → i ≤ last_key n → key_at (cleared n o) n i ≡ no_key
  unfolding cleared key_at
  key_at_cleared i h l =
      let z : key_place n i ≡ key_place n 1 + 8 * (i - 1) = omega arith in
      le_sets_before 8 (sets (sets o 0 (copies (front_numbers n) 0)) (key_place n 1) (copies (last_key n) no_key)) (word_place n 0)
      (copies (back_numbers n) 0) (key_place n i) (omega arith)
      ∙ rw z (le_copies (last_key n) no_key (sets o 0 (copies (front_numbers n) 0)) (key_place n 1) (i - 1) (omega arith)
      (omega (arith, room, length-sets o 0 (copies (front_numbers n) 0))) (omega arith))

  key_at_cleared_first : key_at (cleared n o) n 0 ≡ 0
  unfolding cleared key_at
  key_at_cleared_first =
      let z : key_place n 0 ≡ 0 + 8 * (126 + 8 * n) = omega arith in
      le_sets_before 8 (sets (sets o 0 (copies (front_numbers n) 0)) (key_place n 1) (copies (last_key n) no_key)) (word_place n 0)
      (copies (back_numbers n) 0) (key_place n 0) (omega arith)
      ∙ le_sets_before 8 (sets o 0 (copies (front_numbers n) 0)) (key_place n 1) (copies (last_key n) no_key) (key_place n 0) (omega arith)
      ∙ rw z (le_copies (front_numbers n) 0 o 0 (126 + 8 * n) (omega arith) (omega arith) (omega arith))

  word_at_cleared_first : word_at (cleared n o) n 0 ≡ 0
  unfolding cleared word_at
  word_at_cleared_first =
      let z : word_place n 0 ≡ word_place n 0 + 8 * 0 = omega arith in
      ap (le 8 (cleared n o)) z
      ∙ le_copies (back_numbers n) 0 (sets (sets o 0 (copies (front_numbers n) 0)) (key_place n 1) (copies (last_key n) no_key)) (word_place n 0)
      0 (omega arith)
      (omega (
        arith,
        room,
        length-sets (sets o 0 (copies (front_numbers n) 0)) (key_place n 1) (copies (last_key n) no_key),
        length-sets o 0 (copies (front_numbers n) 0),
      ))
      (omega arith)

  pub slot_at_cleared_first : slot_at (cleared n o) n 0 ≡ no_slot
  slot_at_cleared_first = λ p. record { key = key_at_cleared_first p; word = word_at_cleared_first p }
