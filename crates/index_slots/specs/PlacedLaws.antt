-- Slots put behind others, piece by piece; what is beside the slots stays; what then stands in an index. Assumes nothing.
use Rattle.std.specs.Prelude.{◌≡◌, refl, ◌⊎◌, ℕ, zero, suc, ◌+◌, ◌≤◌, ◌<◌, List, [], ◌∷◌, ◌++◌, length, get_or}
use Rattle.std.proofs.Common.{ap, ◌∙◌, inl, inr, suc-add, arith}
use Rattle.std.proofs.lemmas.List.Edits.{sets}
use Rattle.lists.specs.Lists.{All}
use Rattle.endian.specs.Endian.{le, le_bytes}
use Rattle.endian.specs.SetsLaws.{get_d_sets_after}
use Rattle.endian.specs.EndianLaws.{length_le_bytes, le_sets_before, le_sets_after}
use Rattle.index_layout.specs.Places.{index_size, key_place, word_place, most_slots, last_key}
use Rattle.index_layout.specs.Keys.{no_key}
use Rattle.index_slots.specs.Slots.{Slot, no_slot, Fits, key_at, slot_at, put_slot, stored, placed}
use Rattle.index_slots.specs.Cleared.{cleared}
use Rattle.index_slots.specs.SlotsLaws.{length_stored, stored_append, slot_at_stored_later, slot_at_stored}
use Rattle.index_slots.specs.ClearedLaws.{length_cleared, get_d_cleared_past, key_at_cleared, slot_at_cleared_first}
use Rattle.index_slots.specs.SortedLaws.{all_get_d}

-- some first, then the others
pub placed_append : (count n : ℕ) (xs ys : List Slot) (o : List ℕ)
    → placed count n (xs ++ ys) o ≡ placed (count + length xs) n ys (placed count n xs o)
unfolding placed
placed_append count n xs ys o =
    stored_append n o (suc count) xs ys ∙ ap (λ (k : ℕ). stored n (stored n o (suc count) xs) k ys) (suc-add count (length xs))

-- ---- what is beside the slots

-- bytes past the words
pub get_d_stored_past : (n : ℕ) (o : List ℕ) (a : ℕ) (xs : List Slot) (k d : ℕ) → a + length xs ≤ most_slots n + 1 → index_size n ≤ k
    → get_or (stored n o a xs) k d ≡ get_or o k d
unfolding stored put_slot
get_d_stored_past n o a [] k d l h = refl
get_d_stored_past n o a (x ∷ xs) k d l h =
    get_d_stored_past n (put_slot o n a x) (suc a) xs k d (omega arith) h
    ∙ get_d_sets_after (sets o (key_place n a) (le_bytes 8 x.key)) (word_place n a) (le_bytes 8 x.word) k d
    (omega (arith, h, l, length_le_bytes 8 x.word))
    ∙ get_d_sets_after o (key_place n a) (le_bytes 8 x.key) k d (omega (arith, h, l, length_le_bytes 8 x.key))

-- a number of m bytes at a place stands apart from slot j
abbrev pub Beside : ℕ → ℕ → ℕ → ℕ → Type 0
Beside n m at j =
    (at + m ≤ key_place n j) ⊎ ((key_place n j + 8 ≤ at) × ((at + m ≤ word_place n j) ⊎ (word_place n j + 8 ≤ at)))

pub le_stored : (n : ℕ) (o : List ℕ) (a : ℕ) (xs : List Slot) (m at : ℕ) → a + length xs ≤ most_slots n + 1
    → ((j : ℕ) → a ≤ j → j < a + length xs → Beside n m at j)
    → le m (stored n o a xs) at ≡ le m o at
unfolding stored put_slot
le_stored n o a [] m at l h = refl
le_stored n o a (x ∷ xs) m at l h =
    le_stored n (put_slot o n a x) (suc a) xs m at (omega arith) (λ j p q. h j (omega arith) (omega arith))
    ∙ go (h a (omega arith) (omega arith))
  where
    go : Beside n m at a → le m (sets (sets o (key_place n a) (le_bytes 8 x.key)) (word_place n a) (le_bytes 8 x.word)) at ≡ le m o at
    go (inl p) =
        le_sets_before m (sets o (key_place n a) (le_bytes 8 x.key)) (word_place n a) (le_bytes 8 x.word) at (omega (arith, p, l))
        ∙ le_sets_before m o (key_place n a) (le_bytes 8 x.key) at p
    go (inr (p, inl q)) =
        le_sets_before m (sets o (key_place n a) (le_bytes 8 x.key)) (word_place n a) (le_bytes 8 x.word) at q
        ∙ le_sets_after m o (key_place n a) (le_bytes 8 x.key) at (omega (arith, p, length_le_bytes 8 x.key))
    go (inr (p, inr q)) =
        le_sets_after m (sets o (key_place n a) (le_bytes 8 x.key)) (word_place n a) (le_bytes 8 x.word) at
        (omega (arith, q, length_le_bytes 8 x.word))
        ∙ le_sets_after m o (key_place n a) (le_bytes 8 x.key) at (omega (arith, p, length_le_bytes 8 x.key))

-- the keys behind the last slot are as they were
key_at_stored_past : (n : ℕ) (o : List ℕ) (xs : List Slot) (i : ℕ) → length xs ≤ most_slots n → length xs < i → i ≤ last_key n
    → key_at (stored n o 1 xs) n i ≡ key_at o n i
unfolding key_at
key_at_stored_past n o xs i l h k =
    le_stored n o 1 xs 8 (key_place n i) (omega arith) (λ j p q. inr (omega arith, inl (omega arith)))

-- ---- over an index with no slots

module _ (n : ℕ) (o : List ℕ) (room : index_size n ≤ length o) where
  module _ (ys : List Slot) (few : length ys ≤ most_slots n) (fits : All Fits ys) where
    pub length_held : length (stored n (cleared n o) 1 ys) ≡ length o
    length_held = length_stored n (cleared n o) 1 ys ∙ length_cleared n o room

    -- slot 0, then the list
    pub slot_at_held : (i : ℕ) → i ≤ length ys → slot_at (stored n (cleared n o) 1 ys) n i ≡ get_or (no_slot ∷ ys) i no_slot
    slot_at_held zero h = slot_at_stored_later n (cleared n o) 0 1 ys (omega arith) (omega arith) ∙ slot_at_cleared_first n o room
    slot_at_held (suc i) h =
        let one : suc i ≡ 1 + i = omega arith in
        ap (λ (k : ℕ). slot_at (stored n (cleared n o) 1 ys) n k) one
        ∙ slot_at_stored n (cleared n o) 1 ys i (omega arith) (omega arith) (omega (arith, room, length_cleared n o room))
        (all_get_d Fits ys (omega arith, omega arith) fits i)

    -- then keys above all
    pub key_at_held_past : (i : ℕ) → length ys < i → i ≤ last_key n → key_at (stored n (cleared n o) 1 ys) n i ≡ no_key
    key_at_held_past i h l = key_at_stored_past n (cleared n o) ys i few h l ∙ key_at_cleared n o room i (omega arith) l

    -- and past the index what was there
    pub get_d_held_past : (k d : ℕ) → index_size n ≤ k → get_or (stored n (cleared n o) 1 ys) k d ≡ get_or o k d
    get_d_held_past k d h = get_d_stored_past n (cleared n o) 1 ys k d (omega arith) h ∙ get_d_cleared_past n o k d h
