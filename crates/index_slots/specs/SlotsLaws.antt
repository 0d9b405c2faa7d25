-- Storing a slot and reading one; storing a list of slots, over one of them, and reading one. Assumes nothing.
use Rattle.std.specs.Prelude.{◌≡◌, refl, ℕ, zero, suc, ◌+◌, ◌≤◌, ◌<◌, List, [], ◌∷◌, ◌++◌, length, get_or, set}
use Rattle.std.proofs.Common.{sym, ap, ◌∙◌, add-zero, add-suc, suc-add, arith}
use Rattle.std.proofs.lemmas.List.Edits.{sets}
use Rattle.std.proofs.Math.Seq.{length-sets}
use Rattle.endian.specs.Endian.{le, le_bytes}
use Rattle.endian.specs.EndianLaws.{length_le_bytes, le_sets_before, le_sets_after, le_sets}
use Rattle.endian.specs.SetsLaws.{sets_comm, sets_over}
use Rattle.index_layout.specs.Places.{index_size, key_place, word_place, most_slots}
use Rattle.index_slots.specs.Slots.{Slot, no_slot, Fits, key_at, word_at, slot_at, put_slot, stored}

length8 : (x : ℕ) → length (le_bytes 8 x) ≡ 8
length8 x = length_le_bytes 8 x

swap : (o : List ℕ) (i x j y : ℕ) → i + 8 ≤ j
    → sets (sets o i (le_bytes 8 x)) j (le_bytes 8 y) ≡ sets (sets o j (le_bytes 8 y)) i (le_bytes 8 x)
swap o i x j y h = sets_comm o i (le_bytes 8 x) j (le_bytes 8 y) (omega (arith, h, length8 x))

over : (o : List ℕ) (i x y : ℕ) → sets (sets o i (le_bytes 8 x)) i (le_bytes 8 y) ≡ sets o i (le_bytes 8 y)
over o i x y = sets_over o i (le_bytes 8 x) (le_bytes 8 y) (length8 x ∙ sym (length8 y))

pub length_put_slot : (o : List ℕ) (n i : ℕ) (x : Slot) → length (put_slot o n i x) ≡ length o
unfolding put_slot
length_put_slot o n i x =
    length-sets (sets o (key_place n i) (le_bytes 8 x.key)) (word_place n i) (le_bytes 8 x.word)
    ∙ length-sets o (key_place n i) (le_bytes 8 x.key)

-- ---- one slot

pub put_over : (o : List ℕ) (n i : ℕ) (x y : Slot) → i ≤ most_slots n → put_slot (put_slot o n i x) n i y ≡ put_slot o n i y
unfolding put_slot
put_over o n i x y h =
    ap (λ (t : List ℕ). sets t (word_place n i) (le_bytes 8 y.word))
    (sym (swap (sets o (key_place n i) (le_bytes 8 x.key)) (key_place n i) y.key (word_place n i) x.word (omega arith))
    ∙ ap (λ (t : List ℕ). sets t (word_place n i) (le_bytes 8 x.word)) (over o (key_place n i) x.key y.key))
    ∙ over (sets o (key_place n i) (le_bytes 8 y.key)) (word_place n i) x.word y.word

-- four stores, in the order of their places and in another
four : (o : List ℕ) (i a j b k c l d : ℕ) → i + 8 ≤ j → j + 8 ≤ k → k + 8 ≤ l
    → sets (sets (sets (sets o i (le_bytes 8 a)) k (le_bytes 8 c)) j (le_bytes 8 b)) l (le_bytes 8 d)
    ≡ sets (sets (sets (sets o j (le_bytes 8 b)) l (le_bytes 8 d)) i (le_bytes 8 a)) k (le_bytes 8 c)
four o i a j b k c l d p q r =
    ap (λ (t : List ℕ). sets t l (le_bytes 8 d)) (sym (swap (sets o i (le_bytes 8 a)) j b k c q))
    ∙ swap (sets (sets o i (le_bytes 8 a)) j (le_bytes 8 b)) k c l d r
    ∙ ap (λ (t : List ℕ). sets t k (le_bytes 8 c))
    (ap (λ (t : List ℕ). sets t l (le_bytes 8 d)) (swap o i a j b p) ∙ swap (sets o j (le_bytes 8 b)) i a l d (omega arith))

pub put_comm : (o : List ℕ) (n i j : ℕ) (x y : Slot) → i < j → j ≤ most_slots n
    → put_slot (put_slot o n i x) n j y ≡ put_slot (put_slot o n j y) n i x
unfolding put_slot
put_comm o n i j x y h l =
    four o (key_place n i) x.key (key_place n j) y.key (word_place n i) x.word (word_place n j) y.word
    (omega arith) (omega arith) (omega arith)

pub slot_at_put_later : (o : List ℕ) (n i j : ℕ) (x : Slot) → i < j → j ≤ most_slots n → slot_at (put_slot o n j x) n i ≡ slot_at o n i
unfolding put_slot key_at word_at
slot_at_put_later o n i j x h l = λ p. record { key = key p; word = word p }
  where
    key : le 8 (sets (sets o (key_place n j) (le_bytes 8 x.key)) (word_place n j) (le_bytes 8 x.word))
        (key_place n i) ≡ le 8 o (key_place n i)
    key =
        le_sets_before 8 (sets o (key_place n j) (le_bytes 8 x.key)) (word_place n j) (le_bytes 8 x.word) (key_place n i) (omega arith)
        ∙ le_sets_before 8 o (key_place n j) (le_bytes 8 x.key) (key_place n i) (omega arith)

    word : le 8 (sets (sets o (key_place n j) (le_bytes 8 x.key)) (word_place n j) (le_bytes 8 x.word))
        (word_place n i) ≡ le 8 o (word_place n i)
    word =
        le_sets_before 8 (sets o (key_place n j) (le_bytes 8 x.key)) (word_place n j) (le_bytes 8 x.word) (word_place n i) (omega arith)
        ∙ le_sets_after 8 o (key_place n j) (le_bytes 8 x.key) (word_place n i) (omega (arith, length8 x.key))

pub slot_at_put : (o : List ℕ) (n i : ℕ) (x : Slot) → i ≤ most_slots n → index_size n ≤ length o → Fits x
    → slot_at (put_slot o n i x) n i ≡ x
unfolding put_slot key_at word_at
slot_at_put o n i x h room fits = λ p. record { key = key p; word = word p }
  where
    key : le 8 (sets (sets o (key_place n i) (le_bytes 8 x.key)) (word_place n i) (le_bytes 8 x.word))
        (key_place n i) ≡ x.key
    key =
        le_sets_before 8 (sets o (key_place n i) (le_bytes 8 x.key)) (word_place n i) (le_bytes 8 x.word) (key_place n i) (omega arith)
        ∙ le_sets 8 o (key_place n i) x.key (omega arith) fits.0

    word : le 8 (sets (sets o (key_place n i) (le_bytes 8 x.key)) (word_place n i) (le_bytes 8 x.word))
        (word_place n i) ≡ x.word
    word =
        le_sets 8 (sets o (key_place n i) (le_bytes 8 x.key)) (word_place n i) x.word
        (omega (arith, length-sets o (key_place n i) (le_bytes 8 x.key))) fits.1

-- ---- a list of slots

pub length_stored : (n : ℕ) (o : List ℕ) (a : ℕ) (xs : List Slot) → length (stored n o a xs) ≡ length o
unfolding stored
length_stored n o a [] = refl
length_stored n o a (x ∷ xs) = length_stored n (put_slot o n a x) (suc a) xs ∙ length_put_slot o n a x

pub stored_append : (n : ℕ) (o : List ℕ) (a : ℕ) (xs ys : List Slot)
    → stored n o a (xs ++ ys) ≡ stored n (stored n o a xs) (a + length xs) ys
unfolding stored
stored_append n o a [] ys = ap (λ (k : ℕ). stored n o k ys) (sym (add-zero a))
stored_append n o a (x ∷ xs) ys =
    stored_append n (put_slot o n a x) (suc a) xs ys
    ∙ ap (λ (k : ℕ). stored n (stored n (put_slot o n a x) (suc a) xs) k ys) (suc-add a (length xs) ∙ sym (add-suc a (length xs)))

pub stored_snoc : (n : ℕ) (o : List ℕ) (a : ℕ) (xs : List Slot) (y : Slot)
    → stored n o a (xs ++ y ∷ []) ≡ put_slot (stored n o a xs) n (a + length xs) y
unfolding stored
stored_snoc n o a xs y = stored_append n o a xs (y ∷ [])

-- an earlier slot may as well be stored first
pub put_stored_earlier : (n : ℕ) (o : List ℕ) (a b : ℕ) (xs : List Slot) (y : Slot) → a < b → b + length xs ≤ most_slots n + 1
    → put_slot (stored n o b xs) n a y ≡ stored n (put_slot o n a y) b xs
unfolding stored
put_stored_earlier n o a b [] y h l = refl
put_stored_earlier n o a b (x ∷ xs) y h l =
    put_stored_earlier n (put_slot o n b x) a (suc b) xs y (omega arith) (omega arith)
    ∙ ap (λ (t : List ℕ). stored n t (suc b) xs) (sym (put_comm o n a b y x h (omega arith)))

-- a slot stored over one of the list
pub put_stored : (n : ℕ) (o : List ℕ) (a : ℕ) (xs : List Slot) (i : ℕ) (y : Slot) → i < length xs → a + length xs ≤ most_slots n + 1
    → put_slot (stored n o a xs) n (a + i) y ≡ stored n o a (set xs i y)
unfolding stored
put_stored n o a [] i y h l = absurd (omega arith)
put_stored n o a (x ∷ xs) zero y h l =
    ap (λ (k : ℕ). put_slot (stored n (put_slot o n a x) (suc a) xs) n k y) (add-zero a)
    ∙ put_stored_earlier n (put_slot o n a x) a (suc a) xs y (omega arith) (omega arith)
    ∙ ap (λ (t : List ℕ). stored n t (suc a) xs) (put_over o n a x y (omega arith))
put_stored n o a (x ∷ xs) (suc i) y h l =
    ap (λ (k : ℕ). put_slot (stored n (put_slot o n a x) (suc a) xs) n k y) (add-suc a i ∙ sym (suc-add a i))
    ∙ put_stored n (put_slot o n a x) (suc a) xs i y (omega arith) (omega arith)

pub slot_at_stored_later : (n : ℕ) (o : List ℕ) (a b : ℕ) (xs : List Slot) → a < b → b + length xs ≤ most_slots n + 1
    → slot_at (stored n o b xs) n a ≡ slot_at o n a
unfolding stored
slot_at_stored_later n o a b [] h l = refl
slot_at_stored_later n o a b (x ∷ xs) h l =
    slot_at_stored_later n (put_slot o n b x) a (suc b) xs (omega arith) (omega arith) ∙ slot_at_put_later o n a b x h (omega arith)

-- the slot that stands at a place of the list
pub slot_at_stored : (n : ℕ) (o : List ℕ) (a : ℕ) (xs : List Slot) (i : ℕ) → i < length xs → a + length xs ≤ most_slots n + 1
    → index_size n ≤ length o → Fits (get_or xs i no_slot) → slot_at (stored n o a xs) n (a + i) ≡ get_or xs i no_slot
unfolding stored
slot_at_stored n o a [] i h l room f = absurd (omega arith)
slot_at_stored n o a (x ∷ xs) zero h l room f =
    ap (λ (k : ℕ). slot_at (stored n (put_slot o n a x) (suc a) xs) n k) (add-zero a)
    ∙ slot_at_stored_later n (put_slot o n a x) a (suc a) xs (omega arith) (omega arith)
    ∙ slot_at_put o n a x (omega arith) room f
slot_at_stored n o a (x ∷ xs) (suc i) h l room f =
    ap (λ (k : ℕ). slot_at (stored n (put_slot o n a x) (suc a) xs) n k) (add-suc a i ∙ sym (suc-add a i))
    ∙ slot_at_stored n (put_slot o n a x) (suc a) xs i (omega arith) (omega arith) (omega (arith, room, length_put_slot o n a x)) f
