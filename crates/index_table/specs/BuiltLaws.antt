-- An index that was built: its first bytes, its slots in order, and that the search finds for each key below 2^62 the last slot whose key
-- is not above it. Assumes nothing.
use Rattle.std.specs.Prelude.{◌≡◌, ℕ, suc, ◌+◌, ◌<◌, ◌≤◌, Bool, true, false, cond, ltb, leb, List, [], ◌∷◌, length, get_or, nat_le, nat_lt, slice_index_or, slice_set, refl}
use Rattle.std.proofs.Common.{sym, ◌∙◌, ltb-true, ltb-false, lt-ltb, leb-true, leb-false, le-leb}
use Rattle.std.proofs.Math.Path.{ap}
use native.Mathlib.Omega.{arith}
use Rattle.std.proofs.Math.ListN.{length-set}
use Rattle.std.proofs.lemmas.List.Edits.{sets}
use Rattle.std.proofs.Math.Seq.{length-sets, get_or-set_same}
use Rattle.std.proofs.lemmas.Bool.{lt-leb}
use Rattle.lists.specs.Lists.{All}
use Rattle.lists.specs.ListLaws.{all_of, all_imp}
use Rattle.endian.specs.Endian.{le, le_bytes}
use Rattle.endian.specs.EndianLaws.{length_le_bytes, le_agree, le_sets, le_sets_before}
use Rattle.endian.specs.SetsLaws.{get_d_sets_before, get_d_sets_after}
use Rattle.records.specs.Limits.{most_functions}
use Rattle.index_layout.specs.Places.{index_size, functions_place, root_place, width_place, bucket_place, key_place, word_place}
use Rattle.index_layout.specs.Places.{most_slots, last_key, buckets}
use Rattle.index_layout.specs.Keys.{no_key, segment_of}
use Rattle.index_layout.specs.KeysLaws.{segment_lt}
use Rattle.index_slots.specs.Slots.{Slot, no_slot, Fits, Ordered, key_at, word_at, slot_at, stored}
use Rattle.index_slots.specs.Slots.{sorted}
use Rattle.index_slots.specs.Cleared.{cleared}
use Rattle.index_slots.specs.SortedLaws.{all_get_d, rising_of_ordered, length_inserted, all_inserted, inserted_ordered}
use Rattle.index_slots.specs.PlacedLaws.{length_held, slot_at_held, key_at_held_past, get_d_held_past}
use Rattle.index_table.specs.Table.{bucket_by, bucket_of, bucket_at, segmented, tabled, width_of, headed, finished, built}
use Rattle.index_table.specs.Search.{cut, key_of, last_in, lead_at, width_at, found_at, Last, Searchable}
use Rattle.index_table.specs.SegmentLaws.{least_le, least_small, bucket_le, bucket_monotone, bucket_by_agree}
use Rattle.index_table.specs.SegmentLaws.{get_d_segmented, length_segmented}
use Rattle.index_table.specs.TableLaws.{Entry, Leads, entry_agree, leads_of_entries, length_tabled, get_d_tabled_before}
use Rattle.index_table.specs.TableLaws.{get_d_tabled_after, entry_tabled, step_le_width, width_le}
use Rattle.index_table.specs.SearchLaws.{cut_small, bucket_last, last_agree}

-- ---- the first bytes

module _ (n root width : ℕ) (o : List ℕ) where
  pub length_headed : length (headed n root width o) ≡ length o
  unfolding headed
  length_headed =
      length-sets (slice_set (sets o functions_place (le_bytes 2 n)) root_place root) width_place (le_bytes 2 width)
      ∙ length-set (sets o functions_place (le_bytes 2 n)) root_place root
      ∙ length-sets o functions_place (le_bytes 2 n)

  get_d_headed_after : (k d : ℕ) → 6 ≤ k → slice_index_or (headed n root width o) k d ≡ slice_index_or o k d
  unfolding headed
  get_d_headed_after k d h =
      get_d_sets_after (slice_set (sets o functions_place (le_bytes 2 n)) root_place root) width_place (le_bytes 2 width) k d
      (omega (arith, h, length_le_bytes 2 width))
      ∙ get_d_sets_after (sets o functions_place (le_bytes 2 n)) root_place (root ∷ []) k d (omega arith)
      ∙ get_d_sets_after o 0 (le_bytes 2 n) k d (omega (arith, h, length_le_bytes 2 n))

  module _ (room : index_size 0 ≤ length o) where
    headed_count : n < 65536 → le 2 (headed n root width o) functions_place ≡ n
    unfolding headed
    headed_count h =
        le_sets_before 2 (slice_set (sets o functions_place (le_bytes 2 n)) root_place root) width_place (le_bytes 2 width) 0 (omega arith)
        ∙ le_sets_before 2 (sets o functions_place (le_bytes 2 n)) root_place (root ∷ []) 0 (omega arith)
        ∙ le_sets 2 o 0 n (omega arith) h

    headed_root : get_or (headed n root width o) 2 0 ≡ root
    unfolding headed
    headed_root =
        get_d_sets_before (slice_set (sets o functions_place (le_bytes 2 n)) root_place root) width_place (le_bytes 2 width) 2 0 (omega arith)
        ∙ get_or-set_same (sets o functions_place (le_bytes 2 n)) root_place root 0
        (omega (arith, room, length-sets o functions_place (le_bytes 2 n)))

    headed_width : width < 65536 → le 2 (headed n root width o) width_place ≡ width
    unfolding headed
    headed_width h =
        le_sets 2 (slice_set (sets o functions_place (le_bytes 2 n)) root_place root) width_place width
        (omega (arith, room, length-set (sets o functions_place (le_bytes 2 n)) root_place root, length-sets o functions_place (le_bytes 2 n))) h

-- ---- what stays where the slots are

module _ (n root count : ℕ) (o : List ℕ) where
  pub length_finished : length (finished n root count o) ≡ length o
  unfolding finished
  length_finished =
      length_headed n root (width_of n count (segmented 4 n count 0 0 o)) (tabled n count (segmented 4 n count 0 0 o))
      ∙ length_tabled n count (segmented 4 n count 0 0 o)
      ∙ length_segmented 4 n count 0 0 o

  pub get_d_finished_after : (k d : ℕ) → key_place n 0 ≤ k → slice_index_or (finished n root count o) k d ≡ slice_index_or o k d
  unfolding finished
  get_d_finished_after k d h =
      get_d_headed_after n root (width_of n count (segmented 4 n count 0 0 o)) (tabled n count (segmented 4 n count 0 0 o)) k d (omega arith)
      ∙ get_d_tabled_after n count (segmented 4 n count 0 0 o) k d h
      ∙ get_d_segmented 4 n count 0 0 o k d (omega arith) (omega arith)

  slot_at_finished : (i : ℕ) → slot_at (finished n root count o) n i ≡ slot_at o n i
  unfolding key_at word_at
  slot_at_finished i = λ p. record { key = key p; word = word p }
    where
      key : le 8 (finished n root count o) (key_place n i) ≡ le 8 o (key_place n i)
      key =
          le_agree 8 (finished n root count o) o (key_place n i) (key_place n i)
          (λ j l. get_d_finished_after (key_place n i + j) 0 (omega arith))

      word : le 8 (finished n root count o) (word_place n i) ≡ le 8 o (word_place n i)
      word =
          le_agree 8 (finished n root count o) o (word_place n i) (word_place n i)
          (λ j l. get_d_finished_after (word_place n i + j) 0 (omega arith))

-- ---- the line of keys

-- a key that a search can be for, and a word that fits
abbrev pub Lawful : Slot → Type 0
Lawful x = (x.key < no_key) × (x.word < 18446744073709551616)

-- the key of a position: slot 0, the list, then keys above all
unfoldable pub line_at : List Slot → ℕ → ℕ
line_at ys i = cond (nat_le i (length ys)) (get_or (no_slot ∷ ys) i no_slot).key no_key

line_in : (ys : List Slot) (i : ℕ) → i ≤ length ys → line_at ys i ≡ (get_or (no_slot ∷ ys) i no_slot).key
unfolding line_at
line_in ys i h = let e : leb i (length ys) ≡ true = le-leb i (length ys) h in rw e

line_past : (ys : List Slot) (i : ℕ) → length ys < i → line_at ys i ≡ no_key
unfolding line_at
line_past ys i h = let e : leb i (length ys) ≡ false = lt-leb i (length ys) h in rw e

module _ (ys : List Slot) (ordered : Ordered ys) (lawful : All Lawful ys) where
  low : (i : ℕ) → (get_or (no_slot ∷ ys) i no_slot).key < no_key
  low i = (all_get_d Lawful (no_slot ∷ ys) (omega arith, omega arith) ((omega arith, omega arith), lawful) i).0

  line_le : (i : ℕ) → line_at ys i ≤ no_key
  unfolding line_at
  line_le i = go (nat_le i (length ys))
    where
      go : (t : Bool) → cond t (get_or (no_slot ∷ ys) i no_slot).key no_key ≤ no_key
      go true = omega (arith, low i)
      go false = omega arith

  line_rises : (i j : ℕ) → i ≤ j → line_at ys i ≤ line_at ys j
  line_rises i j h = go (nat_le j (length ys)) refl
    where
      go : (t : Bool) → nat_le j (length ys) ≡ t → line_at ys i ≤ line_at ys j
      go true e =
          let l = leb-true j (length ys) e in
          rw (line_in ys i (omega (arith, h, l)), line_in ys j l)
          (rising_of_ordered (no_slot ∷ ys) (all_of (λ y. 0 ≤ y.key) (λ y. omega arith) ys, ordered) i j h (omega (arith, l)))
      go false e = rw (line_past ys j (leb-false j (length ys) e)) (line_le i)

  -- the last of the line is the last of the list
  last_of_line : (m a p : ℕ) → length ys < m → a < no_key → Last (line_at ys) m a p
      → Last (λ i. (get_or (no_slot ∷ ys) i no_slot).key) (suc (length ys)) a p
  last_of_line m a p h l last = go (nat_le p (length ys)) refl
    where
      go : (t : Bool) → nat_le p (length ys) ≡ t → Last (λ i. (get_or (no_slot ∷ ys) i no_slot).key) (suc (length ys)) a p
      go true e =
          let k = leb-true p (length ys) e in
          record {
            inside = omega (arith, k);
            not_above = rw (line_in ys p k) at last.not_above;
            then_above = λ q u v. rw (line_in ys q (omega (arith, v))) at (last.then_above q u (omega (arith, v, h)));
          }
      go false e = absurd (omega (arith, l, rw (line_past ys p (leb-false p (length ys) e)) at last.not_above))

-- ---- the table leads

-- the bucket of a key, where keys above all have one past the last
unfoldable shelf : List ℕ → ℕ → ℕ → ℕ
shelf s n x = cond (nat_lt x no_key) (bucket_of s n x) (buckets n)

shelf_in : (s : List ℕ) (n x : ℕ) → x < no_key → shelf s n x ≡ bucket_of s n x
unfolding shelf
shelf_in s n x h = let e : ltb x no_key ≡ true = lt-ltb x no_key h in rw e

shelf_top : (s : List ℕ) (n : ℕ) → shelf s n no_key ≡ buckets n
unfolding shelf
shelf_top s n = refl

shelf_monotone : (s : List ℕ) (n x y : ℕ) → x ≤ y → shelf s n x ≤ shelf s n y
unfolding shelf
shelf_monotone s n x y h = go (nat_lt x no_key) (nat_lt y no_key) refl refl
  where
    go : (t u : Bool) → nat_lt x no_key ≡ t → nat_lt y no_key ≡ u → cond t (bucket_of s n x) (buckets n) ≤ cond u (bucket_of s n y) (buckets n)
    go true true a b = bucket_monotone s n x y h
    go true false a b = omega (arith, bucket_le s n (segment_of x) x (segment_lt x))
    go false true a b = absurd (omega (arith, h, ltb-false x no_key a, ltb-true y no_key b))
    go false false a b = omega arith

-- over any bytes whose keys are the line
module _ (n : ℕ) (s : List ℕ) (ys : List Slot) (some : 0 < n) (most : n ≤ most_functions) (few : length ys ≤ most_slots n)
    (room : index_size n ≤ length s) (ordered : Ordered ys) (lawful : All Lawful ys)
    (line : (i : ℕ) → i ≤ last_key n → key_at s n i ≡ line_at ys i) where
  abbrev entry_at : ℕ → ℕ
  entry_at q = le 2 (tabled n (length ys) s) (bucket_place q)

  entry_line : (q : ℕ) → q < buckets n → Entry (λ i. shelf s n (line_at ys i)) (length ys) q (entry_at q)
  entry_line q h =
      entry_agree (λ i. bucket_at s n i) (λ i. shelf s n (line_at ys i)) (length ys) q _ same
      (entry_tabled n (length ys) s room (omega arith) q h)
    where
      same : (i : ℕ) → i ≤ length ys → bucket_at s n i ≡ shelf s n (line_at ys i)
      same i l =
          ap (bucket_of s n) (line i (omega arith))
          ∙ sym (shelf_in s n (line_at ys i) (rw (line_in ys i l) (low ys ordered lawful i)))

  leads : (q : ℕ) → q + 1 < buckets n → Leads (line_at ys) (shelf s n) (last_key n + 1) (width_of n (length ys) s) q (entry_at q)
  leads q h =
      leads_of_entries (line_at ys) (shelf s n) (length ys) (last_key n + 1) (width_of n (length ys) s) q _ _ here
      (entry_line (q + 1) h) (step_le_width n (length ys) s room (omega arith) q h)
      (omega (arith, here.inside, few, width_le n (length ys) s room (omega arith))) (line_in ys 0 (omega arith))
      (λ i j m _. shelf_monotone s n (line_at ys i) (line_at ys j) (line_rises ys ordered lawful i j m)) past
    where
      here : Entry (λ i. shelf s n (line_at ys i)) (length ys) q (entry_at q)
      here = entry_line q (omega arith)

      past : (p : ℕ) → length ys < p → p < last_key n + 1 → q < shelf s n (line_at ys p)
      past p m _ = rw (line_past ys p m) (omega (arith, h, shelf_top s n))

  -- what the table, the width and the keys lead to
  line_last : (f a : ℕ) → a < no_key
      → Last (line_at ys) (last_key n + 1) a (last_in f (line_at ys) a (entry_at (bucket_of s n a)) (width_of n (length ys) s))
  line_last f a h =
      bucket_last (line_at ys) (shelf s n) (last_key n + 1) a (λ i j p q. line_rises ys ordered lawful i j p) (shelf_monotone s n) f
      (width_of n (length ys) s) (entry_at (bucket_of s n a))
      (rw (shelf_in s n a h) (leads (bucket_of s n a) (omega (arith, some, bucket_le s n (segment_of a) a (segment_lt a)))))

-- ---- the index

module _ (n root : ℕ) (o : List ℕ) (ys : List Slot) (most : n ≤ most_functions) (few : length ys ≤ most_slots n)
    (room : index_size n ≤ length o)
    (ordered : Ordered ys) (lawful : All Lawful ys) where
  fits : All Fits ys
  fits = all_imp Lawful Fits ys lawful (λ y h. (omega (arith, h.0), h.1))

  abbrev held : List ℕ
  held = stored n (cleared n o) 1 ys

  -- with the segments' bytes, before the table
  abbrev split : List ℕ
  split = segmented 4 n (length ys) 0 0 held

  abbrev index : List ℕ
  index = finished n root (length ys) held

  abbrev width : ℕ
  width = width_of n (length ys) split

  room_held : index_size n ≤ length held
  room_held = omega (arith, room, length_held n o room ys few fits)

  room_split : index_size n ≤ length split
  room_split = omega (arith, room_held, length_segmented 4 n (length ys) 0 0 held)

  key_held : (i : ℕ) → i ≤ last_key n → key_at held n i ≡ line_at ys i
  key_held i h = go (nat_le i (length ys)) refl
    where
      go : (t : Bool) → nat_le i (length ys) ≡ t → key_at held n i ≡ line_at ys i
      go true e =
          let l = leb-true i (length ys) e in
          ap (λ (x : Slot). x.key) (slot_at_held n o room ys few fits i l) ∙ sym (line_in ys i l)
      go false e =
          let l = leb-false i (length ys) e in key_at_held_past n o room ys few fits i l h ∙ sym (line_past ys i l)

  key_split : (i : ℕ) → i ≤ last_key n → key_at split n i ≡ line_at ys i
  unfolding key_at
  key_split i h =
      le_agree 8 split held (key_place n i) (key_place n i)
      (λ j l. get_d_segmented 4 n (length ys) 0 0 held (key_place n i + j) 0 (omega arith) (omega arith))
      ∙ key_held i h

  width_few : width ≤ length ys
  width_few = width_le n (length ys) split room_split (omega arith)

  room_table : index_size 0 ≤ length (tabled n (length ys) split)
  room_table = omega (arith, room_split, length_tabled n (length ys) split)

  width_there : width_at index n ≡ width
  unfolding finished
  width_there =
      rw (headed_width n root width (tabled n (length ys) split) room_table (omega (arith, width_few, few, most)))
      (least_small width (most_slots n) (omega (arith, width_few, few)))

  bucket_there : (a : ℕ) → bucket_by index n (segment_of a) a ≡ bucket_of split n a
  unfolding finished
  bucket_there a =
      bucket_by_agree _ split n (segment_of a) a (segment_lt a)
      (λ k p q. get_d_headed_after n root width (tabled n (length ys) split) k 0 (omega arith)
      ∙ get_d_tabled_before n (length ys) split k 0 (omega arith))

  entry_there : (q : ℕ) → le 2 index (bucket_place q) ≡ le 2 (tabled n (length ys) split) (bucket_place q)
  unfolding finished
  entry_there q =
      le_agree 2 _ (tabled n (length ys) split) (bucket_place q) (bucket_place q)
      (λ j l. get_d_headed_after n root width (tabled n (length ys) split) (bucket_place q + j) 0 (omega arith))

  module _ (some : 0 < n) (a : ℕ) (small : a < no_key) where
    abbrev entry : ℕ
    entry = le 2 (tabled n (length ys) split) (bucket_place (bucket_of split n a))

    entry_few : entry ≤ length ys
    entry_few =
        (entry_tabled n (length ys) split room_split (omega arith) (bucket_of split n a)
        (omega (arith, some, bucket_le split n (segment_of a) a (segment_lt a)))).inside

    lead_there : lead_at index n (segment_of a) a ≡ entry
    lead_there =
        rw (bucket_there a, entry_there (bucket_of split n a)) (least_small entry (most_slots n) (omega (arith, entry_few, few)))

    abbrev found : ℕ
    found = last_in width (line_at ys) a entry width

    found_last : Last (λ i. (get_or (no_slot ∷ ys) i no_slot).key) (suc (length ys)) a found
    found_last =
        last_of_line ys ordered lawful (last_key n + 1) a found (omega (arith, few)) small
        (line_last n split ys some most few room_split ordered lawful key_split width a small)

    same_keys : (j : ℕ) → entry ≤ j → j ≤ entry + width → key_of index n a j ≡ line_at ys j
    same_keys j p q =
        ap (cut a) (ap (λ (x : Slot). x.key) (slot_at_finished n root (length ys) held j)
        ∙ key_held j (omega (arith, q, entry_few, width_few, few)))
        ∙ cut_small a (line_at ys j) (omega (arith, line_le ys ordered lawful j))

    found_there : found_at index n (segment_of a) a ≡ found
    unfolding found_at
    found_there =
        rw (width_there, lead_there, last_agree width (λ i. key_of index n a i) (line_at ys) a entry width same_keys)
        (least_small found (most_slots n) (omega (arith, found_last.inside, few)))

  found_none : (a : ℕ) → n ≤ 0 → Last (λ i. (get_or (no_slot ∷ ys) i no_slot).key) (suc (length ys)) a (found_at index n (segment_of a) a)
  unfolding found_at
  found_none a h =
      let p = last_in (width_at index n) (λ i. key_of index n a i) a (lead_at index n (segment_of a) a) (width_at index n) in
      let z : found_at index n (segment_of a) a ≡ 0 = omega (arith, h, least_le p (most_slots n)) in
      rw z (record { inside = omega arith; not_above = omega arith; then_above = λ q u v. absurd (omega (arith, u, v, few, h)) })

  finished_last : (a : ℕ) → a < no_key
      → Last (λ i. (get_or (no_slot ∷ ys) i no_slot).key) (suc (length ys)) a (found_at index n (segment_of a) a)
  finished_last a h = go (nat_lt 0 n) refl
    where
      go : (t : Bool) → nat_lt 0 n ≡ t
          → Last (λ i. (get_or (no_slot ∷ ys) i no_slot).key) (suc (length ys)) a (found_at index n (segment_of a) a)
      go true e = let some = ltb-true 0 n e in rw (found_there some a h) (found_last some a h)
      go false e = found_none a (ltb-false 0 n e)

  pub finished_searchable : Searchable n root ys index
  unfolding finished
  finished_searchable =
      record {
        size = omega (arith, room_held, length_finished n root (length ys) held);
        count = headed_count n root width (tabled n (length ys) split) room_table (omega (arith, most));
        root_bus_lem = headed_root n root width (tabled n (length ys) split) room_table;
        slots = λ i h. slot_at_finished n root (length ys) held i ∙ slot_at_held n o room ys few fits i h;
        last = finished_last;
      }

module _ (n root : ℕ) (o : List ℕ) (xs : List Slot) (few : length xs ≤ most_slots n) (room : index_size n ≤ length o)
    (lawful : All Lawful xs) where
  abbrev slots : List Slot
  slots = sorted xs

  all_fit : All Fits xs
  all_fit = all_imp Lawful Fits xs lawful (λ y h. (omega (arith, h.0), h.1))

  length_sorted : length slots ≡ length xs
  length_sorted = length_inserted [] xs ∙ omega arith

  built_finished : built n root xs o ≡ finished n root (length slots) (stored n (cleared n o) 1 slots)
  unfolding built
  built_finished = ap (λ (k : ℕ). finished n root k (stored n (cleared n o) 1 slots)) (sym length_sorted)

  -- slots in order, then segments, table and first bytes: an index that can be searched
  pub built_searchable : n ≤ most_functions → Searchable n root (sorted xs) (built n root xs o)
  built_searchable most =
      rw built_finished
      (finished_searchable n root o slots most (omega (arith, length_sorted, few)) room (inserted_ordered [] xs tt)
      (all_inserted Lawful [] xs tt lawful))

  pub length_built : length (built n root xs o) ≡ length o
  length_built =
      ap length built_finished
      ∙ length_finished n root (length slots) (stored n (cleared n o) 1 slots)
      ∙ length_held n o room slots (omega (arith, length_sorted, few)) (all_inserted Fits [] xs tt all_fit)

  -- nothing past the index changes
  pub get_d_built_past : (k d : ℕ) → index_size n ≤ k → slice_index_or (built n root xs o) k d ≡ slice_index_or o k d
  get_d_built_past k d h =
      ap (λ (t : List ℕ). get_or t k d) built_finished
      ∙ get_d_finished_after n root (length slots) (stored n (cleared n o) 1 slots) k d (omega arith)
      ∙ get_d_held_past n o room slots (omega (arith, length_sorted, few)) (all_inserted Fits [] xs tt all_fit) k d h
