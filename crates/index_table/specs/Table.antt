-- The table of an index of n functions: four segments of keys, 8 n buckets for each, and for each bucket how many slots stand in earlier
-- ones. Assumes nothing.
use Rattle.std.specs.Prelude.{ℕ, zero, suc, ◌+◌, ◌-◌, ◌*◌, ◌/◌, ◌%◌, ◌^◌, cond, List, [], ◌∷◌, ◌++◌, length, nat_le, nat_lt, slice_index, slice_set}
use Rattle.std.proofs.lemmas.List.Edits.{sets}
use Rattle.endian.specs.Endian.{le, le_bytes}
use Rattle.index_layout.specs.Places.{functions_place, root_place, width_place, base_place, shift_place, bucket_place, segment_buckets, buckets}
use Rattle.index_layout.specs.Keys.{segment_of}
use Rattle.index_slots.specs.Slots.{Slot, key_at, stored, sorted}
use Rattle.index_slots.specs.Cleared.{cleared}

unfoldable pub least : ℕ → ℕ → ℕ
least x y = cond (nat_lt x y) x y

unfoldable pub larger : ℕ → ℕ → ℕ
larger x y = cond (nat_lt x y) y x

-- ---- segments

-- the segment of slot i
abbrev pub segment_at : List ℕ → ℕ → ℕ → ℕ
segment_at o n i = segment_of (key_at o n i)

-- ---- buckets

-- the base and the shift of segment w
abbrev pub base_at : List ℕ → ℕ → ℕ
base_at o w = le 8 o (base_place w)

abbrev pub shift_at : List ℕ → ℕ → ℕ
shift_at o w = slice_index o (shift_place w) % 64

-- the last bucket of a segment that keys go to: one more stays empty
abbrev pub last_bucket : ℕ → ℕ
last_bucket n = segment_buckets n - 2

-- the bucket of a key of segment w
unfoldable pub bucket_by : List ℕ → ℕ → ℕ → ℕ → ℕ
bucket_by o n w key = segment_buckets n * w + least ((key - base_at o w) / 2 ^ shift_at o w) (last_bucket n)

abbrev pub bucket_of : List ℕ → ℕ → ℕ → ℕ
bucket_of o n key = bucket_by o n (segment_of key) key

-- the bucket of slot i
abbrev pub bucket_at : List ℕ → ℕ → ℕ → ℕ
bucket_at o n i = bucket_of o n (key_at o n i)

-- ---- from the slots

-- the last of the k positions behind p up to which all slots stand before q
unfoldable pub ahead : ℕ → (ℕ → ℕ) → ℕ → ℕ → ℕ
ahead zero b q p = p
ahead (suc k) b q p = cond (nat_lt (b (p + 1)) q) (ahead k b q (p + 1)) p

-- the least of the k shifts from s on that leaves no more than `most`, or else the one behind them
unfoldable pub shift_of : ℕ → ℕ → ℕ → ℕ → ℕ
shift_of zero d most s = s
shift_of (suc k) d most s = cond (nat_le (d / 2 ^ s) most) s (shift_of k d most (s + 1))

-- o with segment w's base and shift, by the first and the last of its slots, which follow slot `from` up to slot `to`
unfoldable pub put_segment : ℕ → ℕ → ℕ → ℕ → List ℕ → List ℕ
put_segment n w from to o =
    let base = key_at o n (from + 1) in
    cond (nat_le to from) o (slice_set (sets o (base_place w) (le_bytes 8 base)) (shift_place w) (shift_of 63 (key_at o n to - base) (last_bucket n) 0))

-- o with k segments' bases and shifts from segment w on, whose slots follow slot `from`
unfoldable pub segmented : ℕ → ℕ → ℕ → ℕ → ℕ → List ℕ → List ℕ
segmented zero n count w from o = o
segmented (suc k) n count w from o =
    let to = ahead (count - from) (λ i. segment_at o n i) (w + 1) from in segmented k n count (w + 1) to (put_segment n w from to o)

-- ---- the table

-- the entries of k buckets from q on, where p slots are known to stand before q
unfoldable pub table_from : ℕ → ℕ → (ℕ → ℕ) → ℕ → ℕ → List ℕ
table_from zero count b q p = []
table_from (suc k) count b q p = let t = ahead (count - p) b q p in t ∷ table_from k count b (q + 1) t

-- each number as 2 bytes
unfoldable pub halves : List ℕ → List ℕ
halves [] = []
halves (t ∷ ts) = le_bytes 2 t ++ halves ts

abbrev pub entries : ℕ → ℕ → List ℕ → List ℕ
entries n count o = table_from (buckets n) count (λ i. bucket_at o n i) 0 0

-- o with the table over its slots 1 to count
unfoldable pub tabled : ℕ → ℕ → List ℕ → List ℕ
tabled n count o = sets o (bucket_place 0) (halves (entries n count o))

-- the greatest step from entry to entry, w and p coming before them
unfoldable pub widest : ℕ → ℕ → List ℕ → ℕ
widest w p [] = w
widest w p (t ∷ ts) = widest (larger w (t - p)) t ts

-- the most slots in one bucket
unfoldable pub width_of : ℕ → ℕ → List ℕ → ℕ
width_of n count o = widest 0 0 (entries n count o)

-- ---- the whole

-- the first bytes: n, the root bus, the width
unfoldable pub headed : ℕ → ℕ → ℕ → List ℕ → List ℕ
headed n root width o = sets (slice_set (sets o functions_place (le_bytes 2 n)) root_place root) width_place (le_bytes 2 width)

unfoldable pub finished : ℕ → ℕ → ℕ → List ℕ → List ℕ
finished n root count o = let s = segmented 4 n count 0 0 o in headed n root (width_of n count s) (tabled n count s)

-- the bytes that a build leaves of o, for slots in the order in which they come
unfoldable pub built : ℕ → ℕ → List Slot → List ℕ → List ℕ
built n root xs o = finished n root (length xs) (stored n (cleared n o) 1 (sorted xs))
