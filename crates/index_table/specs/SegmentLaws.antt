-- Segments and buckets: keys in order have theirs in order. The turns of the loops that choose a segment's slots and its shift; what
-- stays where they write. Assumes nothing.
use Rattle.std.specs.Prelude.{min, ◌≡◌, ℕ, zero, suc, ◌+◌, ◌-◌, ◌*◌, ◌/◌, ◌^◌, ◌<◌, ◌≤◌, Bool, true, false, cond, List, [], ◌∷◌, length, get_or, set, nat_le, nat_lt, slice_index, slice_index_or, slice_set, refl}
use Rattle.std.proofs.Common.{ap, ap₂, ◌∙◌, mul-suc, mul-le-mul_left, le-div_iff_mul-le, div-mul-le_self, le_of_lt, arith, length-set, ltb-true, ltb-false, le-leb}
use Rattle.std.proofs.Math.Nat.{one-le-pow}
use Rattle.std.proofs.lemmas.List.Edits.{sets}
use Rattle.std.proofs.Math.Seq.{length-sets}
use Rattle.std.proofs.lemmas.Bool.{lt-leb}
use Rattle.endian.specs.Endian.{le_bytes}
use Rattle.endian.specs.EndianLaws.{length_le_bytes, le_agree}
use Rattle.endian.specs.SetsLaws.{get_d_sets_after}
use Rattle.index_layout.specs.Places.{base_place, shift_place, segment_buckets}
use Rattle.index_layout.specs.Keys.{segment_of}
use Rattle.index_layout.specs.KeysLaws.{segment_monotone}
use Rattle.index_slots.specs.Slots.{key_at}
use Rattle.index_table.specs.Table.{least, segment_at, base_at, shift_at, last_bucket, bucket_by, bucket_of}
use Rattle.index_table.specs.Table.{ahead, shift_of, put_segment, segmented}

-- ---- the bucket of a key

-- std's word
pub least_min : (x y : ℕ) → min x y ≡ least x y
unfolding least
least_min x y = go (nat_lt x y) refl
  where
    go : (t : Bool) → nat_lt x y ≡ t → min x y ≡ cond t x y
    go true e = omega (arith, ltb-true x y e)
    go false e = omega (arith, ltb-false x y e)

pub least_le : (x y : ℕ) → least x y ≤ y
unfolding least
least_le x y = go (nat_lt x y) refl
  where
    go : (t : Bool) → nat_lt x y ≡ t → cond t x y ≤ y
    go true e = le_of_lt (ltb-true x y e)
    go false e = omega arith

pub least_small : (x y : ℕ) → x ≤ y → least x y ≡ x
unfolding least
least_small x y h = go (nat_lt x y) refl
  where
    go : (t : Bool) → nat_lt x y ≡ t → cond t x y ≡ x
    go true e = refl
    go false e = omega (arith, h, ltb-false x y e)

least_monotone : (x y z : ℕ) → x ≤ y → least x z ≤ least y z
unfolding least
least_monotone x y z h = go (nat_lt x z) (nat_lt y z) refl refl
  where
    go : (s t : Bool) → nat_lt x z ≡ s → nat_lt y z ≡ t → cond s x z ≤ cond t y z
    go true true a b = h
    go true false a b = le_of_lt (ltb-true x z a)
    go false true a b = absurd (omega (arith, h, ltb-false x z a, ltb-true y z b))
    go false false a b = omega arith

div_monotone : (x y d : ℕ) → 0 < d → x ≤ y → x / d ≤ y / d
div_monotone x y d p h = (le-div_iff_mul-le p).1 (omega (arith, h, div-mul-le_self x d))

pub start_le : (n w : ℕ) → w < 4 → segment_buckets n * w ≤ 24 * n
start_le n w h = let l : w ≤ 3 = omega (arith, h) in omega (arith, mul-le-mul_left (segment_buckets n) l)

-- a later segment starts behind all buckets of an earlier one
start_next : (n v w : ℕ) → v < w → segment_buckets n * v + segment_buckets n ≤ segment_buckets n * w
start_next n v w h = omega (arith, mul-le-mul_left (segment_buckets n) h, mul-suc (segment_buckets n) v)

pub bucket_le : (o : List ℕ) (n w key : ℕ) → w < 4 → bucket_by o n w key ≤ 24 * n + last_bucket n
unfolding bucket_by
bucket_le o n w key h = omega (arith, start_le n w h, least_le ((key - base_at o w) / 2 ^ shift_at o w) (last_bucket n))

-- within a segment, and over all keys
bucket_by_monotone : (o : List ℕ) (n w x y : ℕ) → x ≤ y → bucket_by o n w x ≤ bucket_by o n w y
unfolding bucket_by
bucket_by_monotone o n w x y h =
    let d = div_monotone (x - base_at o w) (y - base_at o w) (2 ^ shift_at o w) (one-le-pow (shift_at o w) 2 (omega arith)) (omega arith) in
    omega (
      arith,
      least_monotone ((x - base_at o w) / 2 ^ shift_at o w) ((y - base_at o w) / 2 ^ shift_at o w) (last_bucket n) d,
    )

bucket_by_apart : (o : List ℕ) (n v w x y : ℕ) → v < w → bucket_by o n v x ≤ bucket_by o n w y
unfolding bucket_by
bucket_by_apart o n v w x y h =
    omega (arith, start_next n v w h, least_le ((x - base_at o v) / 2 ^ shift_at o v) (last_bucket n))

pub bucket_monotone : (o : List ℕ) (n x y : ℕ) → x ≤ y → bucket_of o n x ≤ bucket_of o n y
bucket_monotone o n x y h = go (nat_lt (segment_of x) (segment_of y)) refl
  where
    go : (t : Bool) → nat_lt (segment_of x) (segment_of y) ≡ t → bucket_of o n x ≤ bucket_of o n y
    go true e = bucket_by_apart o n (segment_of x) (segment_of y) x y (ltb-true _ _ e)
    go false e =
        let s : segment_of x ≡ segment_of y =
        omega (arith, segment_monotone x y h, ltb-false (segment_of x) (segment_of y) e) in
        rw s (bucket_by_monotone o n (segment_of y) x y h)

-- bases and shifts stand in bytes 16 to 79
pub bucket_by_agree : (o p : List ℕ) (n w key : ℕ) → w < 4 → ((k : ℕ) → 16 ≤ k → k < 80 → slice_index o k ≡ slice_index p k)
    → bucket_by o n w key ≡ bucket_by p n w key
unfolding bucket_by
bucket_by_agree o p n w key h same =
    let b : base_at o w ≡ base_at p w =
    le_agree 8 o p (base_place w) (base_place w) (λ j l. same (base_place w + j) (omega arith) (omega arith)) in
    rw (b, same (shift_place w) (omega arith) (omega arith))

-- ---- the least shift

pub shift_stop : (d most s : ℕ) → s < 63 → d / 2 ^ s ≤ most → s ≡ shift_of (63 - s) d most s
unfolding shift_of
shift_stop d most s h l = let e : 63 - s ≡ suc (63 - (s + 1)) = omega arith in rw (e, le-leb (d / 2 ^ s) most l)

pub shift_on : (d most s : ℕ) → s < 63 → most < d / 2 ^ s → shift_of (63 - (s + 1)) d most (s + 1) ≡ shift_of (63 - s) d most s
unfolding shift_of
shift_on d most s h l = let e : 63 - s ≡ suc (63 - (s + 1)) = omega arith in rw (e, lt-leb (d / 2 ^ s) most l)

pub shift_end : (d most s : ℕ) → 63 ≤ s → s ≡ shift_of (63 - s) d most s
unfolding shift_of
shift_end d most s h = let e : 63 - s ≡ 0 = omega arith in rw e

-- ---- the segments' bytes

-- what stands past them
get_d_segment : (o : List ℕ) (w base shift k d : ℕ) → w < 4 → 80 ≤ k
    → slice_index_or (slice_set (sets o (base_place w) (le_bytes 8 base)) (shift_place w) shift) k d ≡ slice_index_or o k d
get_d_segment o w base shift k d h l =
    get_d_sets_after (sets o (base_place w) (le_bytes 8 base)) (shift_place w) (shift ∷ []) k d (omega arith)
    ∙ get_d_sets_after o (base_place w) (le_bytes 8 base) k d (omega (arith, h, l, length_le_bytes 8 base))

get_d_put_segment : (n w from to : ℕ) (o : List ℕ) (k d : ℕ) → w < 4 → 80 ≤ k → slice_index_or (put_segment n w from to o) k d ≡ slice_index_or o k d
unfolding put_segment
get_d_put_segment n w from to o k d h l = go (nat_le to from)
  where
    go : (t : Bool)
        → get_or (cond t o (set (sets o (base_place w) (le_bytes 8 (key_at o n (from + 1)))) (shift_place w)
        (shift_of 63 (key_at o n to - key_at o n (from + 1)) (last_bucket n) 0))) k d ≡ slice_index_or o k d
    go true = refl
    go false = get_d_segment o w (key_at o n (from + 1)) (shift_of 63 (key_at o n to - key_at o n (from + 1)) (last_bucket n) 0) k d h l

pub length_put_segment : (n w from to : ℕ) (o : List ℕ) → length (put_segment n w from to o) ≡ length o
unfolding put_segment
length_put_segment n w from to o = go (nat_le to from)
  where
    abbreviated : (base shift : ℕ) → length (slice_set (sets o (base_place w) (le_bytes 8 base)) (shift_place w) shift) ≡ length o
    abbreviated base shift =
        length-set (sets o (base_place w) (le_bytes 8 base)) (shift_place w) shift ∙ length-sets o (base_place w) (le_bytes 8 base)

    go : (t : Bool)
        → length (cond t o (set (sets o (base_place w) (le_bytes 8 (key_at o n (from + 1)))) (shift_place w)
        (shift_of 63 (key_at o n to - key_at o n (from + 1)) (last_bucket n) 0))) ≡ length o
    go true = refl
    go false = abbreviated (key_at o n (from + 1)) (shift_of 63 (key_at o n to - key_at o n (from + 1)) (last_bucket n) 0)

pub get_d_segmented : (k n count w from : ℕ) (o : List ℕ) (i d : ℕ) → w + k ≤ 4 → 80 ≤ i
    → slice_index_or (segmented k n count w from o) i d ≡ slice_index_or o i d
unfolding segmented
get_d_segmented zero n count w from o i d h l = refl
get_d_segmented (suc k) n count w from o i d h l =
    get_d_segmented k n count (w + 1) (ahead (count - from) (λ j. segment_at o n j) (w + 1) from)
    (put_segment n w from (ahead (count - from) (λ j. segment_at o n j) (w + 1) from) o) i d (omega arith) l
    ∙ get_d_put_segment n w from (ahead (count - from) (λ j. segment_at o n j) (w + 1) from) o i d (omega arith) l

pub length_segmented : (k n count w from : ℕ) (o : List ℕ) → length (segmented k n count w from o) ≡ length o
unfolding segmented
length_segmented zero n count w from o = refl
length_segmented (suc k) n count w from o =
    length_segmented k n count (w + 1) (ahead (count - from) (λ j. segment_at o n j) (w + 1) from)
    (put_segment n w from (ahead (count - from) (λ j. segment_at o n j) (w + 1) from) o)
    ∙ length_put_segment n w from (ahead (count - from) (λ j. segment_at o n j) (w + 1) from) o

-- ---- the loop's turns

-- a segment with no slots stays as it is
pub segment_none : (n w from to : ℕ) (o : List ℕ) → to ≤ from → o ≡ put_segment n w from to o
unfolding put_segment
segment_none n w from to o h = rw (le-leb to from h)

pub segment_some : {base last shift : ℕ} {t u : List ℕ} (n w from to : ℕ) (o : List ℕ) → from < to
    → base ≡ key_at o n (from + 1) → last ≡ key_at o n to → shift ≡ shift_of 63 (last - base) (last_bucket n) 0
    → t ≡ sets o (base_place w) (le_bytes 8 base) → u ≡ slice_set t (shift_place w) shift
    → u ≡ put_segment n w from to o
unfolding put_segment
segment_some n w from to o h b l s p q = q ∙ rw (lt-leb to from h, ← b, ← l, ← s, ← p)

pub segments_turn : {to : ℕ} {t : List ℕ} (n count w from : ℕ) (o : List ℕ) → w < 4
    → to ≡ ahead (count - from) (λ i. segment_at o n i) (w + 1) from → t ≡ put_segment n w from to o
    → segmented (4 - (w + 1)) n count (w + 1) to t ≡ segmented (4 - w) n count w from o
unfolding segmented
segments_turn n count w from o h e p =
    let d : suc (4 - (w + 1)) ≡ 4 - w = omega arith in
    ap₂ (segmented (4 - (w + 1)) n count (w + 1)) e (p ∙ ap (λ (x : ℕ). put_segment n w from x o) e)
    ∙ ap (λ (k : ℕ). segmented k n count w from o) d

pub segments_end : (n count w from : ℕ) (o : List ℕ) → 4 ≤ w → segmented (4 - w) n count w from o ≡ o
unfolding segmented
segments_end n count w from o h = let d : 4 - w ≡ 0 = omega arith in rw d
