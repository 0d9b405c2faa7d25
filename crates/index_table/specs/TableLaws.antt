-- The table as it is filled says of each bucket which slots stand before it, and with the width it leads to the keys that can decide.
-- Assumes nothing.
use Rattle.std.specs.Prelude.{max, ◌≡◌, ℕ, zero, suc, ◌+◌, ◌-◌, ◌*◌, ◌<◌, ◌≤◌, Bool, true, false, cond, ltb, ◌⊎◌, List, [], ◌∷◌, length, nat_lt, slice_index, slice_index_or, refl}
use Rattle.std.proofs.Common.{sym, ap, ◌∙◌, inl, inr, add-zero, zero-add, suc-add, arith, length-append, ltb-true, ltb-false}
use Rattle.std.proofs.Math.ListN.{get_or-eq_default}
use Rattle.std.proofs.lemmas.List.Edits.{sets}
use Rattle.std.proofs.Math.Seq.{length-sets}
use Rattle.endian.specs.Endian.{le, le_bytes}
use Rattle.endian.specs.EndianLaws.{length_le_bytes, le_sets, le_sets_before, le_sets_after}
use Rattle.endian.specs.SetsLaws.{sets_sets, get_d_sets_before, get_d_sets_after}
use Rattle.index_layout.specs.Places.{index_size, bucket_place, key_place, buckets}
use Rattle.index_layout.specs.Keys.{segment_of}
use Rattle.index_layout.specs.KeysLaws.{segment_lt}
use Rattle.index_slots.specs.Slots.{key_at}
use Rattle.index_table.specs.Table.{bucket_by, bucket_at, ahead, table_from, halves, entries, tabled, larger, widest, width_of}
use Rattle.index_table.specs.SegmentLaws.{bucket_by_agree}

-- ---- the loops' turns, in their words

pub ahead_all : (count : ℕ) (b : ℕ → ℕ) (q p : ℕ) → count ≤ p → ahead (count - p) b q p ≡ p
unfolding ahead
ahead_all count b q p h = let d : count - p ≡ 0 = omega arith in rw d refl

pub ahead_on : {r : Bool} (count : ℕ) (b : ℕ → ℕ) (q p : ℕ) → p < count → r ≡ nat_lt (b (p + 1)) q → r ≡ true
    → ahead (count - (p + 1)) b q (p + 1) ≡ ahead (count - p) b q p
unfolding ahead
ahead_on count b q p h e f =
    let d : count - p ≡ suc (count - (p + 1)) = omega arith in let g : ltb (b (p + 1)) q ≡ true = sym e ∙ f in rw (d, g) refl

pub ahead_stop : {r : Bool} (count : ℕ) (b : ℕ → ℕ) (q p : ℕ) → p < count → r ≡ nat_lt (b (p + 1)) q → r ≡ false
    → ahead (count - p) b q p ≡ p
unfolding ahead
ahead_stop count b q p h e f =
    let d : count - p ≡ suc (count - (p + 1)) = omega arith in let g : ltb (b (p + 1)) q ≡ false = sym e ∙ f in rw (d, g) refl

pub table_start : (n count : ℕ) (b : ℕ → ℕ) (o : List ℕ)
    → sets o (bucket_place 0) (halves (table_from (buckets n - 0) count b 0 0))
    ≡ sets o (bucket_place 0) (halves (table_from (buckets n) count b 0 0))
table_start n count b o =
    let d : buckets n - 0 ≡ buckets n = omega arith in ap (λ (k : ℕ). sets o (bucket_place 0) (halves (table_from k count b 0 0))) d

pub table_end : (n count q p : ℕ) (b : ℕ → ℕ) (o : List ℕ) → buckets n ≤ q
    → sets o (bucket_place q) (halves (table_from (buckets n - q) count b q p)) ≡ o
unfolding table_from halves
table_end n count q p b o h = let d : buckets n - q ≡ 0 = omega arith in rw d refl

-- an entry stored leaves segments and keys, and so each slot's bucket
pub buckets_kept : {t : List ℕ} (o₀ o : List ℕ) (n q r : ℕ) → q < buckets n → t ≡ sets o (bucket_place q) (le_bytes 2 r)
    → ((i : ℕ) → bucket_at o n i ≡ bucket_at o₀ n i) → (i : ℕ) → bucket_at t n i ≡ bucket_at o₀ n i
unfolding key_at
buckets_kept {t} o₀ o n q r h e k i = rw e (ap (λ (x : ℕ). bucket_by after n (segment_of x) x) key ∙ same) ∙ k i
  where
    after : List ℕ
    after = sets o (bucket_place q) (le_bytes 2 r)

    key : le 8 (sets o (bucket_place q) (le_bytes 2 r)) (key_place n i) ≡ le 8 o (key_place n i)
    key = le_sets_after 8 o (bucket_place q) (le_bytes 2 r) (key_place n i) (omega (arith, h, length_le_bytes 2 r))

    same : bucket_by after n (segment_of (le 8 o (key_place n i))) (le 8 o (key_place n i))
        ≡ bucket_by o n (segment_of (le 8 o (key_place n i))) (le 8 o (key_place n i))
    same =
        bucket_by_agree after o n (segment_of (le 8 o (key_place n i))) (le 8 o (key_place n i)) (segment_lt (le 8 o (key_place n i)))
        (λ j l m. get_d_sets_before o (bucket_place q) (le_bytes 2 r) j 0 (omega arith))

pub table_turn : {r : ℕ} {t : List ℕ} (n count q p : ℕ) (b c : ℕ → ℕ) (o : List ℕ) → q < buckets n → ((i : ℕ) → c i ≡ b i)
    → r ≡ ahead (count - p) c q p → t ≡ sets o (bucket_place q) (le_bytes 2 r)
    → sets t (bucket_place (q + 1)) (halves (table_from (buckets n - (q + 1)) count b (q + 1) r))
    ≡ sets o (bucket_place q) (halves (table_from (buckets n - q) count b q p))
unfolding table_from halves
table_turn {r} {t} n count q p b c o h k e f =
    let d : buckets n - q ≡ suc (buckets n - (q + 1)) = omega arith in
    let g : r ≡ ahead (count - p) b q p = e ∙ ap (λ (s : ℕ → ℕ). ahead (count - p) s q p) (λ z i. k i z) in
    let a : bucket_place (q + 1) ≡ bucket_place q + length (le_bytes 2 r) = omega (arith, length_le_bytes 2 r) in
    rw (d, ← g, f, a) (sets_sets o (bucket_place q) (le_bytes 2 r) (halves (table_from (buckets n - (q + 1)) count b (q + 1) r)))

-- ---- what an entry says

pub record Entry (b : ℕ → ℕ) (count q t : ℕ) : Type 0 where
  pub inside : t ≤ count
  pub before : (i : ℕ) → 0 < i → i ≤ t → b i < q
  pub next : t < count → q ≤ b (t + 1)

pub ahead_entry : (k : ℕ) (b : ℕ → ℕ) (count q p : ℕ) → k + p ≡ count → ((i : ℕ) → 0 < i → i ≤ p → b i < q)
    → Entry b count q (ahead k b q p)
unfolding ahead
ahead_entry zero b count q p e h = record { inside = omega (arith, e); before = h; next = λ l. absurd (omega (arith, e, l)) }
ahead_entry (suc k) b count q p e h = go (nat_lt (b (p + 1)) q) refl (λ f. ahead_entry k b count q (p + 1) (omega (arith, e)) f)
  where
    longer : b (p + 1) < q → (i : ℕ) → 0 < i → i ≤ p + 1 → b i < q
    longer l i z u = pick (nat_lt i (p + 1)) refl
      where
        pick : (t : Bool) → nat_lt i (p + 1) ≡ t → b i < q
        pick true f = h i z (omega (arith, ltb-true i (p + 1) f))
        pick false f = let g : i ≡ p + 1 = omega (arith, ltb-false i (p + 1) f, u) in rw g l

    go : (t : Bool) → nat_lt (b (p + 1)) q ≡ t → (((i : ℕ) → 0 < i → i ≤ p + 1 → b i < q) → Entry b count q (ahead k b q (p + 1)))
        → Entry b count q (cond t (ahead k b q (p + 1)) p)
    go true f on = on (longer (ltb-true (b (p + 1)) q f))
    go false f on = record { inside = omega (arith, e); before = h; next = λ l. ltb-false (b (p + 1)) q f }

pub table_entry : (k count : ℕ) (b : ℕ → ℕ) (q p : ℕ) → p ≤ count → ((i : ℕ) → 0 < i → i ≤ p → b i < q)
    → (j : ℕ) → j < k → Entry b count (q + j) (slice_index (table_from k count b q p) j)
unfolding table_from
table_entry zero count b q p l h j m = absurd (omega arith)
table_entry (suc k) count b q p l h zero m = rw (add-zero q) (ahead_entry (count - p) b count q p (omega arith) h)
table_entry (suc k) count b q p l h (suc j) m =
    let a : Entry b count q (ahead (count - p) b q p) = ahead_entry (count - p) b count q p (omega arith) h in
    let s : q + suc j ≡ q + 1 + j = omega arith in
    rw s (table_entry k count b (q + 1) (ahead (count - p) b q p) a.inside
    (λ i z u. let v = a.before i z u in omega (arith, v)) j (omega arith))

-- ---- the most slots in one bucket

pub widest_start : (n count : ℕ) (b : ℕ → ℕ)
    → widest 0 0 (table_from (buckets n - 0) count b 0 0) ≡ widest 0 0 (table_from (buckets n) count b 0 0)
widest_start n count b = let d : buckets n - 0 ≡ buckets n = omega arith in ap (λ (k : ℕ). widest 0 0 (table_from k count b 0 0)) d

pub widest_turn : {r v : ℕ} (n count q p w : ℕ) (b c : ℕ → ℕ) → q < buckets n → ((i : ℕ) → c i ≡ b i)
    → r ≡ ahead (count - p) c q p → v ≡ larger w (r - p)
    → widest v r (table_from (buckets n - (q + 1)) count b (q + 1) r) ≡ widest w p (table_from (buckets n - q) count b q p)
unfolding table_from widest
widest_turn {r} {v} n count q p w b c h k e f =
    let d : buckets n - q ≡ suc (buckets n - (q + 1)) = omega arith in
    let g : r ≡ ahead (count - p) b q p = e ∙ ap (λ (s : ℕ → ℕ). ahead (count - p) s q p) (λ z i. k i z) in
    rw (d, ← g, f) refl

pub widest_end : (n count q p w : ℕ) (b : ℕ → ℕ) → buckets n ≤ q → widest w p (table_from (buckets n - q) count b q p) ≡ w
unfolding table_from widest
widest_end n count q p w b h = let d : buckets n - q ≡ 0 = omega arith in rw d refl

-- std's word
pub larger_max : (x y : ℕ) → max x y ≡ larger x y
unfolding larger
larger_max x y = go (nat_lt x y) refl
  where
    go : (t : Bool) → nat_lt x y ≡ t → max x y ≡ cond t y x
    go true e = omega (arith, ltb-true x y e)
    go false e = omega (arith, ltb-false x y e)

larger_left : (x y : ℕ) → x ≤ larger x y
unfolding larger
larger_left x y = go (nat_lt x y) refl
  where
    go : (t : Bool) → nat_lt x y ≡ t → x ≤ cond t y x
    go true e = omega (arith, ltb-true x y e)
    go false e = omega arith

larger_right : (x y : ℕ) → y ≤ larger x y
unfolding larger
larger_right x y = go (nat_lt x y) refl
  where
    go : (t : Bool) → nat_lt x y ≡ t → y ≤ cond t y x
    go true e = omega arith
    go false e = omega (arith, ltb-false x y e)

widest_from : (w p : ℕ) (ts : List ℕ) → w ≤ widest w p ts
unfolding widest
widest_from w p [] = omega arith
widest_from w p (t ∷ ts) = omega (arith, larger_left w (t - p), widest_from (larger w (t - p)) t ts)

pub step_le_widest : (w p : ℕ) (ts : List ℕ) (j : ℕ) → j + 1 < length ts → slice_index ts (j + 1) - slice_index ts j ≤ widest w p ts
unfolding widest
step_le_widest w p [] j h = absurd (omega arith)
step_le_widest w p (t ∷ []) j h = absurd (omega arith)
step_le_widest w p (t ∷ u ∷ ts) zero h =
    omega (arith, larger_right (larger w (t - p)) (u - t), widest_from (larger (larger w (t - p)) (u - t)) u ts)
step_le_widest w p (t ∷ u ∷ ts) (suc j) h = rw (suc-add j 1) (step_le_widest (larger w (t - p)) t (u ∷ ts) j (omega arith))

-- ---- reading the table

pub length_table_from : (k count : ℕ) (b : ℕ → ℕ) (q p : ℕ) → length (table_from k count b q p) ≡ k
unfolding table_from
length_table_from zero count b q p = refl
length_table_from (suc k) count b q p = ap suc (length_table_from k count b (q + 1) (ahead (count - p) b q p))

-- what stands at entry j of numbers stored as halves
pub le_halves : (ts o : List ℕ) (at j : ℕ) → j < length ts → at + 2 * length ts ≤ length o → ((i : ℕ) → slice_index ts i < 65536)
    → le 2 (sets o at (halves ts)) (at + 2 * j) ≡ slice_index ts j
unfolding halves
le_halves [] o at j h l f = absurd (omega arith)
le_halves (t ∷ ts) o at zero h l f =
    let z : at + 2 * 0 ≡ at = omega arith in
    rw (z, ← sets_sets o at (le_bytes 2 t) (halves ts))
    (le_sets_before 2 (sets o at (le_bytes 2 t)) (at + length (le_bytes 2 t)) (halves ts) at (omega (arith, length_le_bytes 2 t))
    ∙ le_sets 2 o at t (omega arith) (f 0))
le_halves (t ∷ ts) o at (suc j) h l f =
    let z : at + 2 * suc j ≡ at + length (le_bytes 2 t) + 2 * j = omega (arith, length_le_bytes 2 t) in
    rw (z, ← sets_sets o at (le_bytes 2 t) (halves ts))
    (le_halves ts (sets o at (le_bytes 2 t)) (at + length (le_bytes 2 t)) j (omega arith)
    (omega (arith, l, length_le_bytes 2 t, length-sets o at (le_bytes 2 t))) (λ i. f (suc i)))

-- ---- a table that leads

pub record Leads (key bucket : ℕ → ℕ) (m k q t : ℕ) : Type 0 where
  pub fits : t + k < m
  pub before : (key t ≡ 0) ⊎ (bucket (key t) < q)
  pub after : (p : ℕ) → t + k < p → p < m → q < bucket (key p)

pub leads_of_entries : (key bucket : ℕ → ℕ) (count m k q t u : ℕ)
    → Entry (λ i. bucket (key i)) count q t → Entry (λ i. bucket (key i)) count (q + 1) u → u - t ≤ k → t + k < m
    → key 0 ≡ 0 → ((i j : ℕ) → i ≤ j → j < m → bucket (key i) ≤ bucket (key j))
    → ((p : ℕ) → count < p → p < m → q < bucket (key p))
    → Leads key bucket m k q t
leads_of_entries key bucket count m k q t u here then wide fits zeroth rises past =
    record { fits = fits; before = low t here.before; after = high }
  where
    low : (t : ℕ) → ((i : ℕ) → 0 < i → i ≤ t → bucket (key i) < q) → (key t ≡ 0) ⊎ (bucket (key t) < q)
    low zero h = inl zeroth
    low (suc t) h = inr (h (suc t) (omega arith) (omega arith))

    high : (p : ℕ) → t + k < p → p < m → q < bucket (key p)
    high p h l = go (nat_lt count p) refl
      where
        go : (c : Bool) → nat_lt count p ≡ c → q < bucket (key p)
        go true e = past p (ltb-true count p e) l
        go false e =
            let f = ltb-false count p e in
            omega (arith, then.next (omega (arith, f, h, wide)), rises (u + 1) p (omega (arith, h, wide)) l)

-- ---- the table's bytes

pub length_halves : (ts : List ℕ) → length (halves ts) ≡ 2 * length ts
unfolding halves
length_halves [] = refl
length_halves (t ∷ ts) = length-append (le_bytes 2 t) (halves ts) ∙ omega (arith, length_le_bytes 2 t, length_halves ts)

pub length_tabled : (n count : ℕ) (o : List ℕ) → length (tabled n count o) ≡ length o
unfolding tabled
length_tabled n count o = length-sets o (bucket_place 0) (halves (entries n count o))

length_bytes : (n count : ℕ) (o : List ℕ) → length (halves (entries n count o)) ≡ 64 * n
length_bytes n count o =
    length_halves (entries n count o) ∙ omega (arith, length_table_from (buckets n) count (λ i. bucket_at o n i) 0 0)

pub get_d_tabled_before : (n count : ℕ) (o : List ℕ) (k d : ℕ) → k < bucket_place 0 → slice_index_or (tabled n count o) k d ≡ slice_index_or o k d
unfolding tabled
get_d_tabled_before n count o k d h = get_d_sets_before o (bucket_place 0) (halves (entries n count o)) k d h

pub get_d_tabled_after : (n count : ℕ) (o : List ℕ) (k d : ℕ) → key_place n 0 ≤ k → slice_index_or (tabled n count o) k d ≡ slice_index_or o k d
unfolding tabled
get_d_tabled_after n count o k d h =
    get_d_sets_after o (bucket_place 0) (halves (entries n count o)) k d (omega (arith, h, length_bytes n count o))

pub widest_le : (c w p : ℕ) (ts : List ℕ) → w ≤ c → ((i : ℕ) → slice_index ts i ≤ c) → widest w p ts ≤ c
unfolding widest larger
widest_le c w p [] h f = h
widest_le c w p (t ∷ ts) h f = widest_le c (cond (nat_lt w (t - p)) (t - p) w) t ts (go (nat_lt w (t - p))) (λ i. f (suc i))
  where
    go : (b : Bool) → cond b (t - p) w ≤ c
    go true = omega (arith, f 0)
    go false = h

-- entry q of the table
module _ (n count : ℕ) (o : List ℕ) (room : index_size n ≤ length o) (few : count < 65536) where
  entries_in : (i : ℕ) → slice_index (entries n count o) i ≤ count
  entries_in i = go (nat_lt i (buckets n)) refl
    where
      go : (t : Bool) → nat_lt i (buckets n) ≡ t → slice_index (entries n count o) i ≤ count
      go true e =
          (table_entry (buckets n) count (λ i. bucket_at o n i) 0 0 (omega arith) (λ i z u. absurd (omega arith)) i
          (ltb-true i (buckets n) e)).inside
      go false e =
          omega (
            arith,
            get_or-eq_default (entries n count o) 0 {n = i}
                (omega (arith, ltb-false i (buckets n) e, length_table_from (buckets n) count (λ i. bucket_at o n i) 0 0)),
          )

  pub le_tabled : (q : ℕ) → q < buckets n → le 2 (tabled n count o) (bucket_place q) ≡ slice_index (entries n count o) q
  unfolding tabled
  le_tabled q h =
      le_halves (entries n count o) o (bucket_place 0) q (omega (arith, h, length_table_from (buckets n) count (λ i. bucket_at o n i) 0 0))
      (omega (arith, room, length_table_from (buckets n) count (λ i. bucket_at o n i) 0 0)) (λ i. omega (arith, few, entries_in i))

  pub entry_tabled : (q : ℕ) → q < buckets n → Entry (λ i. bucket_at o n i) count q (le 2 (tabled n count o) (bucket_place q))
  entry_tabled q h =
      rw (le_tabled q h)
      (rw (zero-add q) at (table_entry (buckets n) count (λ i. bucket_at o n i) 0 0 (omega arith) (λ i z u. absurd (omega arith)) q h))

  -- no bucket holds more slots than the width
  pub step_le_width : (q : ℕ) → q + 1 < buckets n
      → le 2 (tabled n count o) (bucket_place (q + 1)) - le 2 (tabled n count o) (bucket_place q) ≤ width_of n count o
  unfolding width_of
  step_le_width q h =
      rw (le_tabled (q + 1) h, le_tabled q (omega arith))
      (step_le_widest 0 0 (entries n count o) q (omega (arith, h, length_table_from (buckets n) count (λ i. bucket_at o n i) 0 0)))

  pub width_le : width_of n count o ≤ count
  unfolding width_of
  width_le = widest_le count 0 0 (entries n count o) (omega arith) entries_in

pub entry_agree : (b d : ℕ → ℕ) (count q t : ℕ) → ((i : ℕ) → i ≤ count → b i ≡ d i) → Entry b count q t → Entry d count q t
entry_agree b d count q t h e =
    record {
      inside = e.inside;
      before = λ i z u. let v = e.before i z u in omega (arith, v, h i (omega (arith, u, e.inside)));
      next = λ l. let v = e.next l in omega (arith, v, h (t + 1) (omega (arith, l)));
    }
