-- Record numbers rise along a sheet, places along a record, and what stands at the places are the ranges that the audit compares. Assumes
-- nothing.
use Rattle.std.specs.Prelude.{◌≡◌, refl, Bool, ℕ, suc, ◌+◌, ◌≤◌, ◌<◌, min, length, get_or, take, drop}
use Rattle.std.proofs.Common.{ap, ap₂, ◌∙◌, arith, length-take, pow_pos, ltb-true}
use Rattle.std.proofs.Math.Bool.{true, false, cond}
use mathlib.Core.List.{List, [], ◌∷◌, ◌++◌, map, map-append}
use Rattle.lists.specs.Lists.{◌∈◌, All, Pairwise, any}
use Rattle.lists.specs.ListLaws.{all_append, all_imp, all_of, pairwise_append}
use Rattle.lists.specs.ListLaws.{flat_elim, flat_intro}
use Rattle.pools.specs.declared.Pool.{Pool}
use Rattle.pools.specs.declared.Pool.TheVariants.{Low, High, Io}
use Rattle.bar.specs.declared.Slot.{Slot}
use Rattle.bar.specs.declared.Slot.TheVariants.{Unused, Bar, Upper, Bad}
use Rattle.bar.specs.Bar.{SizedSlot}
use Rattle.bar.specs.BarLaws.{sized_slots, length_slots}
use Rattle.window.specs.declared.Window.{Window}
use Rattle.window.specs.Window.{start, stop, is_open}
use Rattle.walk.specs.Ranges.{Range}
use Rattle.sheet_record.specs.Entry.{Entry, slot_count, bridges}
use Rattle.sheet_record.specs.Spaces.{pool_of, open_range, slots_of}
use Rattle.sheet_ranges.specs.Ranges as rule
use Rattle.sheet_ranges.specs.Ranges.{bar_here, ranges_of, windows_in}
use Rattle.audit_finding.specs.Placed.{Numbered, numbered_from, Placed, placed_at, bars_from, window_of, windows_of, placed_of}
use Rattle.audit_finding.specs.Placed.{placed_in}

-- ## Records

abbrev pub entry_in : Numbered → Entry
entry_in r = r.entry

pub entries_numbered : (k : ℕ) (es : List Entry) → map entry_in (numbered_from k es) ≡ es
unfolding numbered_from
entries_numbered k [] = refl
entries_numbered k (e ∷ es) = ap (e ∷◌) (entries_numbered (k + 1) es)

pub any_numbered : (t : Entry → Bool) (k : ℕ) (es : List Entry) → any (λ r. t r.entry) (numbered_from k es) ≡ any t es
unfolding numbered_from any
any_numbered t k [] = refl
any_numbered t k (e ∷ es) = rw (any_numbered t (k + 1) es)

pub numbers_from : (k : ℕ) (es : List Entry) → All (λ r. k ≤ r.number) (numbered_from k es)
unfolding numbered_from
numbers_from k [] = tt
numbers_from k (e ∷ es) = (omega arith, all_imp _ _ (numbered_from (k + 1) es) (numbers_from (k + 1) es) (λ r h. omega arith))

abbrev pub Rising : Numbered → Numbered → Type 0
Rising r q = r.number < q.number

pub numbers_rise : (k : ℕ) (es : List Entry) → Pairwise Rising (numbered_from k es)
unfolding numbered_from
numbers_rise k [] = tt
numbers_rise k (e ∷ es) =
    (all_imp _ _ (numbered_from (k + 1) es) (numbers_from (k + 1) es) (λ r h. omega arith), numbers_rise (k + 1) es)

-- ## What stands at the places

abbrev pub range_in : Placed → Range
range_in p = p.range

ranges_at : (r : Numbered) (i : ℕ) (rs : List Range) → map range_in (map (placed_at r i) rs) ≡ rs
ranges_at r i [] = refl
ranges_at r i (x ∷ rs) = ap (x ∷◌) (ranges_at r i rs)

ranges_bars : (r : Numbered) (i : ℕ) (xs : List Slot) (vs : List ℕ) → map range_in (bars_from r i xs vs) ≡ rule.bars_from xs vs
unfolding bars_from rule.bars_from
ranges_bars r i [] vs = refl
ranges_bars r i (x ∷ xs) vs =
    map-append range_in (map (placed_at r i) (bar_here x vs)) (bars_from r (i + 1) xs (drop 1 vs))
    ∙ ap₂ ◌++◌ (ranges_at r i (bar_here x vs)) (ranges_bars r (i + 1) xs (drop 1 vs))

ranges_windows : (r : Numbered) → map range_in (windows_of r) ≡ windows_in r.entry
ranges_windows r =
    map-append range_in (window_of r Low ++ window_of r High) (window_of r Io)
    ∙ ap₂ ◌++◌
    (map-append range_in (window_of r Low) (window_of r High)
    ∙ ap₂ ◌++◌ (ranges_at r 6 (open_range Low r.entry.low)) (ranges_at r 7 (open_range High r.entry.high)))
    (ranges_at r 8 (open_range Io r.entry.io))

pub ranges_placed : (r : Numbered) → map range_in (placed_of r) ≡ ranges_of r.entry
unfolding placed_of ranges_of
ranges_placed r =
    map-append range_in (bars_from r 0 (slots_of r.entry) r.entry.values) (cond (bridges r.entry) (windows_of r) [])
    ∙ ap₂ ◌++◌ (ranges_bars r 0 (slots_of r.entry) r.entry.values) (go (bridges r.entry))
  where
    go : (b : Bool) → map range_in (cond b (windows_of r) []) ≡ cond b (windows_in r.entry) []
    go true = ranges_windows r
    go false = refl

-- ## What holds of all of them: of each slot's BAR, of each window

module _ (P : Placed → Type 0) (r : Numbered) where
  all_at : (i : ℕ) (rs : List Range) → All (λ x. P (placed_at r i x)) rs → All P (map (placed_at r i) rs)
  all_at i [] h = tt
  all_at i (x ∷ rs) h = (h.0, all_at i rs h.1)

  all_placed : All P (bars_from r 0 (slots_of r.entry) r.entry.values)
      → All (λ x. P (placed_at r 6 x)) (open_range Low r.entry.low) → All (λ x. P (placed_at r 7 x)) (open_range High r.entry.high)
      → All (λ x. P (placed_at r 8 x)) (open_range Io r.entry.io) → All P (placed_of r)
  unfolding placed_of
  all_placed bars low high io =
      all_append P (bars_from r 0 (slots_of r.entry) r.entry.values) (cond (bridges r.entry) (windows_of r) []) bars
      (go (bridges r.entry))
    where
      go : (b : Bool) → All P (cond b (windows_of r) [])
      go true =
          all_append P (window_of r Low ++ window_of r High) (window_of r Io)
          (all_append P (window_of r Low) (window_of r High)
          (all_at 6 (open_range Low r.entry.low) low) (all_at 7 (open_range High r.entry.high) high))
          (all_at 8 (open_range Io r.entry.io) io)
      go false = tt

  all_bars : ((i : ℕ) (x : Slot) (vs : List ℕ) → All (λ y. P (placed_at r i y)) (bar_here x vs)) → (i : ℕ) (xs : List Slot) (vs : List ℕ)
      → All P (bars_from r i xs vs)
  unfolding bars_from
  all_bars f i [] vs = tt
  all_bars f i (x ∷ xs) vs =
      all_append P (map (placed_at r i) (bar_here x vs)) (bars_from r (i + 1) xs (drop 1 vs)) (all_at i (bar_here x vs) (f i x vs))
      (all_bars f (i + 1) xs (drop 1 vs))

pub owners_placed : (r : Numbered) → All (λ p. p.owner ≡ r) (placed_of r)
owners_placed r =
    all_placed (λ p. p.owner ≡ r) r
    (all_bars (λ p. p.owner ≡ r) r (λ i x vs. all_of _ (λ y. refl) (bar_here x vs)) 0 (slots_of r.entry) r.entry.values)
    (all_of _ (λ y. refl) (open_range Low r.entry.low)) (all_of _ (λ y. refl) (open_range High r.entry.high))
    (all_of _ (λ y. refl) (open_range Io r.entry.io))

-- ## None is empty

abbrev pub Holding : Range → Type 0
Holding x = x.start < x.stop

open_holding : (q : Pool) (w : Window) → All Holding (open_range q w)
open_holding q w = go (is_open q w) refl
  where
    go : (b : Bool) → is_open q w ≡ b → All Holding (cond b (record { pool = pool_of q; start = start q w; stop = stop q w } ∷ []) [])
    go true e = (ltb-true (start q w) (stop q w) e, tt)
    go false e = tt

bar_holding : (x : Slot) (vs : List ℕ) → SizedSlot x → All Holding (bar_here x vs)
bar_holding Unused vs z = tt
bar_holding (Bar q wide size) vs z = (omega (arith, z.power, pow_pos z.bit), tt)
bar_holding Upper vs z = tt
bar_holding Bad vs z = tt

bars_holding : (r : Numbered) (i : ℕ) (xs : List Slot) (vs : List ℕ) → ((j : ℕ) → SizedSlot (get_or xs j Unused))
    → All (λ p. Holding p.range) (bars_from r i xs vs)
unfolding bars_from
bars_holding r i [] vs z = tt
bars_holding r i (x ∷ xs) vs z =
    all_append _ (map (placed_at r i) (bar_here x vs)) (bars_from r (i + 1) xs (drop 1 vs))
    (all_at (λ p. Holding p.range) r i (bar_here x vs) (bar_holding x vs (z 0)))
    (bars_holding r (i + 1) xs (drop 1 vs) (λ j. z (suc j)))

pub holding_placed : (r : Numbered) → All (λ p. Holding p.range) (placed_of r)
holding_placed r =
    all_placed (λ p. Holding p.range) r
    (bars_holding r 0 (slots_of r.entry) r.entry.values (sized_slots (take (slot_count r.entry.header) r.entry.readbacks)))
    (open_holding Low r.entry.low) (open_holding High r.entry.high) (open_holding Io r.entry.io)

-- ## Places rise

abbrev pub PlacesRise : Placed → Placed → Type 0
PlacesRise p q = p.place < q.place

-- at one place
one_place : (r : Numbered) (i : ℕ) (x : Slot) (vs : List ℕ) → Pairwise PlacesRise (map (placed_at r i) (bar_here x vs))
one_place r i Unused vs = tt
one_place r i (Bar q wide size) vs = (tt, tt)
one_place r i Upper vs = tt
one_place r i Bad vs = tt

bars_within : (r : Numbered) (i : ℕ) (xs : List Slot) (vs : List ℕ)
    → All (λ p. (i ≤ p.place) × (p.place < i + length xs)) (bars_from r i xs vs)
unfolding bars_from
bars_within r i [] vs = tt
bars_within r i (x ∷ xs) vs =
    all_append _ (map (placed_at r i) (bar_here x vs)) (bars_from r (i + 1) xs (drop 1 vs))
    (all_at (λ p. (i ≤ p.place) × (p.place < i + suc (length xs))) r i (bar_here x vs)
    (all_of _ (λ y. (omega arith, omega arith)) (bar_here x vs)))
    (all_imp _ _ (bars_from r (i + 1) xs (drop 1 vs)) (bars_within r (i + 1) xs (drop 1 vs))
    (λ p h. (omega (arith, h.0), omega (arith, h.1))))

bars_rise : (r : Numbered) (i : ℕ) (xs : List Slot) (vs : List ℕ) → Pairwise PlacesRise (bars_from r i xs vs)
unfolding bars_from
bars_rise r i [] vs = tt
bars_rise r i (x ∷ xs) vs =
    pairwise_append PlacesRise (map (placed_at r i) (bar_here x vs)) (bars_from r (i + 1) xs (drop 1 vs)) (one_place r i x vs)
    (bars_rise r (i + 1) xs (drop 1 vs))
    (all_at (λ p. All (PlacesRise p) (bars_from r (i + 1) xs (drop 1 vs))) r i (bar_here x vs)
    (all_of _ (λ y.
    all_imp _ _ (bars_from r (i + 1) xs (drop 1 vs)) (bars_within r (i + 1) xs (drop 1 vs)) (λ p h. omega (arith, h.0))) (bar_here x vs)))

six_slots : (e : Entry) → length (slots_of e) ≤ 6
six_slots e =
    let n = slot_count e.header in
    omega (arith, length_slots (take n e.readbacks), length-take n e.readbacks, least n (length e.readbacks), go (bridges e))
  where
    go : (b : Bool) → cond b 2 6 ≤ 6
    go true = omega arith
    go false = omega arith

    least : (a b : ℕ) → min a b ≤ a
    least a b = omega arith

-- a window, at its place
window_rises : (r : Numbered) (i : ℕ) (q : Pool) (w : Window) → Pairwise PlacesRise (map (placed_at r i) (open_range q w))
window_rises r i q w = go (is_open q w)
  where
    go : (b : Bool)
        → Pairwise PlacesRise (map (placed_at r i) (cond b (record { pool = pool_of q; start = start q w; stop = stop q w } ∷ []) []))
    go true = (tt, tt)
    go false = tt

module _ (r : Numbered) where
  at_place : (i : ℕ) (rs : List Range) → All (λ p. p.place ≡ i) (map (placed_at r i) rs)
  at_place i rs = all_at (λ p. p.place ≡ i) r i rs (all_of _ (λ y. refl) rs)

  across : (i j : ℕ) (rs ss : List Range) → i < j → All (λ p. All (PlacesRise p) (map (placed_at r j) ss)) (map (placed_at r i) rs)
  across i j rs ss l =
      all_imp _ _ (map (placed_at r i) rs) (at_place i rs)
      (λ p e. all_imp _ _ (map (placed_at r j) ss) (at_place j ss) (λ q f. omega (arith, e, f)))

  windows_rise : Pairwise PlacesRise (windows_of r)
  windows_rise =
      pairwise_append PlacesRise (window_of r Low ++ window_of r High) (window_of r Io)
      (pairwise_append PlacesRise (window_of r Low) (window_of r High) (window_rises r 6 Low r.entry.low)
      (window_rises r 7 High r.entry.high)
      (across 6 7 (open_range Low r.entry.low) (open_range High r.entry.high) (omega arith)))
      (window_rises r 8 Io r.entry.io)
      (all_append _ (window_of r Low) (window_of r High)
      (across 6 8 (open_range Low r.entry.low) (open_range Io r.entry.io) (omega arith))
      (across 7 8 (open_range High r.entry.high) (open_range Io r.entry.io) (omega arith)))

  after_slots : All (λ p. 6 ≤ p.place) (windows_of r)
  after_slots =
      all_append _ (window_of r Low ++ window_of r High) (window_of r Io)
      (all_append _ (window_of r Low) (window_of r High)
      (all_imp _ _ (window_of r Low) (at_place 6 (open_range Low r.entry.low)) (λ p e. omega (arith, e)))
      (all_imp _ _ (window_of r High) (at_place 7 (open_range High r.entry.high)) (λ p e. omega (arith, e))))
      (all_imp _ _ (window_of r Io) (at_place 8 (open_range Io r.entry.io)) (λ p e. omega (arith, e)))

  abbrev bars : List Placed
  bars = bars_from r 0 (slots_of r.entry) r.entry.values

  before_windows : All (λ p. p.place < 6) bars
  before_windows =
      all_imp _ _ bars (bars_within r 0 (slots_of r.entry) r.entry.values) (λ p h. omega (arith, h.1, six_slots r.entry))

  pub places_rise : Pairwise PlacesRise (placed_of r)
  unfolding placed_of
  places_rise = go (bridges r.entry)
    where
      go : (b : Bool) → Pairwise PlacesRise (bars ++ cond b (windows_of r) [])
      go true =
          pairwise_append PlacesRise bars (windows_of r) (bars_rise r 0 (slots_of r.entry) r.entry.values) windows_rise
          (all_imp _ _ bars before_windows (λ p l. all_imp _ _ (windows_of r) after_slots (λ q m. omega (arith, l, m))))
      go false =
          pairwise_append PlacesRise bars [] (bars_rise r 0 (slots_of r.entry) r.entry.values) tt
          (all_of _ (λ p. tt) bars)

-- ## Of a sheet

pub placed_elim : {p : Placed} (rs : List Numbered) → p ∈ placed_in rs → (r : Numbered) × (r ∈ rs) × (p ∈ placed_of r)
unfolding placed_in
placed_elim rs m = flat_elim placed_of rs m

pub placed_intro : {r : Numbered} {p : Placed} (rs : List Numbered) → r ∈ rs → p ∈ placed_of r → p ∈ placed_in rs
unfolding placed_in
placed_intro rs m n = flat_intro placed_of rs m n
