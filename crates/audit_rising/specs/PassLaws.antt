-- One pass over a framed sheet's records that takes what each has, in the words of the code. Assumes nothing.
use Rattle.std.specs.Prelude.{◌≡◌, refl, Bool, true, false, not, ◌&&◌, ◌||◌, ℕ, suc, ◌+◌, ◌-◌, ◌*◌, ◌%◌, ◌≤◌, ◌<◌, eqb, leb, ltb, length}
use Rattle.std.proofs.Common.{sym, ◌∙◌, arith}
use Rattle.std.proofs.Math.Path.{subst}
use mathlib.Core.List.{List, [], ◌∷◌, ◌++◌, map, flat_map}
use Rattle.walk.specs.Ranges.{Range}
use Rattle.sheet_record.specs.Entry.{Entry, entry_of, bus_of, header_of, is_bridge, secondary_of, subordinate_of, bridges}
use Rattle.sheet.specs.Sheet.{Framed, entries_from, entries_of, part_at, record_at}
use Rattle.sheet.proofs.CheckLaws.{count_entries, entries_past}
use Rattle.sheet.proofs.IndexLaws.{entries_index}
use Rattle.sheet_ranges.specs.Ranges.{ranges_of}
use Rattle.sheet_ranges.specs.declared.Item.{Item}
use Rattle.sheet_ranges.specs.Items.{range_of, item_at, ranges_from, ranges_in}
use Rattle.sheet_ranges.specs.ItemsLaws.{number_of_pool}
use Rattle.sheet_ranges.specs.SearchLaws.{items_none, items_more, items_all, bus_of_entry}
use Rattle.audit_rule.specs.Audit.{any_pair, buses_shared, not_disjoint}
use Rattle.audit_rising.specs.Rising.{Spot, spot, Rising, Takes}
use Rattle.audit_rising.specs.RisingLaws.{rising_clear}
use Rattle.audit_rising.specs.Spots.{sided, key_of, spot_of, spots_of, buses_of}
use Rattle.audit_rising.specs.SpotsLaws.{disjoint_of_clear, shared_none}

pub header_entry : (p : List ℕ) → bridges (entry_of p) ≡ is_bridge (header_of p)
unfolding entry_of
header_entry p = refl

buses_are : (p : List ℕ) → is_bridge (header_of p) ≡ true → buses_of (entry_of p) ≡ spot (bus_of p) (secondary_of p) (subordinate_of p) true ∷ []
unfolding entry_of
buses_are p e = rw e

-- P says of the state of a pass that it may go on with these
module _ {S : Type 0} (P : S → List Spot → Type 0) where
  -- these take one state to another
  abbrev pub Leaves : S → List Spot → S → Type 0
  Leaves t xs u = (ys : List Spot) → P u ys → P t (xs ++ ys)

  -- n records in all, and those from k on are left
  module _ (spots : Entry → List Spot) (s : List ℕ) (f : Framed 1 s) (n k : ℕ) (count : n ≡ length (entries_of s)) (t : S) where
    pub records_past : n ≤ k → P t [] → P t (flat_map spots (entries_from s (record_at k)))
    unfolding flat_map
    records_past h r =
        subst (λ (es : List Entry). P t (flat_map spots es))
        (sym (entries_past s (record_at k) (omega (arith, count, count_entries s f)))) r

    pub records_turn : k < n → (p : List ℕ) → p ≡ part_at s k → (u : S) → Leaves t (spots (entry_of p)) u
        → P u (flat_map spots (entries_from s (record_at (k + 1)))) → P t (flat_map spots (entries_from s (record_at k)))
    unfolding flat_map
    records_turn h p is u takes left =
        subst (λ (es : List Entry). P t (flat_map spots es)) (sym (entries_index s f k (omega (arith, count))))
        (subst (λ (q : List ℕ). P t (spots (entry_of q) ++ flat_map spots (entries_from s (record_at (k + 1))))) is
        (takes (flat_map spots (entries_from s (record_at (k + 1)))) left))

  -- n ranges in all, and those from i on are left
  module _ (spotted : Range → Spot) (xs : List ℕ) (n i : ℕ) (t : S) where
    pub ranges_past : n ≤ i → Leaves t (map spotted (ranges_from xs i (n - i))) t
    ranges_past h ys r = subst (λ (rs : List Range). P t (map spotted rs ++ ys)) (sym (items_none xs n i h)) r

    pub ranges_all : (v : S) → Leaves t (map spotted (ranges_from xs 0 (n - 0))) v → Leaves t (map spotted (ranges_in n xs)) v
    ranges_all v takes = subst (λ (rs : List Range). Leaves t (map spotted rs) v) (items_all xs n) takes

    pub ranges_turn : i < n → (x : Item) → x ≡ item_at xs i → (u v : S) → Leaves t (spotted (range_of x) ∷ []) u
        → Leaves u (map spotted (ranges_from xs (i + 1) (n - (i + 1)))) v → Leaves t (map spotted (ranges_from xs i (n - i))) v
    ranges_turn h x is u v takes left ys r =
        subst (λ (rs : List Range). P t (map spotted rs ++ ys)) (sym (items_more xs n i h))
        (subst (λ (y : Item). P t (spotted (range_of y) ∷ map spotted (ranges_from xs (i + 1) (n - (i + 1))) ++ ys)) is
        (takes (map spotted (ranges_from xs (i + 1) (n - (i + 1))) ++ ys) (left ys r)))

  -- a function's own ranges, decoded
  pub takes_own : (p : List ℕ) (b : ℕ) (rs : List Range) → b ≡ bus_of p → rs ≡ ranges_of (entry_of p) → (t u : S)
      → Leaves t (map (spot_of b) rs) u → Leaves t (spots_of (entry_of p)) u
  takes_own p b rs e f t u takes =
      subst (λ (c : ℕ). Leaves t (map (spot_of c) (ranges_of (entry_of p))) u) (e ∙ bus_of_entry p)
      (subst (λ (ss : List Range). Leaves t (map (spot_of b) ss) u) f takes)

  -- one range, by its key
  pub takes_range : (b : ℕ) (a : Item) (k : ℕ) → k ≡ key_of b (range_of a) → sided (range_of a) ≡ true → (t u : S)
      → Leaves t (spot k a.first a.last true ∷ []) u → Leaves t (spot_of b (range_of a) ∷ []) u
  takes_range b a k e told t u takes = subst (λ (x : Spot). Leaves t (x ∷ []) u) same takes
    where
      same : spot k a.first a.last true ≡ spot_of b (range_of a)
      same = λ i. record { key = e i; start = a.first; stop = suc a.last; told = sym told i }

-- where the pass comes to its end, what there is rises
module _ (s : List ℕ) (t : List ℕ) where
  pub ranges_told : Rising t (flat_map spots_of (entries_of s)) → not_disjoint (entries_of s) ≡ false
  ranges_told r = disjoint_of_clear (entries_of s) (rising_clear t (flat_map spots_of (entries_of s)) r)

  pub buses_told : Rising t (flat_map buses_of (entries_of s)) → any_pair buses_shared (entries_of s) ≡ false
  buses_told r = shared_none (entries_of s) (rising_clear t (flat_map buses_of (entries_of s)) r)

-- ## One range, and one bridge

pub sided_of_item : (a : Item)
    → ((not (eqb (a.pool % 4) 1) || ltb a.last 4294967296) && (not (eqb (a.pool % 4) 2) || leb 4294967296 a.first))
    ≡ sided (range_of a)
sided_of_item a = rw (number_of_pool a.pool)

pub key_of_item : (b : ℕ) (a : Item) → a.pool % 4 % 3 * 256 + b ≡ key_of b (range_of a)
key_of_item b a = rw (number_of_pool a.pool)

module _ (p : List ℕ) (bridge : Bool) (is : bridge ≡ is_bridge (header_of p)) (t : List ℕ) where
  pub takes_none : bridge ≡ false → Takes t (buses_of (entry_of p)) t
  takes_none e ys r = subst (λ (xs : List Spot). Rising t (xs ++ ys)) (sym none) r
    where
      none : buses_of (entry_of p) ≡ []
      none = rw (header_entry p, sym is ∙ e)

  pub takes_bridge : bridge ≡ true → (b m n : ℕ) → b ≡ bus_of p → m ≡ secondary_of p → n ≡ subordinate_of p → (u : List ℕ)
      → Takes t (spot b m n true ∷ []) u → Takes t (buses_of (entry_of p)) u
  takes_bridge e b m n eb em en u takes = subst (λ (xs : List Spot). Takes t xs u) same takes
    where
      same : (spot b m n true ∷ []) ≡ buses_of (entry_of p)
      same = rw (eb, em, en) (sym (buses_are p (sym is ∙ e)))
