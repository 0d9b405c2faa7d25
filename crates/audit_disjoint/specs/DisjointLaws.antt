-- Each turn of the search for an overlap, in the words of the code. Assumes nothing.
use Rattle.std.specs.Prelude.{◌≡◌, Bool, true, false, ◌&&◌, ◌||◌, List, ◌∷◌, ℕ, ◌+◌, ◌-◌, ◌≤◌, ◌<◌, eqb, leb, length, get_or}
use Rattle.std.proofs.Common.{sym, ap₂, ◌∙◌, arith}
use Rattle.std.proofs.Math.Path.{ap}
use Rattle.std.proofs.Math.Bool.{or_assoc}
use Rattle.std.proofs.Math.Dec.{leb-suc-suc}
use Rattle.endian.specs.Endian.{be}
use Rattle.lists.specs.Lists.{any}
use Rattle.walk.specs.Ranges.{Range}
use Rattle.sheet_record.specs.Places.{id_at}
use Rattle.sheet_record.specs.Entry.{Entry, bus_of, entry_of, bus}
use Rattle.sheet.specs.Sheet.{Framed, entries_from, entries_of, part_at, record_at}
use Rattle.sheet.proofs.CheckLaws.{entries_past, count_entries}
use Rattle.sheet.proofs.IndexLaws.{entries_index}
use Rattle.sheet_ranges.specs.Ranges.{ranges_of, overlap, space_number}
use Rattle.sheet_ranges.specs.declared.Item.{Item}
use Rattle.sheet_ranges.specs.Items.{range_of, item_at, ranges_from}
use Rattle.sheet_ranges.specs.SearchLaws.{items_none, items_more, bus_of_entry}
use Rattle.audit_rule.specs.Audit.{any_pair, any_overlap, overlap_on_bus, not_disjoint}
use Rattle.audit_disjoint.specs.Disjoint.{overlaps_on, overlaps_at}

-- ## Two ranges

-- by last addresses; s and u are their spaces
pub overlap_items : (a b : Item) (s u : ℕ) → s ≡ space_number (range_of a).pool → u ≡ space_number (range_of b).pool
    → (eqb s u && (leb a.first b.last && leb b.first a.last)) ≡ overlap (range_of a) (range_of b)
overlap_items a b s u e f = rw (e, f, leb-suc-suc a.first b.last, leb-suc-suc b.first a.last)

-- ## Each two of n ranges: b says whether range i, x, overlaps a later one

module _ (xs : List ℕ) (n i : ℕ) where
  pub pairs_past : n ≤ i → any_pair overlap (ranges_from xs i (n - i)) ≡ false
  unfolding any_pair
  pairs_past h = ap (any_pair overlap) (items_none xs n i h)

  module _ (h : i < n) (x : Item) (e : x ≡ item_at xs i) (b : Bool)
      (f : b ≡ any (overlap (range_of x)) (ranges_from xs (i + 1) (n - (i + 1)))) where
    pairs_here : any_pair overlap (ranges_from xs i (n - i)) ≡ (b || any_pair overlap (ranges_from xs (i + 1) (n - (i + 1))))
    unfolding any_pair
    pairs_here = rw (f, e) (ap (any_pair overlap) (items_more xs n i h))

    pub pairs_hit : b ≡ true → any_pair overlap (ranges_from xs i (n - i)) ≡ true
    pairs_hit y = pairs_here ∙ rw y

    pub pairs_miss : b ≡ false → any_pair overlap (ranges_from xs (i + 1) (n - (i + 1))) ≡ any_pair overlap (ranges_from xs i (n - i))
    pairs_miss y = sym (pairs_here ∙ rw y)

-- ## Another record: on says whether it is on the bus

-- an ID's first byte is its bus, since its second is a byte
bus_of_byte : (p : List ℕ) → get_or p 1 0 < 256 → get_or p id_at 0 ≡ bus_of p
unfolding be
bus_of_byte p h = omega arith

module _ (p : List ℕ) (b : ℕ) (rs : List Range) (on : Bool) (e : on ≡ eqb b (get_or p id_at 0)) (byte : get_or p 1 0 < 256) where
  on_bus_lem : eqb b (bus (entry_of p)) ≡ on
  on_bus_lem = sym (e ∙ ap (eqb b) (bus_of_byte p byte ∙ bus_of_entry p))

  pub meets_off : on ≡ false → false ≡ overlaps_on b rs (entry_of p)
  meets_off y = rw (on_bus_lem ∙ y)

  -- ss are its ranges
  pub meets_on : (ss : List Range) (r : Bool) → on ≡ true → ss ≡ ranges_of (entry_of p) → r ≡ any_overlap rs ss
      → r ≡ overlaps_on b rs (entry_of p)
  meets_on ss r y f g = rw (on_bus_lem ∙ y, ← f) g

-- ## A record and those after it: p is its part, rs are its ranges, own says whether two of these overlap

module _ (p here : List ℕ) (es : List Entry) (rs : List Range) (own : Bool) (is : p ≡ here) (e : rs ≡ ranges_of (entry_of p))
    (f : own ≡ any_pair overlap rs) where
  own_is : any_pair overlap (ranges_of (entry_of here)) ≡ own
  own_is = rw (← is, ← e) (sym f)

  pub at_own : own ≡ true → true ≡ overlaps_at (entry_of here) es
  at_own y = rw (own_is ∙ y)

  -- b is its bus
  pub at_later : (r : Bool) (b : ℕ) → own ≡ false → b ≡ bus_of p → r ≡ any (overlaps_on b rs) es → r ≡ overlaps_at (entry_of here) es
  at_later r b y g h =
      let bus_is : b ≡ bus (entry_of here) = g ∙ bus_of_entry p ∙ ap (λ (q : List ℕ). bus (entry_of q)) is in
      let ranges_are : rs ≡ ranges_of (entry_of here) = e ∙ ap (λ (q : List ℕ). ranges_of (entry_of q)) is in
      h
      ∙ ap₂ (λ (c : ℕ) (ts : List Range). any (overlaps_on c ts) es) bus_is ranges_are
      ∙ ap (λ (t : Bool). t || any (overlap_on_bus (entry_of here)) es) (sym (own_is ∙ y))

not_disjoint_cons : (e : Entry) (es : List Entry) → not_disjoint (e ∷ es) ≡ (overlaps_at e es || not_disjoint es)
unfolding not_disjoint
not_disjoint_cons e es = sym (or_assoc (any_pair overlap (ranges_of e)) (any (overlap_on_bus e) es) (not_disjoint es))

-- ## All records: b says whether two ranges of record k overlap, or one of them and a later record's

module _ (s : List ℕ) (f : Framed 1 s) (n k : ℕ) (count : n ≡ length (entries_of s)) where
  pub not_disjoint_past : n ≤ k → not_disjoint (entries_from s (record_at k)) ≡ false
  unfolding not_disjoint
  not_disjoint_past h = ap not_disjoint (entries_past s (record_at k) (omega (arith, count_entries s f)))

  module _ (h : k < n) (b : Bool) (g : b ≡ overlaps_at (entry_of (part_at s k)) (entries_from s (record_at (k + 1)))) where
    not_disjoint_here : not_disjoint (entries_from s (record_at k)) ≡ (b || not_disjoint (entries_from s (record_at (k + 1))))
    not_disjoint_here = ap not_disjoint (entries_index s f k (omega arith)) ∙ not_disjoint_cons _ _ ∙ rw g

    pub not_disjoint_hit : b ≡ true → not_disjoint (entries_from s (record_at k)) ≡ true
    not_disjoint_hit y = not_disjoint_here ∙ rw y

    pub not_disjoint_miss : b ≡ false → not_disjoint (entries_from s (record_at (k + 1))) ≡ not_disjoint (entries_from s (record_at k))
    not_disjoint_miss y = sym (not_disjoint_here ∙ rw y)
