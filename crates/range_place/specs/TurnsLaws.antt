-- A search over a record's BARs and open windows whose ranges are decoded: what is left from index i on. Assumes nothing.
use Rattle.std.specs.Prelude.{◌≡◌, refl, Bool, true, false, List, [], ◌∷◌, ℕ, zero, suc, ◌+◌, ◌-◌, ◌≤◌, ◌<◌, length, get_or}
use Rattle.std.proofs.Common.{sym, ◌∙◌, add-one, arith}
use Rattle.std.proofs.Math.Path.{ap, ap₂}
use Rattle.std.proofs.Math.ListN.{drop}
use Rattle.std.proofs.Math.Seq.{drop-cons}
use Rattle.sheet_ranges.specs.Ranges.{ranges_of}
use Rattle.sheet_ranges.specs.declared.Item.{Item}
use Rattle.sheet_ranges.specs.Items.{range_of, item_at, ranges_from, ranges_in}
use Rattle.sheet_ranges.specs.SearchLaws.{items_none, items_more, items_all}
use Rattle.finding.specs.First.{first}
use Rattle.finding.specs.FirstLaws.{first_hit, first_miss, first_nil}
use Rattle.audit_finding.specs.Placed.{Numbered, Placed, placed_at, placed_of}
use Rattle.audit_finding.specs.Zipped.{places_of, zipped, length_places, placed_zipped}

length_from : (xs : List ℕ) (i n : ℕ) → length (ranges_from xs i n) ≡ n
unfolding ranges_from
length_from xs i zero = refl
length_from xs i (suc n) = ap suc (length_from xs (i + 1) n)

zipped_none : (r : Numbered) (ps : List ℕ) → zipped r ps [] ≡ []
unfolding zipped
zipped_none r [] = refl
zipped_none r (p ∷ ps) = refl

-- xs has the record's n ranges: those from index i on
abbrev pub placed_left : Numbered → List ℕ → ℕ → ℕ → List Placed
placed_left r xs n i = zipped r (drop i (places_of r.entry)) (ranges_from xs i (n - i))

module _ (r : Numbered) (xs : List ℕ) (n : ℕ) (is : ranges_in n xs ≡ ranges_of r.entry) where
  count : length (places_of r.entry) ≡ n
  count = length_places r.entry ∙ sym (ap length is) ∙ length_from xs 0 n

  start : placed_of r ≡ placed_left r xs n 0
  start = placed_zipped r ∙ ap (zipped r (places_of r.entry)) (sym (items_all xs n ∙ is))

  past : (i : ℕ) → n ≤ i → placed_left r xs n i ≡ []
  past i h = ap (zipped r (drop i (places_of r.entry))) (items_none xs n i h) ∙ zipped_none r (drop i (places_of r.entry))

  -- x is the range at index i, p its place
  more : (i : ℕ) → i < n → (x : Item) → x ≡ item_at xs i → (p : ℕ) → p ≡ get_or (places_of r.entry) i 0
      → placed_left r xs n i ≡ placed_at r p (range_of x) ∷ placed_left r xs n (i + 1)
  unfolding zipped
  more i h x item p place =
      let places : drop i (places_of r.entry) ≡ p ∷ drop (i + 1) (places_of r.entry) =
      drop-cons (places_of r.entry) i 0 (omega (arith, count, h))
      ∙ ap₂ (λ (q k : ℕ). q ∷ drop k (places_of r.entry)) (sym place) (sym (add-one i)) in
      let ranges : ranges_from xs i (n - i) ≡ range_of x ∷ ranges_from xs (i + 1) (n - (i + 1)) =
      items_more xs n i h ∙ ap (λ (y : Item). range_of y ∷ ranges_from xs (i + 1) (n - (i + 1))) (sym item) in
      ap₂ (zipped r) places ranges

  -- one turn of a search
  module _ {B : Type 0} (t : Placed → Bool) (say : Placed → B) (none : B) where
    pub turn_start : first t say none (placed_left r xs n 0) ≡ first t say none (placed_of r)
    turn_start = ap (first t say none) (sym start)

    pub turn_past : (i : ℕ) → n ≤ i → first t say none (placed_left r xs n i) ≡ none
    turn_past i h = ap (first t say none) (past i h) ∙ first_nil t say none

    module _ (i : ℕ) (h : i < n) (x : Item) (item : x ≡ item_at xs i) (p : ℕ) (place : p ≡ get_or (places_of r.entry) i 0) where
      pub turn_hit : t (placed_at r p (range_of x)) ≡ true → first t say none (placed_left r xs n i) ≡ say (placed_at r p (range_of x))
      turn_hit e =
          ap (first t say none) (more i h x item p place)
          ∙ first_hit t say none (placed_at r p (range_of x)) (placed_left r xs n (i + 1)) e

      pub turn_miss : t (placed_at r p (range_of x)) ≡ false
          → first t say none (placed_left r xs n i) ≡ first t say none (placed_left r xs n (i + 1))
      turn_miss e =
          ap (first t say none) (more i h x item p place)
          ∙ first_miss t say none (placed_at r p (range_of x)) (placed_left r xs n (i + 1)) e
