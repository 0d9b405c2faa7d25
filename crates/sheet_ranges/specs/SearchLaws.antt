-- One turn of a search over a slice's ranges, in the words of the code: b is the test of the range at the index. And the parts of a checked
-- sheet, whose ranges are decoded. Assumes nothing.
use Rattle.std.specs.Prelude.{◌≡◌, refl, Bool, true, false, List, [], ◌∷◌, length}
use Rattle.std.proofs.Math.Path.{sym, ap}
use Rattle.std.proofs.Common.{◌∙◌}
use Prim.Native.Nat.{ℕ, suc, ◌+◌, ◌-◌, ◌≤◌, ◌<◌}
use native.Mathlib.Omega.{arith}
use Rattle.lists.specs.Lists.{any}
use Rattle.walk.specs.Ranges.{Range}
use Rattle.sheet_record.specs.Places.{record_size}
use Rattle.sheet_record.specs.Entry.{bus_of, entry_of, bus}
use Rattle.sheet.specs.declared.Rule.TheVariants.{ReadBacks}
use Rattle.sheet.specs.Sheet.{sheet_length, entries_of, part_at, breaks}
use Rattle.sheet.proofs.SheetLaws.{Checked}
use Rattle.sheet.proofs.RulesLaws.{breaks_index}
use Rattle.sheet.proofs.IndexLaws.{length_part, record_fits}
use Rattle.sheet_ranges.specs.declared.Item.{Item}
use Rattle.sheet_ranges.specs.Items.{range_of, item_at, ranges_from, ranges_in}

-- ## What is left

module _ (xs : List ℕ) (n i : ℕ) where
  pub items_none : n ≤ i → ranges_from xs i (n - i) ≡ []
  unfolding ranges_from
  items_none h = let z : n - i ≡ 0 = omega arith in rw z

  pub items_more : i < n → ranges_from xs i (n - i) ≡ range_of (item_at xs i) ∷ ranges_from xs (i + 1) (n - (i + 1))
  unfolding ranges_from
  items_more h = let z : n - i ≡ suc (n - (i + 1)) = omega arith in rw z

-- before the first turn
pub items_all : (xs : List ℕ) (n : ℕ) → ranges_from xs 0 (n - 0) ≡ ranges_in n xs
items_all xs n = let z : n - 0 ≡ n = omega arith in rw z

-- ## Does one pass the test?

module _ (t : Range → Bool) (xs : List ℕ) (n i : ℕ) where
  pub items_past : n ≤ i → any t (ranges_from xs i (n - i)) ≡ false
  unfolding any
  items_past h = ap (any t) (items_none xs n i h)

  module _ (h : i < n) (x : Item) (e : x ≡ item_at xs i) (b : Bool) (f : b ≡ t (range_of x)) where
    test : t (range_of (item_at xs i)) ≡ b
    test = ap (λ (y : Item). t (range_of y)) (sym e) ∙ sym f

    pub items_hit : b ≡ true → any t (ranges_from xs i (n - i)) ≡ true
    unfolding any
    items_hit y = ap (any t) (items_more xs n i h) ∙ rw (test ∙ y)

    pub items_miss : b ≡ false → any t (ranges_from xs (i + 1) (n - (i + 1))) ≡ any t (ranges_from xs i (n - i))
    unfolding any
    items_miss y = sym (ap (any t) (items_more xs n i h) ∙ rw (test ∙ y))

-- ## A record: p is its part

pub bus_of_entry : (p : List ℕ) → bus_of p ≡ bus (entry_of p)
unfolding entry_of
bus_of_entry p = refl

-- of a checked sheet
module _ (s : List ℕ) (c : Checked s) (k : ℕ) (h : k < length (entries_of s)) where
  pub part_fits : sheet_length (k + 1) ≤ length s
  part_fits = record_fits s c.framed k h

  module _ (p : List ℕ) (e : p ≡ part_at s k) where
    pub part_sized : length p ≡ record_size
    part_sized = ap length e ∙ length_part s k part_fits

    pub part_lawful : breaks ReadBacks (entry_of p) ≡ false
    part_lawful = rw e (breaks_index ReadBacks s c.framed c.readbacks k h)
