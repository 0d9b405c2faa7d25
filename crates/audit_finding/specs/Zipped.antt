-- A record's BARs and open windows as two lists, their places and their ranges, for code that decodes the ranges alone. Assumes nothing.
use Rattle.std.proofs.Math.Path.{◌≡◌, refl, sym, ap, ap₂}
use Rattle.std.proofs.Common.{◌∙◌, arith, length-append}
use Rattle.std.specs.Prelude.{Bool, ℕ, suc, ◌+◌, drop}
use Rattle.std.proofs.Math.Bool.{true, false, cond}
use mathlib.Core.List.{List, [], ◌∷◌, ◌++◌, map}
use Rattle.std.proofs.Math.ListN.{length}
use Rattle.lists.specs.Lists.{one_if}
use Rattle.pools.specs.declared.Pool.{Pool}
use Rattle.pools.specs.declared.Pool.TheVariants.{Low, High, Io}
use Rattle.bar.specs.declared.Slot.{Slot}
use Rattle.bar.specs.declared.Slot.TheVariants.{Unused, Bar, Upper, Bad}
use Rattle.bar.specs.Values.{value_here, base_of}
use Rattle.window.specs.declared.Window.{Window}
use Rattle.window.specs.Window.{start, stop, is_open}
use Rattle.walk.specs.Ranges.{Range}
use Rattle.sheet_record.specs.Entry.{Entry, bridges}
use Rattle.sheet_record.specs.Spaces.{pool_of, bar_range, open_range, slots_of}
use Rattle.sheet_ranges.specs.Ranges as rule
use Rattle.sheet_ranges.specs.Ranges.{bar_here, windows_in, ranges_of}
use Rattle.finding.specs.Places.{window_place}
use Rattle.audit_finding.specs.Placed.{Numbered, Placed, placed_at, bars_from, windows_of, placed_of}

-- ## The places

abbrev pub bar_place : Slot → ℕ → List ℕ
bar_place Unused i = []
bar_place (Bar q wide size) i = i ∷ []
bar_place Upper i = []
bar_place Bad i = []

unfoldable pub bar_places : ℕ → List Slot → List ℕ
bar_places i [] = []
bar_places i (x ∷ xs) = bar_place x i ++ bar_places (i + 1) xs

abbrev pub window_places : Entry → List ℕ
window_places e =
    (one_if (is_open Low e.low) (window_place Low) ++ one_if (is_open High e.high) (window_place High))
    ++ one_if (is_open Io e.io) (window_place Io)

unfoldable pub places_of : Entry → List ℕ
places_of e = bar_places 0 (slots_of e) ++ cond (bridges e) (window_places e) []

-- ## With the ranges

unfoldable pub zipped : Numbered → List ℕ → List Range → List Placed
zipped r [] xs = []
zipped r (p ∷ ps) [] = []
zipped r (p ∷ ps) (x ∷ xs) = placed_at r p x ∷ zipped r ps xs

-- a window, open or not
abbrev open_as : Pool → Window → Bool → List Range
open_as q w b = cond b (record { pool = pool_of q; start = start q w; stop = stop q w } ∷ []) []

zipped_nil : (r : Numbered) → zipped r [] [] ≡ []
unfolding zipped
zipped_nil r = refl

module _ (r : Numbered) where
  zipped_append : (ps qs : List ℕ) (xs ys : List Range) → length ps ≡ length xs
      → zipped r (ps ++ qs) (xs ++ ys) ≡ zipped r ps xs ++ zipped r qs ys
  unfolding zipped
  zipped_append [] qs [] ys e = refl
  zipped_append [] qs (x ∷ xs) ys e = absurd (let z : ◌≡◌ {A = ℕ} 0 (suc (length xs)) = e in omega arith)
  zipped_append (p ∷ ps) qs [] ys e = absurd (let z : ◌≡◌ {A = ℕ} (suc (length ps)) 0 = e in omega arith)
  zipped_append (p ∷ ps) qs (x ∷ xs) ys e = ap (placed_at r p x ∷◌) (zipped_append ps qs xs ys (omega (arith, e)))

  bars_zipped : (i : ℕ) (xs : List Slot) (vs : List ℕ) → bars_from r i xs vs ≡ zipped r (bar_places i xs) (rule.bars_from xs vs)
  unfolding bars_from bar_places rule.bars_from zipped
  bars_zipped i [] vs = refl
  bars_zipped i (x ∷ xs) vs = go x (bars_zipped (i + 1) xs (drop 1 vs))
    where
      go : (y : Slot) → bars_from r (i + 1) xs (drop 1 vs) ≡ zipped r (bar_places (i + 1) xs) (rule.bars_from xs (drop 1 vs))
          → map (placed_at r i) (bar_here y vs) ++ bars_from r (i + 1) xs (drop 1 vs)
          ≡ zipped r (bar_place y i ++ bar_places (i + 1) xs) (bar_here y vs ++ rule.bars_from xs (drop 1 vs))
      go Unused e = e
      go (Bar q wide size) e =
          ap (λ (ps : List Placed).
          placed_at r i (bar_range q (base_of (Bar q wide size) (value_here (Bar q wide size) vs)) size) ∷ ps) e
      go Upper e = e
      go Bad e = e

  window_zipped : (q : Pool) (w : Window)
      → map (placed_at r (window_place q)) (open_range q w) ≡ zipped r (one_if (is_open q w) (window_place q)) (open_range q w)
  unfolding zipped
  window_zipped q w = go (is_open q w)
    where
      go : (b : Bool)
          → map (placed_at r (window_place q)) (open_as q w b) ≡ zipped r (one_if b (window_place q)) (open_as q w b)
      go true = refl
      go false = refl

length_bars : (i : ℕ) (xs : List Slot) (vs : List ℕ) → length (bar_places i xs) ≡ length (rule.bars_from xs vs)
unfolding bar_places rule.bars_from
length_bars i [] vs = refl
length_bars i (x ∷ xs) vs = go x (length_bars (i + 1) xs (drop 1 vs))
  where
    go : (y : Slot) → length (bar_places (i + 1) xs) ≡ length (rule.bars_from xs (drop 1 vs))
        → length (bar_place y i ++ bar_places (i + 1) xs) ≡ length (bar_here y vs ++ rule.bars_from xs (drop 1 vs))
    go Unused e = e
    go (Bar q wide size) e = ap suc e
    go Upper e = e
    go Bad e = e

length_window : (q : Pool) (w : Window) → length (one_if (is_open q w) (window_place q)) ≡ length (open_range q w)
length_window q w = go (is_open q w)
  where
    go : (b : Bool) → length (one_if b (window_place q)) ≡ length (open_as q w b)
    go true = refl
    go false = refl

-- two lists of two parts each
length_two : {A B : Type 0} (ps qs : List A) (xs ys : List B) → length ps ≡ length xs → length qs ≡ length ys
    → length (ps ++ qs) ≡ length (xs ++ ys)
length_two ps qs xs ys e f = length-append ps qs ∙ ap₂ ◌+◌ e f ∙ sym (length-append xs ys)

module _ (e : Entry) where
  length_memory : length (one_if (is_open Low e.low) (window_place Low) ++ one_if (is_open High e.high) (window_place High))
      ≡ length (open_range Low e.low ++ open_range High e.high)
  length_memory =
      length_two (one_if (is_open Low e.low) (window_place Low)) (one_if (is_open High e.high) (window_place High))
      (open_range Low e.low) (open_range High e.high) (length_window Low e.low) (length_window High e.high)

  length_windows : length (window_places e) ≡ length (windows_in e)
  length_windows =
      length_two (one_if (is_open Low e.low) (window_place Low) ++ one_if (is_open High e.high) (window_place High))
      (one_if (is_open Io e.io) (window_place Io)) (open_range Low e.low ++ open_range High e.high) (open_range Io e.io)
      length_memory (length_window Io e.io)

  -- as many places as ranges
  pub length_places : length (places_of e) ≡ length (ranges_of e)
  unfolding places_of ranges_of
  length_places =
      length_two (bar_places 0 (slots_of e)) (cond (bridges e) (window_places e) []) (rule.bars_from (slots_of e) e.values)
      (cond (bridges e) (windows_in e) []) (length_bars 0 (slots_of e) e.values) (go (bridges e))
    where
      go : (b : Bool) → length (cond b (window_places e) []) ≡ length (cond b (windows_in e) [])
      go true = length_windows
      go false = refl

module _ (r : Numbered) where
  abbrev own : Entry
  own = r.entry

  windows_zipped : windows_of r ≡ zipped r (window_places own) (windows_in own)
  windows_zipped =
      ap₂ ◌++◌
      (ap₂ ◌++◌ (window_zipped r Low own.low) (window_zipped r High own.high)
      ∙ sym (zipped_append r (one_if (is_open Low own.low) (window_place Low)) (one_if (is_open High own.high) (window_place High))
      (open_range Low own.low) (open_range High own.high) (length_window Low own.low)))
      (window_zipped r Io own.io)
      ∙ sym (zipped_append r
      (one_if (is_open Low own.low) (window_place Low) ++ one_if (is_open High own.high) (window_place High))
      (one_if (is_open Io own.io) (window_place Io)) (open_range Low own.low ++ open_range High own.high) (open_range Io own.io)
      (length_memory own))

  pub placed_zipped : placed_of r ≡ zipped r (places_of own) (ranges_of own)
  unfolding placed_of places_of ranges_of
  placed_zipped =
      ap₂ ◌++◌ (bars_zipped r 0 (slots_of own) own.values) (go (bridges own))
      ∙ sym (zipped_append r (bar_places 0 (slots_of own)) (cond (bridges own) (window_places own) [])
      (rule.bars_from (slots_of own) own.values) (cond (bridges own) (windows_in own) []) (length_bars 0 (slots_of own) own.values))
    where
      go : (b : Bool) → cond b (windows_of r) [] ≡ zipped r (cond b (window_places own) []) (cond b (windows_in own) [])
      go true = windows_zipped
      go false = sym (zipped_nil r)
