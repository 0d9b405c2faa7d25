-- A sheet's records with their numbers, and each record's BARs and open windows with their places. Assumes nothing.
use Rattle.std.specs.Prelude.{cond, ℕ, ◌+◌, drop}
use mathlib.Core.List.{List, [], ◌∷◌, ◌++◌, map, flat_map}
use Rattle.pools.specs.declared.Pool.{Pool}
use Rattle.pools.specs.declared.Pool.TheVariants.{Low, High, Io}
use Rattle.bar.specs.declared.Slot.{Slot}
use Rattle.walk.specs.Ranges.{Range}
use Rattle.sheet_record.specs.Entry.{Entry, bridges}
use Rattle.sheet_record.specs.Spaces.{open_range, slots_of}
use Rattle.sheet_ranges.specs.Ranges.{bar_here}
use Rattle.finding.specs.Places.{window_place}

-- "Functions, numbered from 1"
pub record Numbered : Type 0 where
  pub number : ℕ
  pub entry : Entry

unfoldable pub numbered_from : ℕ → List Entry → List Numbered
numbered_from k [] = []
numbered_from k (e ∷ es) = record { number = k; entry = e } ∷ numbered_from (k + 1) es

abbrev pub numbered : List Entry → List Numbered
numbered es = numbered_from 1 es

-- a BAR or open window of a record
pub record Placed : Type 0 where
  pub owner : Numbered
  pub place : ℕ
  pub range : Range

abbrev pub placed_at : Numbered → ℕ → Range → Placed
placed_at r place range = record { owner = r; place = place; range = range }

-- slot by slot, from slot i on
unfoldable pub bars_from : Numbered → ℕ → List Slot → List ℕ → List Placed
bars_from r i [] vs = []
bars_from r i (x ∷ xs) vs = map (placed_at r i) (bar_here x vs) ++ bars_from r (i + 1) xs (drop 1 vs)

abbrev pub window_of : Numbered → Pool → List Placed
window_of r Low = map (placed_at r (window_place Low)) (open_range Low r.entry.low)
window_of r High = map (placed_at r (window_place High)) (open_range High r.entry.high)
window_of r Io = map (placed_at r (window_place Io)) (open_range Io r.entry.io)

abbrev pub windows_of : Numbered → List Placed
windows_of r = (window_of r Low ++ window_of r High) ++ window_of r Io

-- of a record, by place: slots before windows
unfoldable pub placed_of : Numbered → List Placed
placed_of r = bars_from r 0 (slots_of r.entry) r.entry.values ++ cond (bridges r.entry) (windows_of r) []

-- of all records, in record order
unfoldable pub placed_in : List Numbered → List Placed
placed_in rs = flat_map placed_of rs
