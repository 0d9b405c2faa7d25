-- Ranges as numbers in a slice: three for each, its pool, its first and its last address. Assumes nothing.
use Rattle.std.specs.Prelude.{cond, List, [], ◌∷◌, ℕ, zero, suc, ◌+◌, ◌*◌, ◌%◌, ◌^◌, ◌≤◌, ◌<◌, eqb, get_or}
use Rattle.pools.specs.declared.Pool as pools
use Rattle.bar.specs.declared.Slot.{Slot}
use Rattle.bar.specs.declared.Slot.TheVariants.{Unused, Bar, Upper, Bad}
use Rattle.bar.specs.Values.{base_of}
use Rattle.walk.specs.Ranges.{Range, Pool, buses, low, high, io}
use Rattle.sheet_record.specs.Entry.{entry_of}
use Rattle.sheet_record.specs.Spaces.{pool_of, bar_range, slots_of}
use Rattle.sheet_ranges.specs.Ranges.{bars_from}
use Rattle.sheet_ranges.specs.declared.Item.{Item}

-- the pool with this number: its last two bits say it
unfoldable pub pool_with : ℕ → Pool
pool_with n = cond (eqb (n % 4) 1) low (cond (eqb (n % 4) 2) high (cond (eqb (n % 4) 3) io buses))

abbrev pub range_of : Item → Range
range_of x = record { pool = pool_with x.pool; start = x.first; stop = suc x.last }

abbrev pub item_at : List ℕ → ℕ → Item
item_at xs i = record { pool = get_or xs (3 * i) 0; first = get_or xs (3 * i + 1) 0; last = get_or xs (3 * i + 2) 0 }

-- n of them, from the one at i on
unfoldable pub ranges_from : List ℕ → ℕ → ℕ → List Range
ranges_from xs i zero = []
ranges_from xs i (suc n) = range_of (item_at xs i) ∷ ranges_from xs (i + 1) n

abbrev pub ranges_in : ℕ → List ℕ → List Range
ranges_in n xs = ranges_from xs 0 n

-- ## What is put there

abbrev pub open_item : pools.Pool → ℕ → ℕ → Range
open_item q first last = record { pool = pool_of q; start = first; stop = suc last }

-- the BAR of a slot with this value in its registers
abbrev pub bar_at : Slot → ℕ → List Range
bar_at Unused v = []
bar_at (Bar q wide size) v = bar_range q (base_of (Bar q wide size) v) size ∷ []
bar_at Upper v = []
bar_at Bad v = []

-- a BAR ends at 2^64 at most
abbrev pub BarEnds : Slot → ℕ → Type 0
BarEnds Unused v = Unit
BarEnds (Bar q wide size) v = (0 < size) × (base_of (Bar q wide size) v + size ≤ 2 ^ 64)
BarEnds Upper v = Unit
BarEnds Bad v = Unit

-- the BARs of a record, by its part
abbrev pub bars_in : List ℕ → List Range
bars_in p = bars_from (slots_of (entry_of p)) (entry_of p).values
