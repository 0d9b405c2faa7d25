-- The BARs and open windows of a function, and the open pools of a host, each with the pool where document 01 puts its kind. Assumes
-- nothing.
use Rattle.std.specs.Prelude.{Bool, cond, ◌&&◌, List, [], ◌∷◌, ◌++◌, ℕ, suc, drop, eqb, ltb}
use Rattle.pools.specs.declared.Pool as kinds
use Rattle.pools.specs.declared.Pool.TheVariants.{Low, High, Io}
use Rattle.pools.specs.declared.Space.{Space}
use Rattle.pools.specs.declared.Space.TheVariants.{Memory, Io as Ports}
use Rattle.bar.specs.declared.Slot.{Slot}
use Rattle.bar.specs.declared.Slot.TheVariants.{Unused, Bar, Upper, Bad}
use Rattle.bar.specs.Values.{value_here, base_of}
use Rattle.board_record.specs.declared.Span.{Span}
use Rattle.board_record.specs.declared.Host.{Host}
use Rattle.board_record.specs.Host.{is_open}
use Rattle.walk.specs.Ranges.{Range, Pool, buses, low, high, io}
use Rattle.sheet_record.specs.Entry.{Entry, bridges}
use Rattle.sheet_record.specs.Spaces.{pool_of, bar_range, slots_of, windows_of}

-- ## Of a function

-- of the slot whose registers start where these values do
abbrev pub bar_here : Slot → List ℕ → List Range
bar_here Unused vs = []
bar_here (Bar q wide size) vs = bar_range q (base_of (Bar q wide size) (value_here (Bar q wide size) vs)) size ∷ []
bar_here Upper vs = []
bar_here Bad vs = []

unfoldable pub bars_from : List Slot → List ℕ → List Range
bars_from [] vs = []
bars_from (x ∷ xs) vs = bar_here x vs ++ bars_from xs (drop 1 vs)

-- low, high and I/O, those that are open
abbrev pub windows_in : Entry → List Range
windows_in e = windows_of Memory e ++ windows_of Ports e

unfoldable pub ranges_of : Entry → List Range
ranges_of e = bars_from (slots_of e) e.values ++ cond (bridges e) (windows_in e) []

-- ## Of a host

-- "A pool with base above last is closed"
abbrev pub open_pool : kinds.Pool → Span → List Range
open_pool q x = cond (is_open x) (record { pool = pool_of q; start = x.base; stop = suc x.last } ∷ []) []

-- low before high
abbrev pub pools_of : Space → Host → List Range
pools_of Memory h = open_pool Low h.low ++ open_pool High h.high
pools_of Ports h = open_pool Io h.io

-- low, high and I/O, those that are open
abbrev pub pools_in : Host → List Range
pools_in h = pools_of Memory h ++ pools_of Ports h

-- ## Two ranges, as tests

-- to compare pools by; low and high memory are one address space
abbrev pub pool_number : Pool → ℕ
pool_number buses = 0
pool_number low = 1
pool_number high = 2
pool_number io = 3

abbrev pub space_number : Pool → ℕ
space_number buses = 0
space_number low = 1
space_number high = 1
space_number io = 2

-- of one space, and each starts before the other ends
abbrev pub overlap : Range → Range → Bool
overlap r s = eqb (space_number r.pool) (space_number s.pool) && (ltb r.start s.stop && ltb s.start r.stop)
