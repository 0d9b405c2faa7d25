-- Where the ranges of 52 and the buses of 50 are taken: their keys, and which of them a pass may tell of. Assumes nothing.
use Rattle.std.specs.Prelude.{Bool, true, not, ◌&&◌, ◌||◌, List, map, ℕ, ◌+◌, ◌*◌, ◌%◌, eqb, leb}
use Rattle.lists.specs.Lists.{one_if}
use Rattle.walk.specs.Ranges.{Range}
use Rattle.sheet_record.specs.Entry.{Entry, bus, bridges}
use Rattle.sheet_ranges.specs.Ranges.{ranges_of, pool_number}
use Rattle.audit_rising.specs.Rising.{Spot, spot}

-- low memory ends at 4 GiB at most, and high memory starts there or later
abbrev pub sided : Range → Bool
sided r =
    (not (eqb (pool_number r.pool) 1) || leb r.stop 4294967296) && (not (eqb (pool_number r.pool) 2) || leb 4294967296 r.start)

-- a key for each bus and pool
abbrev pub key_of : ℕ → Range → ℕ
key_of b r = pool_number r.pool % 3 * 256 + b

abbrev pub spot_of : ℕ → Range → Spot
spot_of b r = record { key = key_of b r; start = r.start; stop = r.stop; told = sided r }

abbrev pub spots_of : Entry → List Spot
spots_of e = map (spot_of (bus e)) (ranges_of e)

-- what a bridge leads to, under its own bus
abbrev pub buses_of : Entry → List Spot
buses_of e = one_if (bridges e) (spot (bus e) e.secondary e.subordinate true)
