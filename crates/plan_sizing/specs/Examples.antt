-- Worked examples: what sizing comes to and stores, for document 01's P10, for the same with spares, for a bridge that has a BAR of its own
-- and no room to spare, and for sizes that pass 2^62. Assumes nothing.
use Rattle.std.specs.Prelude.{◌≡◌, refl, List, [], ◌∷◌, map, ℕ}
use Rattle.arith.specs.Align.{align_up}
use Rattle.bar.specs.Bar.{size_from, sized, io_slot, narrow_slot, wide_slot, slot_here, slots}
use Rattle.plan_bars.specs.Bars.{bars_from}
use Rattle.lists.specs.Lists.{keep, front}
use Rattle.plan_rule.specs.Pieces.{bar_pieces, window_pieces, own_pieces, pieces}
use Rattle.plan_rule.specs.Layout.{layout_end, largest_align}
use Rattle.plan_rule.specs.Sizing.{extend, bus_laid}
use Rattle.plan_rule.specs.Records.{Function}
use Rattle.plan_sizing.specs.Functions.{functions_in}
use Rattle.plan_sizing.specs.Cut.{cut}
use Rattle.plan_sizing.specs.Memo.{numbers_of, memo_from}
use Rattle.plan_sizing.specs.Board.{bases_of, root_from}

-- a board's three arrays and its pools' bases; what the root bus comes to, as numbers, and what is stored
pub record Row : Type 0 where
  pub parents : List ℕ
  pub heads : List ℕ
  pub readbacks : List ℕ
  pub low : ℕ
  pub high : ℕ
  pub io : ℕ
  pub sized : List ℕ
  pub stored : List ℕ

abbrev pub functions_of : Row → List Function
functions_of r = functions_in r.parents r.heads r.readbacks

abbrev pub rows : List Row
rows =
    -- P10: a bridge, and behind it a function with BARs of 4 KiB low, 64 MiB high and 256 I/O addresses
    record {
      parents = 0 ∷ 1 ∷ [];
      heads = 1 ∷ 0 ∷ [];
      readbacks = 0 ∷ 0 ∷ 0 ∷ 0 ∷ 0 ∷ 0 ∷ 4294963200 ∷ 4227858444 ∷ 4294967295 ∷ 4294967041 ∷ 0 ∷ 0 ∷ [];
      low = 4177526784;
      high = 9663676416;
      io = 16384;
      sized = 2 ∷ 4178575360 ∷ 1048576 ∷ 9730785280 ∷ 67108864 ∷ 20480 ∷ 4096 ∷ [];
      stored = 2 ∷ 4096 ∷ 4096 ∷ 67108864 ∷ 67108864 ∷ 256 ∷ 256 ∷ 0 ∷ 0 ∷ 0 ∷ 0 ∷ 0 ∷ 0 ∷ 0 ∷ [];
    }
    -- the same, the bridge with 2 spare buses and 3 MiB, which follow the rounded end of its low window; and a second bridge with 1 MiB and
    -- nothing below it, whose window is open too
    ∷ record {
      parents = 0 ∷ 1 ∷ 0 ∷ [];
      heads = 33555201 ∷ 0 ∷ 257 ∷ [];
      readbacks = 0 ∷ 0 ∷ 0 ∷ 0 ∷ 0 ∷ 0 ∷ 4294963200 ∷ 4227858444 ∷ 4294967295 ∷ 4294967041 ∷ 0 ∷ 0 ∷ 0 ∷ 0 ∷ 0 ∷ 0 ∷ 0 ∷ 0 ∷ [];
      low = 4177526784;
      high = 9663676416;
      io = 16384;
      sized = 3 ∷ 4182769664 ∷ 1048576 ∷ 9730785280 ∷ 67108864 ∷ 20480 ∷ 4096 ∷ [];
      stored =
          2 ∷ 4194304 ∷ 1048576 ∷ 67108864 ∷ 67108864 ∷ 256 ∷ 256 ∷ 0 ∷ 0 ∷ 0 ∷ 0 ∷ 0 ∷ 0 ∷ 0 ∷ 3 ∷ 1048576 ∷ 1048576 ∷ 0 ∷ 0 ∷ 0 ∷ 0 ∷ [];
    }
    -- a bridge with a BAR of 1 MiB of its own, and behind it 2 MiB: the BAR, a gap of 1 MiB, the window; then a function of 128 bytes
    ∷ record {
      parents = 0 ∷ 1 ∷ 0 ∷ [];
      heads = 129 ∷ 0 ∷ 0 ∷ [];
      readbacks = 4293918720 ∷ 0 ∷ 0 ∷ 0 ∷ 0 ∷ 0 ∷ 4292870144 ∷ 0 ∷ 0 ∷ 0 ∷ 0 ∷ 0 ∷ 4294967168 ∷ 0 ∷ 0 ∷ 0 ∷ 0 ∷ 0 ∷ [];
      low = 0;
      high = 4294967296;
      io = 0;
      sized = 3 ∷ 4194432 ∷ 2097152 ∷ 4294967296 ∷ 0 ∷ 0 ∷ 0 ∷ [];
      stored = 2 ∷ 2097152 ∷ 2097152 ∷ 0 ∷ 0 ∷ 0 ∷ 0 ∷ 0 ∷ 0 ∷ 0 ∷ 0 ∷ 0 ∷ 0 ∷ 0 ∷ 0 ∷ 0 ∷ 0 ∷ 0 ∷ 0 ∷ 0 ∷ 0 ∷ [];
    }
    -- two BARs of 2^63 behind a bridge: the end is kept as 2^62, the alignment whole
    ∷ record {
      parents = 0 ∷ 1 ∷ [];
      heads = 1 ∷ 0 ∷ [];
      readbacks = 0 ∷ 0 ∷ 0 ∷ 0 ∷ 0 ∷ 0 ∷ 12 ∷ 2147483648 ∷ 12 ∷ 2147483648 ∷ 0 ∷ 0 ∷ [];
      low = 0;
      high = 4294967296;
      io = 0;
      sized = 2 ∷ 0 ∷ 0 ∷ 4611686018427387904 ∷ 9223372036854775808 ∷ 0 ∷ 0 ∷ [];
      stored = 2 ∷ 0 ∷ 0 ∷ 4611686018427387904 ∷ 9223372036854775808 ∷ 0 ∷ 0 ∷ 0 ∷ 0 ∷ 0 ∷ 0 ∷ 0 ∷ 0 ∷ 0 ∷ [];
    }
    ∷ []

abbrev pub sized_by : Row → List ℕ
sized_by r = numbers_of (cut (bus_laid (functions_of r) 0 (root_from (bases_of r.low r.high r.io))))

abbrev pub stored_by : Row → List ℕ
stored_by r = memo_from (functions_of r) 0 (functions_of r)

pub record Worked (rs : List Row) : Type 0 where
  pub sizes : map sized_by rs ≡ map (λ r. r.sized) rs
  pub stores : map stored_by rs ≡ map (λ r. r.stored) rs

pub examples : Worked rows
unfolding size_from sized io_slot narrow_slot wide_slot slot_here slots align_up keep front bar_pieces window_pieces own_pieces pieces layout_end
    largest_align extend bus_laid bars_from functions_in memo_from
examples = record { sizes = refl; stores = refl }
