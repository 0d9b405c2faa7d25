-- What a lawful board needs of its host: bus numbers, and of each pool bytes and a base: its own where it is open, any multiple of the
-- alignment where it is closed. Assumes nothing.
use Rattle.std.specs.Prelude.{List, [], ◌∷◌, ℕ, suc, ◌-◌}
use Rattle.arith.specs.Align.{align_up}
use Rattle.plan_rule.specs.Pools.{Pool, low, high, io, granule}
use Rattle.plan_rule.specs.Records.{Host, Function}
use Rattle.plan_rule.specs.Layout.{Piece, select, layout_end, largest_align}
use Rattle.plan_rule.specs.Pieces.{pieces, window_align}
use Rattle.plan_rule.specs.Numbering.{bridges}
use Rattle.plan_rule.specs.Cap.{cap}
use Rattle.plan_needs.specs.declared.Needs.{Needs}
use Rattle.plan_needs.specs.Bases.{layout_base}

-- the root bus's number, and those of the bridges and their spares
abbrev pub buses_needed : List Function → ℕ
buses_needed fs = suc (bridges fs)

-- what is laid out from the base, to the granule's edge after it; nothing where there is nothing
abbrev pub length_from : ℕ → Pool → List Piece → ℕ
length_from base q [] = 0
length_from base q (p ∷ ps) = cap (align_up (granule q) (layout_end base (p ∷ ps))) - base

unfoldable pub bytes_needed : Host → List Function → Pool → ℕ
bytes_needed h fs q = length_from (layout_base h q) q (select 0 q (pieces 1 fs))

-- from any base that is a multiple of this, what is laid out from 0 is laid out the same, further on: the largest alignment of the root
-- bus's items, and no less than the granule, which every pool's base is a multiple of
unfoldable pub align_needed : List Function → Pool → ℕ
align_needed fs q = window_align q (largest_align (select 0 q (pieces 1 fs)))

unfoldable pub needs_of : Host → List Function → Needs
needs_of h fs =
    record {
      buses = buses_needed fs;
      low = bytes_needed h fs low;
      high = bytes_needed h fs high;
      io = bytes_needed h fs io;
      low_align = align_needed fs low;
      high_align = align_needed fs high;
      io_align = align_needed fs io;
    }

-- of a board that is not lawful
abbrev pub no_needs : Needs
no_needs = record { buses = 0; low = 0; high = 0; io = 0; low_align = 0; high_align = 0; io_align = 0 }
