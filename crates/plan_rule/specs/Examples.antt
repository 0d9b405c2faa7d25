-- Worked examples of the definitions, one table under one claim: P6, P7, P10, source document 001's tree (bridge E on bus 2), edges of the
-- placing rule, and full boards; and one of spares. Assumes nothing.
use Rattle.std.specs.Prelude.{◌≡◌, true, false, List, [], ◌∷◌, map, ℕ, zero, suc, ◌-◌}
use Rattle.lists.specs.Lists.{keep}
use Rattle.plan_rule.specs.Pools.{Pool, low, high, io}
use Rattle.plan_rule.specs.Records.{Host, Function, Bar}
use Rattle.plan_rule.specs.Layout.{Placed, end_of}
use Rattle.plan_rule.specs.Placing.{placed}
use Rattle.plan_rule.specs.Numbering.{Numbered, numbered}
use Rattle.plan_rule.specs.Sizing.{Laid, laid_from, bus_laid}
use Rattle.plan_rule.specs.Refusals.{refusal_of}

-- A first and a last address, or a secondary and a subordinate bus
abbrev pub Span : Type 0
Span = ℕ × ℕ

-- Where the placed pieces lie, and the bus ranges of the bridges
abbrev pub spans : List Placed → List Span
spans = map (λ x. (x.start, end_of x - 1))

unfoldable pub ranges : List Numbered → List Span
ranges xs = map (λ x. (x.secondary, x.subordinate)) (keep (λ x. x.bridge) xs)

abbrev pub sized : Laid → Pool → ℕ × Span
sized l q = (l.next, ((l.extent q).end, (l.extent q).align))

pub data Row : Type 0 where
  refused : Host → List Function → ℕ → Row
  lies : Host → List Function → List Span → Row
  numbers : ℕ → List Function → List Span → Row
  -- From the first record below bridge b: the record after the last one below it, and the end and alignment of its bus in the pool
  sizes : List Function → ℕ → Pool → ℕ → Span → Row

abbrev pub Holds : Row → Type 0
Holds (refused h fs n) = refusal_of h fs ≡ n
Holds (lies h fs ss) = spans (placed h fs) ≡ ss
Holds (numbers first fs ss) = ranges (numbered first fs) ≡ ss
Holds (sizes fs b q n s) = sized (bus_laid fs b (laid_from b)) q ≡ (n, s)

abbrev pub pooled : ℕ → ℕ → ℕ → Pool → ℕ
pooled l h i low = l
pooled l h i high = h
pooled l h i io = i

abbrev pub bridge_below : ℕ → Function
bridge_below p = record { parent = p; bridge = true; bars = []; spare_low = 0; spare_buses = 0 }

abbrev pub end_below : ℕ → List Bar → Function
end_below p bars = record { parent = p; bridge = false; bars = bars; spare_low = 0; spare_buses = 0 }

abbrev pub at : ℕ → Pool → ℕ → Bar
at slot pool size = record { slot = slot; pool = pool; size = size }

-- P10
abbrev pub p10 : Host
p10 =
    record {
      first_bus = 0;
      last_bus = 255;
      base = pooled 0xf9000000 0x240000000 0x4000;
      last = pooled 0xf9ffffff 0x27fffffff 0x4fff;
    }

abbrev pub p10_functions : List Function
p10_functions = bridge_below 0 ∷ end_below 1 (at 0 low 0x1000 ∷ at 1 high 0x4000000 ∷ at 3 io 0x100 ∷ []) ∷ []

-- A low pool of 1 MiB; the others are closed
abbrev pub one_mib : Host
one_mib = record { first_bus = 0; last_bus = 255; base = pooled 0x100000 1 1; last = pooled 0x1fffff 0 0 }

abbrev pub mib : Function
mib = end_below 0 (at 0 low 0x100000 ∷ [])

-- A bridge's own BAR stays on the bus above. Below it 2 MiB and 1 MiB: the window starts on 2 MiB and is rounded to 3 MiB, not 4
abbrev pub one_bridge : List Function
one_bridge =
    record { parent = 0; bridge = true; bars = at 0 low 0x1000 ∷ []; spare_low = 0; spare_buses = 0 }
    ∷ end_below 1 (at 0 low 0x200000 ∷ at 1 low 0x100000 ∷ []) ∷ []

abbrev pub from_one_mib : Host
from_one_mib = record { first_bus = 0; last_bus = 255; base = pooled 0x100000 1 1; last = pooled 0x4fffff 0 0 }

-- 4 GiB behind a bridge fit a low pool of 4 GiB exactly; 8 GiB do not
abbrev pub behind : ℕ → List Function
behind size = bridge_below 0 ∷ end_below 1 (at 0 low size ∷ []) ∷ []

-- Source document 001: A, C, D, E, B, F, G, H, J, I
abbrev pub tree : List Function
tree = map bridge_below (0 ∷ 1 ∷ 2 ∷ 2 ∷ 0 ∷ 5 ∷ 6 ∷ 6 ∷ 8 ∷ 6 ∷ [])

-- n bridges side by side, and n in a row
abbrev pub siblings : ℕ → List Function
siblings zero = []
siblings (suc n) = bridge_below 0 ∷ siblings n

abbrev pub row_from : ℕ → ℕ → List Function
row_from k zero = []
row_from k (suc n) = bridge_below k ∷ row_from (suc k) n

-- Twice n records from k on: a bridge on the root bus with one function below it
abbrev pub cards_from : ℕ → ℕ → List Function
cards_from k zero = []
cards_from k (suc n) =
    bridge_below 0 ∷ end_below k (at 0 low 0x4000 ∷ at 1 low 0x10 ∷ at 2 high 0x200000 ∷ at 4 io 0x20 ∷ []) ∷ cards_from (suc (suc k)) n

-- All memory, and I/O, that can be had; and one byte of I/O less than 128 cards take
abbrev pub wide : Host
wide = record { first_bus = 0; last_bus = 255; base = pooled 0 0x100000000 0; last = pooled 0xffffffff 0xfffffffffffff 0x7ffff }

abbrev pub narrow : Host
narrow = record { first_bus = 0; last_bus = 255; base = pooled 0 0x100000000 0; last = pooled 0xffffffff 0xfffffffffffff 0x7fffe }

-- Spare buses: two of the first bridge come after the one of the bridge below it, and the next bridge after both
abbrev pub bridge_with : ℕ → ℕ → ℕ → Function
bridge_with p buses room = record { parent = p; bridge = true; bars = []; spare_low = room; spare_buses = buses }

abbrev pub with_spares : List Function
with_spares = bridge_with 0 2 0 ∷ bridge_with 1 1 0 ∷ bridge_with 0 0 0 ∷ []

abbrev pub up_to : ℕ → Host
up_to last = record { first_bus = 0; last_bus = last; base = pooled 1 1 1; last = pooled 0 0 0 }

-- Spare room opens a window with nothing below; a window's own comes after that of a window in it, which comes after a function's BAR
abbrev pub kept : ℕ → List Function
kept n = bridge_with 0 0 n ∷ []

abbrev pub in_turn : List Function
in_turn = bridge_with 0 0 1 ∷ bridge_with 1 0 1 ∷ end_below 2 (at 0 low 0x1000 ∷ []) ∷ []

abbrev pub rows : List Row
rows =
    refused p10 p10_functions 0
    ∷ lies p10 p10_functions
    ((0xf9000000, 0xf90fffff)
    ∷ (0x240000000, 0x243ffffff)
    ∷ (0x4000, 0x4fff)
    ∷ (0xf9000000, 0xf9000fff)
    ∷ (0x240000000, 0x243ffffff)
    ∷ (0x4000, 0x40ff)
    ∷ [])
    ∷ numbers 0 p10_functions ((1, 1) ∷ [])
    ∷ refused one_mib (mib ∷ []) 0
    ∷ refused one_mib (mib ∷ mib ∷ []) 31
    ∷ refused one_mib (end_below 0 (at 0 high 16 ∷ []) ∷ []) 32
    ∷ refused one_mib (end_below 0 (at 0 io 4 ∷ []) ∷ []) 33
    ∷ refused from_one_mib one_bridge 0
    ∷ lies from_one_mib one_bridge ((0x100000, 0x100fff) ∷ (0x200000, 0x4fffff) ∷ (0x200000, 0x3fffff) ∷ (0x400000, 0x4fffff) ∷ [])
    ∷ refused wide (behind 0x100000000) 0
    ∷ lies wide (behind 0x100000000) ((0, 0xffffffff) ∷ (0, 0xffffffff) ∷ [])
    ∷ refused wide (behind 0x200000000) 31
    ∷ sizes p10_functions 1 high 2 (0x4000000, 0x4000000)
    ∷ sizes one_bridge 1 low 2 (0x300000, 0x200000)
    ∷ numbers 0 tree ((1, 4) ∷ (2, 4) ∷ (3, 3) ∷ (4, 4) ∷ (5, 10) ∷ (6, 10) ∷ (7, 7) ∷ (8, 9) ∷ (9, 9) ∷ (10, 10) ∷ [])
    ∷ refused wide (siblings 255) 0
    ∷ refused wide (siblings 256) 30
    ∷ refused wide (row_from 0 255) 0
    ∷ refused wide (row_from 0 256) 30
    ∷ refused wide (cards_from 1 128) 0
    ∷ refused narrow (cards_from 1 128) 33
    ∷ []

abbrev pub spare_rows : List Row
spare_rows =
    numbers 0 with_spares ((1, 5) ∷ (2, 3) ∷ (6, 6) ∷ [])
    ∷ refused (up_to 6) with_spares 0
    ∷ refused (up_to 5) with_spares 30
    ∷ refused from_one_mib (kept 4) 0
    ∷ lies from_one_mib (kept 4) ((0x100000, 0x4fffff) ∷ [])
    ∷ refused from_one_mib (kept 5) 31
    ∷ lies from_one_mib in_turn ((0x100000, 0x3fffff) ∷ (0x100000, 0x2fffff) ∷ (0x100000, 0x100fff) ∷ [])
    ∷ []
