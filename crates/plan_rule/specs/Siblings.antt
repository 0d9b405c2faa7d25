-- Siblings by bus number and address space: on one bus the BARs and windows of one space are disjoint, if the pools are kept and low memory
-- ends before high memory starts. Assumes nothing.
use Rattle.std.specs.Prelude.{◌⊎◌, List, ℕ, ◌≤◌, ◌<◌}
use Rattle.plan_rule.specs.Pools.{low, high}
use Rattle.plan_rule.specs.Records.{Host, Function}
use Rattle.plan_rule.specs.Layout.{Placed, end_of}
use Rattle.plan_rule.specs.Numbering.{bus_number}

abbrev pub Disjoint : Placed → Placed → Type 0
Disjoint x y = (end_of x ≤ y.start) ⊎ (end_of y ≤ x.start)

-- The number of the bus that a piece is on
abbrev pub bus_of : ℕ → List Function → Placed → ℕ
bus_of first fs x = bus_number first fs x.piece.bus

-- Where both are open, low memory ends before high memory starts
abbrev pub MemoryApart : Host → Type 0
MemoryApart h = h.base low ≤ h.last low → h.base high ≤ h.last high → h.last low < h.base high
