-- What a board's checks give the planner: records in lawful order with sizes that are powers of two (23, 25), and a host whose buses and
-- open pools keep their edges (26). Assumes nothing.
use Rattle.std.specs.Prelude.{List, ◌≤◌, ◌<◌, ◌^◌}
use Rattle.plan_rule.specs.Pools.{Pool, low, high, io}
use Rattle.plan_rule.specs.Records.{Host, Function, Lawful}

-- A pool with its base above its last is closed
abbrev pub IsOpen : Host → Pool → Type 0
IsOpen h q = h.base q ≤ h.last q

-- The edges that the ranges go by. That open pools start and end on granules is not needed here
pub record HostEdges (h : Host) : Type 0 where
  pub buses_rise : h.first_bus ≤ h.last_bus
  pub last_bus_is_byte : h.last_bus < 256
  pub low_ends_below_4_Gi_b : IsOpen h low → h.last low < 2 ^ 32
  pub high_starts_at_4_Gi_b : IsOpen h high → 2 ^ 32 ≤ h.base high
  pub high_ends_below_2^52 : IsOpen h high → h.last high < 2 ^ 52
  pub io_ends_below_64_Ki_b : IsOpen h io → h.last io < 2 ^ 16

pub record Board (h : Host) (fs : List Function) : Type 0 where
  pub lawful : Lawful fs
  pub edges : HostEdges h

-- An open pool ends below 2^52
abbrev pub OpenEndsLow : Host → Pool → Type 0
OpenEndsLow h q = IsOpen h q → h.last q < 2 ^ 52
