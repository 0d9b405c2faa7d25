-- What a board's checks give the planner: records in lawful order with sizes that are powers of two (23, 25), and a host whose buses and
-- open pools keep their edges (26). Assumes nothing.
use Rattle.std.proofs.Common.{arith}
use Rattle.plan_rule.specs.Pools.{Pool, low, high, io}
use Rattle.plan_rule.specs.Records.{Host}
use Rattle.plan_rule.specs.Siblings.{MemoryApart}
use Rattle.plan_good.specs.Boards.{HostEdges, OpenEndsLow}

pub open_ends_low : {h : Host} → HostEdges h → (q : Pool) → OpenEndsLow h q
open_ends_low e low o = omega (arith, e.low_ends_below_4_Gi_b o)
open_ends_low e high o = e.high_ends_below_2^52 o
open_ends_low e io o = omega (arith, e.io_ends_below_64_Ki_b o)

-- Low memory ends before high memory starts
pub memory_apart : (h : Host) → HostEdges h → MemoryApart h
memory_apart h e opens opens' = omega (arith, e.low_ends_below_4_Gi_b opens, e.high_starts_at_4_Gi_b opens')
