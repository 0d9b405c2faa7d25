-- The pools of each address space, and how the walk names them. Assumes nothing.
use Rattle.std.specs.Prelude.{List, [], ◌∷◌}
use Rattle.pools.specs.declared.Space.{Space}
use Rattle.pools.specs.declared.Space.TheVariants.{Memory as memory_space, Io as io_space}
use Rattle.plan_rule.specs.Pools.{Pool, low, high, io}
use Rattle.walk.specs.Ranges.{Pool as RangePool, low as low_range, high as high_range, io as io_range}

abbrev pub pools_of : Space → List Pool
pools_of memory_space = low ∷ high ∷ []
pools_of io_space = io ∷ []

-- How the walk's ranges name a pool
abbrev pub range_pool : Pool → RangePool
range_pool low = low_range
range_pool high = high_range
range_pool io = io_range
