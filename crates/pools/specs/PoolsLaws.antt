-- The granule of every pool is a number from 4 KiB to 1 MiB. Assumes nothing.
use Rattle.std.specs.Prelude.{zero, ◌<◌, ◌≤◌}
use Rattle.std.proofs.Common.{lit<, lit≤}
use Rattle.pools.specs.declared.Pool.{Pool}
use Rattle.pools.specs.declared.Pool.TheVariants.{Low, High, Io}
use Rattle.pools.specs.Pools.{granule}

pub granule_pos : (q : Pool) → zero < granule q
granule_pos Low = lit< tt
granule_pos High = lit< tt
granule_pos Io = lit< tt

pub granule_le : (q : Pool) → granule q ≤ 1048576
granule_le Low = lit≤ tt
granule_le High = lit≤ tt
granule_le Io = lit≤ tt
