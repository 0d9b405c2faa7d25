-- Addresses of a pool have so many bits. Assumes nothing.
use Rattle.std.specs.Prelude.{ℕ}
use Rattle.pools.specs.declared.Pool.{Pool}
use Rattle.pools.specs.declared.Pool.TheVariants.{Low, High, Io}

abbrev pub address_bits : Pool → ℕ
address_bits Low = 32
address_bits High = 52
address_bits Io = 16
