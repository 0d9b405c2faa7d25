-- The three address pools, each a value with its granule and its refusal number, so that nothing is said three times; and the two address
-- spaces that they lie in. Assumes nothing.
use Rattle.std.specs.Prelude.{Bool, true, false, ℕ}
use Rattle.pools.specs.declared.Pool.{Pool}
use Rattle.pools.specs.declared.Pool.TheVariants.{Low, High, Io}
use Rattle.pools.specs.declared.Space.{Space}
use Rattle.pools.specs.declared.Space.TheVariants.{Memory, Io as Ports}

-- a window's edges are multiples of it: 1 MiB of memory, 4 KiB of I/O
abbrev pub granule : Pool → ℕ
granule Low = 1048576
granule High = 1048576
granule Io = 4096

-- the number given back where an item ends past the pool
abbrev pub refusal : Pool → ℕ
refusal Low = 31
refusal High = 32
refusal Io = 33

abbrev pub is_memory : Pool → Bool
is_memory Low = true
is_memory High = true
is_memory Io = false

abbrev pub is_io : Pool → Bool
is_io Low = false
is_io High = false
is_io Io = true

-- the pool lies in the address space: memory has the low and the high one, I/O its own
abbrev pub in_space : Space → Pool → Bool
in_space Memory q = is_memory q
in_space Ports q = is_io q

abbrev pub same_pool : Pool → Pool → Bool
same_pool Low Low = true
same_pool Low High = false
same_pool Low Io = false
same_pool High Low = false
same_pool High High = true
same_pool High Io = false
same_pool Io Low = false
same_pool Io High = false
same_pool Io Io = true
