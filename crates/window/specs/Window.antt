-- Document 01, "Numbering and placing" (the last paragraph) and refusal 29: window registers and the ranges they stand for, once over pool
-- and granule. A range is told by its start and its stop, the address after its last. Assumes nothing.
use Rattle.std.specs.Prelude.{ℕ, ◌+◌, ◌-◌, ◌*◌, ◌/◌, ◌%◌, ◌^◌, ◌<◌, Bool, ◌&&◌, eqb, leb, ltb}
use Rattle.pools.specs.declared.Pool.{Pool}
use Rattle.pools.specs.declared.Pool.TheVariants.{Low, High, Io}
use Rattle.pools.specs.Pools.{granule}
use Rattle.window.specs.declared.Window.{Window}

-- one spelling of a closed window for each kind: low FFF0h/0000h, high FFF1h/0001h with uppers 0, I/O F0h/00h
unfoldable pub closed : Pool → Window
closed Low = record { base = 0xfff0; limit = 0x0000; upper_base = 0; upper_limit = 0 }
closed High = record { base = 0xfff1; limit = 0x0001; upper_base = 0; upper_limit = 0 }
closed Io = record { base = 0xf0; limit = 0x00; upper_base = 0; upper_limit = 0 }

-- how many values a register's address field has: memory bits 31:20 in 15:4, I/O bits 15:12 in 7:4
abbrev pub fields : Pool → ℕ
fields Low = 4096
fields High = 4096
fields Io = 16

-- the low nibble of base and limit
abbrev pub nibble : Pool → ℕ
nibble Low = 0
nibble High = 1
nibble Io = 0

-- how many values an upper word has: the high window alone has upper words, the others' are 0
abbrev pub uppers : Pool → ℕ
uppers Low = 1
uppers High = 2 ^ 32
uppers Io = 1

-- every address of the pool's kind lies below it
abbrev pub bound : Pool → ℕ
bound Low = 2 ^ 32
bound High = 2 ^ 64
bound Io = 2 ^ 16

-- ## From an address to registers

abbrev pub field : Pool → ℕ → ℕ
field q a = a / granule q % fields q

abbrev pub register : Pool → ℕ → ℕ
register q a = field q a * 16 + nibble q

abbrev pub upper : Pool → ℕ → ℕ
upper Low a = 0
upper High a = a / 4294967296
upper Io a = 0

-- the registers of an open window from start up to stop: the limit is that of the last address
unfoldable pub opened : Pool → ℕ → ℕ → Window
opened q start stop =
    record {
      base = register q start;
      limit = register q (stop - 1);
      upper_base = upper q start;
      upper_limit = upper q (stop - 1);
    }

-- ## From registers to a range

-- the first address that an upper word u and a register r stand for
abbrev pub address : Pool → ℕ → ℕ → ℕ
address q u r = u * 4294967296 + r / 16 * granule q

unfoldable pub start : Pool → Window → ℕ
start q w = address q w.upper_base w.base

-- the limit takes in its whole granule
unfoldable pub stop : Pool → Window → ℕ
stop q w = address q w.upper_limit w.limit + granule q

-- a window with base above limit is closed: its start is not below its stop
abbrev pub is_open : Pool → Window → Bool
is_open q w = ltb (start q w) (stop q w)

abbrev pub holds : Pool → Window → ℕ → Bool
holds q w a = leb (start q w) a && ltb a (stop q w)

-- 29: the low nibbles of both registers, also of a closed window
unfoldable pub is_nibbled : Pool → Window → Bool
is_nibbled q w = eqb (w.base % 16) (nibble q) && eqb (w.limit % 16) (nibble q)

-- the registers have their widths: 16 bits of memory, 8 of I/O, and upper words of 32 bits for the high window alone
pub record Fits (q : Pool) (w : Window) : Type 0 where
  pub base : w.base < fields q * 16
  pub limit : w.limit < fields q * 16
  pub upper_base : w.upper_base < uppers q
  pub upper_limit : w.upper_limit < uppers q
