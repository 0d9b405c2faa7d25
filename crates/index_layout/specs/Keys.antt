-- The keys of an index, on one line: memory at its address, low and high, then I/O, then IDs. Assumes nothing.
use Rattle.std.specs.Prelude.{ℕ, ◌+◌, cond, ltb}

-- low memory ends at 2^32, and document 01's pools below 2^52
abbrev pub low_end : ℕ
low_end = 4294967296

abbrev pub memory_end : ℕ
memory_end = 4503599627370496

-- I/O addresses and IDs have 16 bits
abbrev pub io_size : ℕ
io_size = 65536

abbrev pub id_size : ℕ
id_size = 65536

-- the keys of I/O address 0 and of ID 0
abbrev pub io_base : ℕ
io_base = memory_end

abbrev pub id_base : ℕ
id_base = io_base + io_size

-- above every key: 2^62
abbrev pub no_key : ℕ
no_key = 4611686018427387904

-- the segment of a key: low memory, high memory, I/O, IDs
unfoldable pub segment_of : ℕ → ℕ
segment_of key = cond (ltb key low_end) 0 (cond (ltb key memory_end) 1 (cond (ltb key id_base) 2 3))
