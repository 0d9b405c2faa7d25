-- Document 02, E8: "The index takes 1,024 bytes and 256 a function": where everything stands in an index of n functions (docs/FORMATS.md,
-- "Its bytes"). Assumes nothing.
use Rattle.std.specs.Prelude.{ℕ, ◌+◌, ◌*◌}

-- the bytes of an index
abbrev pub index_size : ℕ → ℕ
index_size n = 1024 + 256 * n

-- the first bytes: n, the root bus, the most slots that one bucket has
abbrev pub functions_place : ℕ
functions_place = 0

abbrev pub root_place : ℕ
root_place = 2

abbrev pub width_place : ℕ
width_place = 4

-- segment w's base and shift
abbrev pub base_place : ℕ → ℕ
base_place w = 16 + 16 * w

abbrev pub shift_place : ℕ → ℕ
shift_place w = 24 + 16 * w

-- bucket q's entry
abbrev pub bucket_place : ℕ → ℕ
bucket_place q = 1008 + 2 * q

-- position i's key and its word
abbrev pub key_place : ℕ → ℕ → ℕ
key_place n i = 1008 + 64 * n + 8 * i

abbrev pub word_place : ℕ → ℕ → ℕ
word_place n i = 1016 + 176 * n + 8 * i

-- ## How many there are

-- six BARs and an ID of each function; in positions 1 and up
abbrev pub most_slots : ℕ → ℕ
most_slots n = 7 * n

-- the last position that has a key
abbrev pub last_key : ℕ → ℕ
last_key n = 14 * n

-- buckets of one segment, and of all four
abbrev pub segment_buckets : ℕ → ℕ
segment_buckets n = 8 * n

abbrev pub buckets : ℕ → ℕ
buckets n = 32 * n

-- numbers of 8 bytes up to key 0, and from word 0 on
abbrev pub front_numbers : ℕ → ℕ
front_numbers n = 127 + 8 * n

abbrev pub back_numbers : ℕ → ℕ
back_numbers n = 10 * n + 1
