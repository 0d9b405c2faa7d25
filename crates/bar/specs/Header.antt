-- A function's header type byte: its type, which of the two is a bridge, and how many read-backs of its set count. Assumes nothing.
use Rattle.std.specs.Prelude.{ℕ, ◌%◌, Bool, cond, eqb}

-- the header type is its byte's low seven bits: type 0 or, a bridge, type 1
abbrev pub header_type : ℕ → ℕ
header_type header = header % 128

abbrev pub is_bridge : ℕ → Bool
is_bridge header = eqb (header_type header) 1

-- "six of 4 bytes for type 0, two for type 1"
abbrev pub slot_count : ℕ → ℕ
slot_count header = cond (is_bridge header) 2 6
