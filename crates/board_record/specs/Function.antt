-- Document 01, "The board": function records, their least length (20), their header types and lengths (24), and their
-- read-backs (25); document 02, E10: a bridge's spares. Assumes nothing.
use Rattle.std.specs.Prelude.{ℕ, ◌/◌, ◌%◌, Bool, cond, not, ◌&&◌, ◌||◌, List, [], ◌∷◌, length, get_or, take, eqb, ltb}
use Rattle.endian.specs.Endian.{be}
use Rattle.bar.specs.Header.{header_type, is_bridge as is_bridge_header, slot_count as slot_count_for}
use Rattle.bar.specs.Bar.{slots, any_bad}
use Rattle.board_record.specs.declared.Function.{Function}

-- "six of 4 bytes for type 0, two for type 1 (30 or 14 bytes)"; version 2 adds three bytes at the end of a bridge's, "so the record is 17
-- bytes"
abbrev pub end_length : ℕ
end_length = 30

abbrev pub plain_bridge : ℕ
plain_bridge = 14

abbrev pub bridge_with_spares : ℕ
bridge_with_spares = 17

abbrev pub bridge_length : ℕ → ℕ
bridge_length version = cond (eqb version 1) plain_bridge bridge_with_spares

abbrev pub length_for : ℕ → ℕ → ℕ
length_for version header = cond (is_bridge_header header) (bridge_length version) end_length

-- a type 1's last four read-backs are 0
abbrev pub readbacks_for : ℕ → List ℕ → List ℕ
readbacks_for header p =
    cond (is_bridge_header header)
    (be 4 p 6 ∷ be 4 p 10 ∷ 0 ∷ 0 ∷ 0 ∷ 0 ∷ [])
    (be 4 p 6 ∷ be 4 p 10 ∷ be 4 p 14 ∷ be 4 p 18 ∷ be 4 p 22 ∷ be 4 p 26 ∷ [])

-- "one byte of spare buses and two bytes of spare low memory in MiB", as one number of three bytes: a bridge's. Past a record's end there
-- are zeros, so that a bridge of version 1 has none
abbrev pub spares_at : ℕ
spares_at = plain_bridge

abbrev pub spares_for : ℕ → List ℕ → ℕ
spares_for header p = cond (is_bridge_header header) (be 3 p spares_at) 0

-- "parent record (2), device/function (1), header type (1), command (2), BAR read-backs"
unfoldable pub function_of_part : List ℕ → Function
function_of_part p =
    record {
      parent = be 2 p 0;
      devfn = get_or p 2 0;
      header = get_or p 3 0;
      command = be 2 p 4;
      readbacks = readbacks_for (get_or p 3 0) p;
      spares = spares_for (get_or p 3 0) p;
    }

-- what the spares say
abbrev pub spare_buses : Function → ℕ
spare_buses f = f.spares / 65536

abbrev pub spare_low : Function → ℕ
spare_low f = f.spares % 65536

-- of 20: "function under 6"
abbrev pub is_short : List ℕ → Bool
is_short p = ltb (length p) 6

-- 24: "header type's low seven bits not 0 or 1, or wrong length for it", of a record's length and header type, on a board of this version
abbrev pub wrong_for : ℕ → ℕ → ℕ → Bool
wrong_for version n header = (not (eqb (header_type header) 0) && not (is_bridge_header header)) || not (eqb n (length_for version header))

unfoldable pub wrong_in : ℕ → List ℕ → Bool
wrong_in version p = wrong_for version (length p) (get_or p 3 0)

-- a record of no version: neither of 14 nor of 17 bytes, if it is a bridge's
unfoldable pub header_wrong : List ℕ → Bool
header_wrong p = wrong_in 1 p && wrong_in 2 p

abbrev pub is_bridge : Function → Bool
is_bridge f = is_bridge_header f.header

-- how many slots its read-backs have
abbrev pub slot_count : Function → ℕ
slot_count f = slot_count_for f.header

-- 25
unfoldable pub readbacks_wrong : Function → Bool
readbacks_wrong f = any_bad (slots (take (slot_count f) f.readbacks))
