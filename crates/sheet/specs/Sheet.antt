-- Document 01, "Numbers given back", of a sheet: 20 empty, 21, 20, 22, 24, 27, 28, 25, 29, each check over all records before the next.
-- Assumes nothing.
use Rattle.std.specs.Prelude.{ℕ, ◌+◌, ◌*◌, ◌%◌, ◌≤◌, ◌≡◌, Bool, true, false, cond, not, ◌&&◌, ◌||◌, Option, Some, None, List, [], ◌∷◌, map, length, get_or, take, drop, eqb, leb, ltb}
use Rattle.pools.specs.declared.Pool.TheVariants.{Low, High, Io}
use Rattle.bar.specs.Values.{values_lawful}
use Rattle.window.specs.Window.{is_nibbled}
use Rattle.records.specs.Limits.{most_functions}
use Rattle.records.specs.Records.{parts_of, parts_from}
use Rattle.sheet.specs.declared.Rule.{Rule}
use Rattle.sheet.specs.declared.Rule.TheVariants.{HeaderType, Buses, ReadBacks, Nibbles}
use Rattle.sheet_record.specs.Places.{command_at, record_size, stride}
use Rattle.sheet_record.specs.Entry.{Entry, entry_of, command_of, bus, bridges, slot_count}

-- ## The frame: version byte 1, then records of 90 bytes

-- the bytes of a sheet with so many records
abbrev pub sheet_length : ℕ → ℕ
sheet_length n = 1 + stride * n

-- where record k, from 0, starts: after the version and k records
abbrev pub record_at : ℕ → ℕ
record_at k = sheet_length k

-- "A full sheet is then 47,105 bytes."
abbrev pub full_sheet : ℕ
full_sheet = sheet_length most_functions

unfoldable pub all_sized : List (List ℕ) → Bool
all_sized [] = true
all_sized (p ∷ ps) = eqb (length p) record_size && all_sized ps

-- of the bytes after the version: the lengths end at the end, and no record has another length
unfoldable pub is_framed : List ℕ → Bool
is_framed r = (parts_of r).whole && all_sized (parts_of r).parts

-- a place where a record starts, or the end
pub record Framed (at : ℕ) (s : List ℕ) : Type 0 where
  pub inside : at ≤ length s
  pub sized : is_framed (drop at s) ≡ true

-- ## What a sheet's records say

-- the records that start at a place or after it
unfoldable pub entries_from : List ℕ → ℕ → List Entry
entries_from s at = map entry_of (parts_from s at)

abbrev pub parts_in : List ℕ → List (List ℕ)
parts_in s = parts_from s 1

-- the part of record k, of a sheet whose records have 90 bytes: after its own length
abbrev pub part_at : List ℕ → ℕ → List ℕ
part_at s k = take record_size (drop (record_at k + 2) s)

-- where its command word stands
abbrev pub command_place : ℕ → ℕ
command_place k = record_at k + (2 + command_at)

abbrev pub entries_of : List ℕ → List Entry
entries_of s = entries_from s 1

unfoldable pub commands_of : List ℕ → List ℕ
commands_of s = map command_of (parts_in s)

-- ## The checks of a record by itself

-- 24
abbrev pub type_wrong : Entry → Bool
type_wrong e = ltb 1 (e.header % 128)

-- 27: own bus = primary < secondary <= subordinate, of a bridge
abbrev pub buses_wrong : Entry → Bool
buses_wrong e = bridges e && not (eqb (bus e) e.primary && (ltb e.primary e.secondary && leb e.secondary e.subordinate))

-- 25, the last four read-backs of a bridge
unfoldable pub all_zero : List ℕ → Bool
all_zero [] = true
all_zero (x ∷ xs) = eqb x 0 && all_zero xs

-- 25: read-backs with their values, of the slots that the function has
unfoldable pub read_backs_wrong : Entry → Bool
read_backs_wrong e =
    let n = slot_count e.header in not (values_lawful (take n e.readbacks) e.values && all_zero (drop n e.readbacks))

-- 29: window nibbles, of a bridge
abbrev pub nibbles_wrong : Entry → Bool
nibbles_wrong e = bridges e && not (is_nibbled Low e.low && (is_nibbled High e.high && is_nibbled Io e.io))

unfoldable pub breaks : Rule → Entry → Bool
breaks HeaderType e = type_wrong e
breaks Buses e = buses_wrong e
breaks ReadBacks e = read_backs_wrong e
breaks Nibbles e = nibbles_wrong e

unfoldable pub any_breaks : Rule → List Entry → Bool
any_breaks rule [] = false
any_breaks rule (e ∷ es) = breaks rule e || any_breaks rule es

-- ## The check of each two: 28

unfoldable pub has_id : ℕ → List Entry → Bool
has_id id [] = false
has_id id (e ∷ es) = eqb e.id id || has_id id es

-- where the first record with the ID starts, of records from a place on
unfoldable pub find_from : ℕ → ℕ → List Entry → Option ℕ
find_from id at [] = None
find_from id at (e ∷ es) = let later = find_from id (at + stride) es in cond (eqb e.id id) (Some at) later

unfoldable pub id_twice : List Entry → Bool
id_twice [] = false
id_twice (e ∷ es) = has_id e.id es || id_twice es

-- ## In order

unfoldable pub from29 : List Entry → ℕ
from29 es = cond (any_breaks Nibbles es) 29 0

unfoldable pub from25 : List Entry → ℕ
from25 es = cond (any_breaks ReadBacks es) 25 (from29 es)

unfoldable pub from28 : List Entry → ℕ
from28 es = cond (id_twice es) 28 (from25 es)

unfoldable pub from27 : List Entry → ℕ
from27 es = cond (any_breaks Buses es) 27 (from28 es)

unfoldable pub from24 : List Entry → ℕ
from24 es = cond (any_breaks HeaderType es) 24 (from27 es)

unfoldable pub from22 : List Entry → ℕ
from22 es = cond (ltb most_functions (length es)) 22 (from24 es)

unfoldable pub from20 : List ℕ → ℕ
from20 s = cond (is_framed (drop 1 s)) (from22 (entries_of s)) 20

unfoldable pub from21 : List ℕ → ℕ
from21 s = cond (eqb (get_or s 0 0) 1) (from20 s) 21

-- 0 where the sheet passes
unfoldable pub sheet_number : List ℕ → ℕ
sheet_number s = cond (eqb (length s) 0) 20 (from21 s)
