-- Document 01, "The sheet": "Asked for an ID, the caller gets that function's 64 register bytes themselves, inside the lent sheet, or 40 (a
-- bad sheet: its number) and an empty part." And from a record's number to its ID; and the sheet after one function's command word is
-- rewritten. Assumes nothing.
use Rattle.std.specs.Prelude.{ℕ, zero, suc, ◌+◌, ◌-◌, cond, Option, Some, None, List, [], ◌∷◌, take, drop, eqb}
use Rattle.std.proofs.lemmas.List.Edits.{sets}
use Rattle.endian.specs.Endian.{le_bytes}
use Rattle.sheet.specs.declared.Lookup.{Lookup}
use Rattle.sheet.specs.declared.Lookup.TheVariants.{Registers, Refused}
use Rattle.sheet.specs.declared.RecordId.{RecordId}
use Rattle.sheet.specs.declared.RecordId.TheVariants.{Id, Refused as NoRecord}
use Rattle.sheet_record.specs.Entry.{Entry}
use Rattle.sheet_record.specs.Places.{registers_at, registers_size, command_at}
use Rattle.sheet.specs.Sheet.{entries_of, find_from, sheet_number}

-- the registers stand after the record's length and ID
abbrev pub placed : Option ℕ → Lookup
placed (Some at) = Registers (at + (2 + registers_at))
placed None = Refused 40

-- the sheet's number first, then 40
unfoldable pub lookup_of : List ℕ → ℕ → Lookup
lookup_of s id = cond (eqb (sheet_number s) 0) (placed (find_from id 1 (entries_of s))) (Refused (sheet_number s))

-- "Functions, numbered from 1": the ID of the function at index i, from 0
unfoldable pub id_at : List Entry → ℕ → RecordId
id_at [] i = NoRecord 40
id_at (e ∷ es) zero = Id e.id
id_at (e ∷ es) (suc i) = id_at es i

-- of the record with this number; record 0 is the host, which has none
abbrev pub id_of_record : List Entry → ℕ → RecordId
id_of_record es zero = NoRecord 40
id_of_record es (suc i) = id_at es i

unfoldable pub record_id : List ℕ → ℕ → RecordId
record_id s k = cond (eqb (sheet_number s) 0) (id_of_record (entries_of s) k) (NoRecord (sheet_number s))

-- document 01's number of it
abbrev pub record_id_number : RecordId → ℕ
record_id_number (Id id) = 0
record_id_number (NoRecord n) = n

-- document 01's number of a lookup, and its part of the sheet
abbrev pub lookup_number : Lookup → ℕ
lookup_number (Registers at) = 0
lookup_number (Refused n) = n

abbrev pub register_bytes : Lookup → List ℕ → List ℕ
register_bytes (Registers at) s = take registers_size (drop at s)
register_bytes (Refused n) s = []

-- where the command word stands, of registers that start here
abbrev pub command_from : ℕ → ℕ
command_from at = at + (command_at - registers_at)

abbrev pub with_command : Lookup → List ℕ → ℕ → List ℕ
with_command (Registers at) s command = sets s (command_from at) (le_bytes 2 command)
with_command (Refused n) s command = s
