-- What the calls on a sheet's function answer, from document 01's definitions, and what the sheet then holds. Assumes nothing.
use Rattle.std.specs.Prelude.{ℕ, cond, List, [], ◌∷◌, ltb, eqb}
use Rattle.sheet.specs.declared.RecordId.{RecordId}
use Rattle.sheet.specs.declared.RecordId.TheVariants.{Id, Refused as NoRecord}
use Rattle.sheet.specs.declared.Lookup.{Lookup}
use Rattle.sheet.specs.declared.Lookup.TheVariants.{Registers, Refused as NotFound}
use Rattle.sheet.specs.Sheet.{sheet_number}
use Rattle.sheet.specs.Lookup.{lookup_of, lookup_number, with_command, record_id}
use Rattle.capi_answers.specs.Answers.{Answer, refuses, gives}

-- ## Lookup: where the 64 register bytes start

abbrev pub on_lookup : Lookup → Answer
on_lookup (Registers at) = gives (at ∷ [])
on_lookup (NotFound n) = refuses n

abbrev pub lookup_answer : List ℕ → ℕ → Answer
lookup_answer sheet id = on_lookup (lookup_of sheet id)

-- ## From a record's number to its ID

abbrev pub on_record_id : RecordId → Answer
on_record_id (Id id) = gives (id ∷ [])
on_record_id (NoRecord n) = refuses n

abbrev pub id_answer : List ℕ → ℕ → Answer
id_answer sheet number = on_record_id (record_id sheet number)

-- the number for an ID that no function has: the sheet's own, or else 40
abbrev pub unowned_of : List ℕ → ℕ
unowned_of s = cond (eqb (sheet_number s) 0) 40 (sheet_number s)

-- ## A command word: a value above FFFFh is 10, tried before the sheet is read

abbrev pub word : ℕ
word = 65535

unfoldable pub command_number : List ℕ → ℕ → ℕ → ℕ
command_number sheet id command = cond (ltb word command) 10 (lookup_number (lookup_of sheet id))

unfoldable pub command_left : List ℕ → ℕ → ℕ → List ℕ
command_left sheet id command = cond (ltb word command) sheet (with_command (lookup_of sheet id) sheet command)
