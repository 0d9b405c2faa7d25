-- Check 28 in one pass: after each record exactly the IDs read so far are marked. Assumes nothing.
use Rattle.std.specs.Prelude.{◌≡◌, false, List, ◌++◌, ℕ}
use Rattle.sheet_record.specs.Entry.{Entry}
use Rattle.sheet_marks.specs.Marks.{is_marked}
use Rattle.sheet.specs.Sheet.{entries_from, entries_of, has_id, id_twice}

-- an ID is marked exactly where one of these records has it
abbrev pub ExactlyMarked : List ℕ → List Entry → Type 0
ExactlyMarked seen es = (id : ℕ) → is_marked seen id ≡ has_id id es

-- the records before a place were read, those from there on were not
pub record ReadSoFar (s : List ℕ) (at : ℕ) (seen : List ℕ) : Type 0 where
  pub read : List Entry
  pub in_order : read ++ entries_from s at ≡ entries_of s
  pub exactly : ExactlyMarked seen read
  pub once : id_twice read ≡ false
