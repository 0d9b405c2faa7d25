-- The number of a sheet's first check that fails, and of a lookup that finds nothing: 1 to 99. Assumes nothing.
use Rattle.std.specs.Prelude.{refl, Option, Some, None, List, [], ◌∷◌, ℕ, zero, suc, length, get_or, drop, eqb, ltb}
use Rattle.std.proofs.Common.{arith}
use Rattle.refusals.specs.Refusals.{IsRefusal, IsNumber}
use Rattle.refusals.specs.RefusalsLaws.{refusal, either, unless_zero}
use Rattle.records.specs.Limits.{most_functions}
use Rattle.sheet_record.specs.Entry.{Entry}
use Rattle.sheet.specs.declared.Rule.TheVariants.{HeaderType, Buses, ReadBacks, Nibbles}
use Rattle.sheet.specs.declared.Lookup.{Lookup}
use Rattle.sheet.specs.declared.Lookup.TheVariants.{Registers, Refused as NotFound}
use Rattle.sheet.specs.declared.RecordId.{RecordId}
use Rattle.sheet.specs.declared.RecordId.TheVariants.{Id, Refused as NoRecord}
use Rattle.sheet.specs.Sheet.{entries_of, is_framed, any_breaks, id_twice, find_from, sheet_number}
use Rattle.sheet.specs.Sheet.{from20, from21, from22, from24, from25, from27, from28, from29}
use Rattle.sheet.specs.Lookup.{placed, lookup_of, id_at, id_of_record, record_id}

-- ## The sheet

entries_number : (es : List Entry) → IsNumber (from24 es)
unfolding from24 from27 from28 from25 from29
entries_number es =
    either IsNumber (any_breaks HeaderType es) 24 (from27 es) (omega arith)
    (either IsNumber (any_breaks Buses es) 27 (from28 es) (omega arith)
    (either IsNumber (id_twice es) 28 (from25 es) (omega arith)
    (either IsNumber (any_breaks ReadBacks es) 25 (from29 es) (omega arith)
    (either IsNumber (any_breaks Nibbles es) 29 0 (omega arith) (omega arith)))))

pub sheet_number_lem : (s : List ℕ) → IsNumber (sheet_number s)
unfolding sheet_number from21 from20 from22
sheet_number_lem s =
    let es = entries_of s in
    either IsNumber (eqb (length s) 0) 20 (from21 s) (omega arith)
    (either IsNumber (eqb (get_or s 0 0) 1) (from20 s) 21
    (either IsNumber (is_framed (drop 1 s)) (from22 es) 20
    (either IsNumber (ltb most_functions (length es)) 22 (from24 es) (omega arith) (entries_number es)) (omega arith)) (omega arith))

-- ## The lookup by ID

abbrev pub NumberedLookup : Lookup → Type 0
NumberedLookup (Registers at) = Unit {0}
NumberedLookup (NotFound n) = IsRefusal n

pub numbered_lookup : (s : List ℕ) (id : ℕ) → NumberedLookup (lookup_of s id)
unfolding lookup_of
numbered_lookup s id =
    let found = find_from id 1 (entries_of s) in
    unless_zero NumberedLookup (sheet_number s) (placed found) (NotFound (sheet_number s)) (sheet_number_lem s) (go found) (λ h. h)
  where
    go : (x : Option ℕ) → NumberedLookup (placed x)
    go (Some at) = tt
    go None = refusal 40 refl

-- ## The ID of a record

abbrev pub NumberedId : RecordId → Type 0
NumberedId (Id id) = Unit {0}
NumberedId (NoRecord n) = IsRefusal n

numbered_id_at : (es : List Entry) (i : ℕ) → NumberedId (id_at es i)
unfolding id_at
numbered_id_at [] i = refusal 40 refl
numbered_id_at (e ∷ es) zero = tt
numbered_id_at (e ∷ es) (suc i) = numbered_id_at es i

pub numbered_id : (s : List ℕ) (number : ℕ) → NumberedId (record_id s number)
unfolding record_id
numbered_id s number =
    unless_zero NumberedId (sheet_number s) (id_of_record (entries_of s) number) (NoRecord (sheet_number s)) (sheet_number_lem s) (go number)
    (λ h. h)
  where
    go : (k : ℕ) → NumberedId (id_of_record (entries_of s) k)
    go zero = refusal 40 refl
    go (suc i) = numbered_id_at (entries_of s) i
