-- The laws of the table of pairs that the header's round trip stands on: reader and writer find the same carried rows, and what holds of
-- each. One test of the rows, computed over the whole table, gives them all. Assumes nothing.
use Rattle.std.specs.Prelude.{◌≡◌, refl, ◌⊎◌, List, [], ◌∷◌, Bool, true, false, cond, ◌&&◌, ◌||◌, ℕ, ◌+◌, ◌/◌, ◌%◌, ◌<◌, eqb, ltb, Option, Some, None}
use Rattle.std.proofs.Common.{ap, sym, ◌∙◌, inl, inr, arith, eqb-true, ltb-true}
use Rattle.std.proofs.Math.Bool.{and-eq-true_iff}
use Rattle.std.proofs.lemmas.Bool.{false≢true}
use Rattle.pairs.specs.declared.Row.{Row}
use Rattle.pairs.specs.declared.Kind.{Kind}
use Rattle.pairs.specs.declared.Kind.TheVariants.{Memory, Io, Config, Completion, Message, FetchAdd, Swap, Cas}
use Rattle.pairs.specs.declared.Pair.{Pair}
use Rattle.pairs.specs.declared.Pair.TheVariants.{Carried, NotCarried, Unknown}
use Rattle.pairs.specs.Pairs.{table, kind_named, kind_number, is_pair, is_kind, first, find_pair, find_kind, answer_of, pair_of, row_of}
use Rattle.pairs.proofs.FirstLaws.{every, first_found}
use Rattle.pairs.proofs.KindLaws.{kind_unique, name_unique}

-- ## Rows are told apart by their fields

-- the conjunction of some tests, and what it says of each
abbrev conj : List Bool → Bool
conj [] = true
conj (b ∷ bs) = b && conj bs

abbrev Each : List Bool → Type 0
Each [] = Unit
Each (b ∷ bs) = (b ≡ true) × Each bs

conj_elim : (bs : List Bool) → conj bs ≡ true → Each bs
conj_elim [] h = tt
conj_elim (b ∷ bs) h = let e = (and-eq-true_iff b (conj bs)).0 h in (e.0, conj_elim bs e.1)

-- two carried rows are one
same_tests : Row → Row → List Bool
same_tests a b =
    eqb a.byte b.byte
    ∷ eqb (kind_number (kind_named a.name)) (kind_number (kind_named b.name))
    ∷ eqb a.form b.form
    ∷ a.carried
    ∷ b.carried
    ∷ []

row_unique : (a b : Row) → conj (same_tests a b) ≡ true → a ≡ b
unfolding same_tests
row_unique a b h =
    let e = conj_elim (same_tests a b) h in
    λ i.
    record {
      byte = eqb-true a.byte b.byte e.0 i;
      name = name_unique a.name b.name e.1.0 i;
      form = eqb-true a.form b.form e.1.1.0 i;
      carried = (e.1.1.1.0 ∙ sym e.1.1.1.1.0) i;
    }

-- ## What holds of a carried row

-- the forms that a kind is carried in: memory requests have both, messages four dwords, all others three; AtomicOps are not carried
abbrev pub Forms : Kind → ℕ → Type 0
Forms (Memory k) f = (f ≡ 3) ⊎ (f ≡ 4)
Forms (Io k) f = f ≡ 3
Forms (Config k) f = f ≡ 3
Forms (Completion k) f = f ≡ 3
Forms (Message k routing) f = f ≡ 4
Forms FetchAdd f = ⊥
Forms Swap f = ⊥
Forms Cas f = ⊥

pub record CarriedRow (row : Row) : Type 0 where
  pub carried : row.carried ≡ true
  pub byte_below : row.byte < 256
  -- the reader finds the row by its pair, and the writer by its kind and form
  pub read : pair_of row.byte ≡ Carried row
  pub written : row_of (kind_named row.name) row.form ≡ Carried row
  -- Fmt bit 0 is the four-dword form
  pub form_fmt : row.form ≡ 3 + row.byte / 32 % 2
  pub dwords : (row.form ≡ 3) ⊎ (row.form ≡ 4)
  pub forms : Forms (kind_named row.name) row.form

-- ## The test that antt computes over the table

abbrev is_form : Kind → ℕ → Bool
is_form (Memory k) f = eqb f 3 || eqb f 4
is_form (Io k) f = eqb f 3
is_form (Config k) f = eqb f 3
is_form (Completion k) f = eqb f 3
is_form (Message k routing) f = eqb f 4
is_form FetchAdd f = false
is_form Swap f = false
is_form Cas f = false

three_or_four : (f : ℕ) → eqb f 3 || eqb f 4 ≡ true → (f ≡ 3) ⊎ (f ≡ 4)
three_or_four f h = go (eqb f 3) refl h
  where
    go : (b : Bool) → eqb f 3 ≡ b → b || eqb f 4 ≡ true → (f ≡ 3) ⊎ (f ≡ 4)
    go true e h = inl (eqb-true f 3 e)
    go false e h = inr (eqb-true f 4 h)

forms_of_test : (k : Kind) (f : ℕ) → is_form k f ≡ true → Forms k f
forms_of_test (Memory k) f h = three_or_four f h
forms_of_test (Io k) f h = eqb-true f 3 h
forms_of_test (Config k) f h = eqb-true f 3 h
forms_of_test (Completion k) f h = eqb-true f 3 h
forms_of_test (Message k routing) f h = eqb-true f 4 h
forms_of_test FetchAdd f h = false≢true h
forms_of_test Swap f h = false≢true h
forms_of_test Cas f h = false≢true h

-- the table's answer is this row
finds : Row → Pair → Bool
finds row (Carried found) = conj (same_tests found row)
finds row NotCarried = false
finds row Unknown = false

finds_elim : (row : Row) (pair : Pair) → finds row pair ≡ true → pair ≡ Carried row
unfolding finds
finds_elim row (Carried found) h = ap Carried (row_unique found row h)
finds_elim row NotCarried h = absurd (false≢true h)
finds_elim row Unknown h = absurd (false≢true h)

row_tests : Row → List Bool
row_tests row =
    ltb row.byte 256
    ∷ finds row (pair_of row.byte)
    ∷ finds row (row_of (kind_named row.name) row.form)
    ∷ eqb row.form (3 + row.byte / 32 % 2)
    ∷ (eqb row.form 3 || eqb row.form 4)
    ∷ is_form (kind_named row.name) row.form
    ∷ []

-- a row passes its tests where it is carried
right_row : Row → Bool
right_row row = cond row.carried (conj (row_tests row)) true

table_right : every right_row table ≡ true
unfolding every right_row row_tests finds same_tests pair_of row_of find_pair find_kind first table
table_right = refl

tests_of_carried : (carried tests : Bool) → carried ≡ true → cond carried tests true ≡ true → tests ≡ true
tests_of_carried true tests e h = h
tests_of_carried false tests e h = absurd (false≢true e)

carried_of_right : (row : Row) → row.carried ≡ true → right_row row ≡ true → CarriedRow row
unfolding right_row row_tests
carried_of_right row carried right =
    let e = conj_elim (row_tests row) (tests_of_carried row.carried (conj (row_tests row)) carried right) in
    record {
      carried = carried;
      byte_below = ltb-true row.byte 256 e.0;
      read = finds_elim row (pair_of row.byte) e.1.0;
      written = finds_elim row (row_of (kind_named row.name) row.form) e.1.1.0;
      form_fmt = eqb-true row.form (3 + row.byte / 32 % 2) e.1.1.1.0;
      dwords = three_or_four row.form e.1.1.1.1.0;
      forms = forms_of_test (kind_named row.name) row.form e.1.1.1.1.1.0;
    }

-- ## The laws

found_of_answer : (looked : Option Row) {row : Row} → answer_of looked ≡ Carried row → (looked ≡ Some row) × (row.carried ≡ true)
found_of_answer None h = let z : ◌≡◌ {A = ℕ} 0 1 = cc in absurd (omega arith)
found_of_answer (Some r) {row} h = go r.carried refl h
  where
    go : (b : Bool) → r.carried ≡ b → cond b (Carried r) NotCarried ≡ Carried row → (Some r ≡ Some row) × (row.carried ≡ true)
    go true e h = (cc, cc)
    go false e h = let z : ◌≡◌ {A = ℕ} 0 1 = cc in absurd (omega arith)

-- what a search of the table answers as carried passed the search's test, and is a carried row
found_carried : (p : Row → Bool) {row : Row} → answer_of (first p table) ≡ Carried row → (p row ≡ true) × CarriedRow row
found_carried p {row} h =
    let f = found_of_answer (first p table) h in
    let t = first_found p right_row table table_right f.0 in
    (t.0, carried_of_right row f.1 t.1)

-- what the reader finds in byte 0, the writer finds by its kind and form, and writes as that byte
pub pair_row : (b : ℕ) {row : Row} → pair_of b ≡ Carried row → (row.byte ≡ b) × CarriedRow row
unfolding pair_of find_pair
pair_row b {row} h = go (eqb (b / 32) 4) h
  where
    go : (prefix : Bool) → cond prefix NotCarried (answer_of (first (is_pair b) table)) ≡ Carried row → (row.byte ≡ b) × CarriedRow row
    go true h = let z : ◌≡◌ {A = ℕ} 0 1 = cc in absurd (omega arith)
    go false h = let f = found_carried (is_pair b) h in (eqb-true row.byte b f.0, f.1)

-- what the writer finds is of the kind and form asked for, and the reader finds it in the byte written
pub row_pair : (k : Kind) (f : ℕ) {row : Row} → row_of k f ≡ Carried row → (kind_named row.name ≡ k) × (row.form ≡ f) × CarriedRow row
unfolding row_of find_kind
row_pair k f {row} h =
    let r = found_carried (is_kind k f) h in
    let e = (and-eq-true_iff (eqb (kind_number (kind_named row.name)) (kind_number k)) (eqb row.form f)).0 r.0 in
    (kind_unique (kind_named row.name) k e.0, eqb-true row.form f e.1, r.1)

-- `Forms` computes at a kind whose class is known
pub forms_of_kind : {row : Row} {k : Kind} → CarriedRow row → kind_named row.name ≡ k → Forms k row.form
forms_of_kind r e = rw e at r.forms

pub row_forms : (k : Kind) (f : ℕ) {row : Row} → row_of k f ≡ Carried row → Forms k f
row_forms k f h = let r = row_pair k f h in rw r.1 at (forms_of_kind r.2 r.0)
