-- From a record's number to its ID, in the words of the code: the sheet's number, no such record, the ID in the record's part; and the
-- number that comes with it. Assumes nothing.
use Rattle.std.specs.Prelude.{◌≡◌, refl, List, [], ◌∷◌, ℕ, zero, suc, ◌-◌, ◌≤◌, ◌<◌, length, get_or}
use Rattle.std.proofs.Common.{sym, ap, ◌∙◌, arith}
use borrow.Author.Tests.{eq-eqb, ne_eqb}
use Rattle.sheet.specs.declared.RecordId.TheVariants.{Id, Refused}
use Rattle.sheet_record.specs.Entry.{Entry, entry_of, id_of}
use Rattle.sheet.specs.Sheet.{Framed, entries_of, part_at, sheet_number}
use Rattle.sheet.specs.Lookup.{id_at, id_of_record, record_id, record_id_number}
use Rattle.sheet.proofs.IndexLaws.{entry_index}
use Rattle.sheet.proofs.LookupLaws.{id_of_entry}

id_past : (es : List Entry) (i : ℕ) → length es ≤ i → id_at es i ≡ Refused 40
unfolding id_at
id_past [] i h = refl
id_past (e ∷ es) zero h = absurd (omega arith)
id_past (e ∷ es) (suc i) h = id_past es i (omega arith)

id_here : (es : List Entry) (i : ℕ) (d : Entry) → i < length es → id_at es i ≡ Id (get_or es i d).id
unfolding id_at
id_here [] i d h = absurd (omega arith)
id_here (e ∷ es) zero d h = refl
id_here (e ∷ es) (suc i) d h = id_here es i d (omega arith)

module _ (s : List ℕ) {n : ℕ} (is_number : n ≡ sheet_number s) where
  pub record_id_bad : (k : ℕ) → (n ≡ 0 → ⊥) → Refused n ≡ record_id s k
  unfolding record_id
  record_id_bad k z = rw (← is_number, ne_eqb n 0 z)

  record_id_good : (k : ℕ) → n ≡ 0 → record_id s k ≡ id_of_record (entries_of s) k
  unfolding record_id
  record_id_good k z = rw (← is_number, eq-eqb n 0 z)

  pub record_id_host : (k : ℕ) → n ≡ 0 → k ≡ 0 → Refused 40 ≡ record_id s k
  record_id_host k z host = sym (record_id_good k z ∙ ap (id_of_record (entries_of s)) host)

  pub record_id_past : (k m : ℕ) → n ≡ 0 → m ≡ length (entries_of s) → m < k → Refused 40 ≡ record_id s k
  record_id_past zero m z e past = absurd (omega arith)
  record_id_past (suc i) m z e past = sym (record_id_good (suc i) z ∙ id_past (entries_of s) i (omega arith))

  pub record_id_here : (k m x : ℕ) (p : List ℕ) → n ≡ 0 → Framed 1 s → m ≡ length (entries_of s) → (k ≡ 0 → ⊥) → k ≤ m
      → p ≡ part_at s (k - 1)
      → x ≡ id_of p
      → Id x ≡ record_id s k
  record_id_here zero m x p z f e some here is_part_lem is_id = absurd (some refl)
  record_id_here (suc i) m x p z f e some here is_part_lem is_id =
      let inside : i < length (entries_of s) = omega arith in
      let same : suc i - 1 ≡ i = omega arith in
      let in_part : x ≡ (entry_of (part_at s i)).id = is_id ∙ ap id_of (is_part_lem ∙ ap (part_at s) same) ∙ id_of_entry (part_at s i) in
      sym
      (record_id_good (suc i) z
      ∙ id_here (entries_of s) i (entry_of []) inside
      ∙ ap (λ (e : Entry). Id e.id) (entry_index s i f inside)
      ∙ ap Id (sym in_part))

-- ## The number

-- the sheet's own first; then 40 exactly where the sheet has no such record
pub record IdNumbered (s : List ℕ) (k : ℕ) : Type 0 where
  pub bad_sheet : (sheet_number s ≡ 0 → ⊥) → record_id_number (record_id s k) ≡ sheet_number s
  pub found : sheet_number s ≡ 0 → 1 ≤ k → k ≤ length (entries_of s) → record_id_number (record_id s k) ≡ 0
  pub no_host_lem : sheet_number s ≡ 0 → k ≡ 0 → record_id_number (record_id s k) ≡ 40
  pub no_record : sheet_number s ≡ 0 → length (entries_of s) < k → record_id_number (record_id s k) ≡ 40

pub record_id_numbered : (s : List ℕ) (k : ℕ) → IdNumbered s k
record_id_numbered s k =
    record {
      bad_sheet = λ z. ap record_id_number (sym (record_id_bad s refl k z));
      found = λ z from_1 here. found k z from_1 here;
      no_host_lem = λ z host. ap record_id_number (sym (record_id_host s refl k z host));
      no_record = λ z past. ap record_id_number (sym (record_id_past s refl k (length (entries_of s)) z refl past));
    }
  where
    found : (k : ℕ) → sheet_number s ≡ 0 → 1 ≤ k → k ≤ length (entries_of s) → record_id_number (record_id s k) ≡ 0
    found zero z from_1 here = absurd (omega arith)
    found (suc i) z from_1 here =
        ap record_id_number (record_id_good s refl (suc i) z ∙ id_here (entries_of s) i (entry_of []) (omega arith))
