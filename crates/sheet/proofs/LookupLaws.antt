-- Where a lookup finds a function: at a record's registers, inside the sheet, with the ID that was asked for. Assumes nothing.
use Rattle.std.specs.Prelude.{◌≡◌, refl, Bool, true, false, cond, Option, Some, None, List, [], ◌∷◌, ℕ, suc, ◌+◌, ◌-◌, ◌*◌, ◌≤◌, length, take, drop, eqb}
use Rattle.std.proofs.Common.{sym, ap, ◌∙◌, arith}
use borrow.Author.Tests.{eqb-true, eq-eqb, ne_eqb}
use Rattle.sheet.specs.declared.Lookup.TheVariants.{Registers, Refused}
use Rattle.sheet_record.specs.Places.{registers_at, registers_size, stride}
use Rattle.sheet_record.specs.Entry.{Entry, entry_of, id_of}
use Rattle.sheet.specs.Sheet.{Framed, entries_from, entries_of, find_from, sheet_number}
use Rattle.sheet.specs.Lookup.{placed, lookup_of, register_bytes}
use Rattle.sheet.proofs.CheckLaws.{part_from, FirstAt, first_at}
use Rattle.sheet.proofs.SheetLaws.{Checked, checked_of_zero}

-- record k after a place starts at a, and has the ID
pub record FoundAt (s : List ℕ) (from id a : ℕ) : Type 0 where
  pub index : ℕ
  pub place : a ≡ from + stride * index
  pub fits : a + stride ≤ length s
  pub id_is : id_of (part_from s a) ≡ id

pub id_of_entry : (p : List ℕ) → id_of p ≡ (entry_of p).id
unfolding entry_of
id_of_entry p = refl

found_from : (s : List ℕ) (id a at : ℕ) (es : List Entry) → entries_from s at ≡ es → Framed at s → find_from id at es ≡ Some a
    → FoundAt s at id a
unfolding find_from
found_from s id a at [] e f q = absurd (let z : ◌≡◌ {A = ℕ} 0 1 = cc in omega arith)
found_from s id a at (x ∷ es) e f q =
    let r = first_at s at x es f e in here r (eqb x.id id) refl q (λ q. found_from s id a (at + stride) es r.tail r.rest q)
  where
    here : FirstAt s at x es → (b : Bool) → eqb x.id id ≡ b → cond b (Some at) (find_from id (at + stride) es) ≡ Some a
        → (find_from id (at + stride) es ≡ Some a → FoundAt s (at + stride) id a) → FoundAt s at id a
    here r true t q on =
        let same : at ≡ a = cc in
        record {
          index = 0;
          place = omega arith;
          fits = omega (arith, r.here.fits);
          id_is = ap (λ (i : ℕ). id_of (part_from s i)) (sym same) ∙ id_of_entry (part_from s at) ∙ ap (λ (y : Entry). y.id) r.head
              ∙ eqb-true x.id id t;
        }
    here r false t q on =
        let later = on q in
        record { index = suc later.index; place = omega (arith, later.place); fits = later.fits; id_is = later.id_is }

pub found_at : (s : List ℕ) (from id a : ℕ) → Framed from s → find_from id from (entries_from s from) ≡ Some a → FoundAt s from id a
found_at s from id a f q = found_from s id a from (entries_from s from) refl f q

-- ## Of a lookup

pub record LookedUp (s : List ℕ) (id a : ℕ) : Type 0 where
  pub checked : Checked s
  pub record_at_lem : ℕ
  pub place : a ≡ record_at_lem + (2 + registers_at)
  pub found : FoundAt s 1 id record_at_lem

pub looked_up : (s : List ℕ) (id a : ℕ) → lookup_of s id ≡ Registers a → LookedUp s id a
unfolding lookup_of
looked_up s id a q = go (eqb (sheet_number s) 0) refl q
  where
    found : Checked s → (x : Option ℕ) → find_from id 1 (entries_of s) ≡ x → placed x ≡ Registers a → LookedUp s id a
    found c (Some at) e q =
        let same : at + (2 + registers_at) ≡ a = cc in
        record { checked = c; record_at_lem = at; place = sym same; found = found_at s 1 id at c.framed e }
    found c None e q = absurd (let z : ◌≡◌ {A = ℕ} 0 1 = cc in omega arith)

    go : (b : Bool) → eqb (sheet_number s) 0 ≡ b → cond b (placed (find_from id 1 (entries_of s))) (Refused (sheet_number s)) ≡ Registers a
        → LookedUp s id a
    go true z q = found (checked_of_zero s (eqb-true (sheet_number s) 0 z)) (find_from id 1 (entries_of s)) refl q
    go false z q = absurd (let z : ◌≡◌ {A = ℕ} 0 1 = cc in omega arith)

-- the registers lie inside the sheet
pub registers_fit : (s : List ℕ) (id a : ℕ) → lookup_of s id ≡ Registers a → a + registers_size ≤ length s
registers_fit s id a q = let l = looked_up s id a q in omega (arith, l.place, l.found.fits)

-- in the words of the code
pub registers_part : (s : List ℕ) (id a : ℕ) → lookup_of s id ≡ Registers a → take (a + registers_size - a) (drop a s)
    ≡ register_bytes (lookup_of s id) s
registers_part s id a q = let n : a + registers_size - a ≡ registers_size = omega arith in rw (n, q)

module _ (s : List ℕ) (id n : ℕ) where
  pub lookup_bad : n ≡ sheet_number s → (n ≡ 0 → ⊥) → Refused n ≡ lookup_of s id
  unfolding lookup_of
  lookup_bad e z = rw (← e, ne_eqb n 0 z)

  pub lookup_good : n ≡ sheet_number s → n ≡ 0 → (x : Option ℕ) → x ≡ find_from id 1 (entries_of s) → placed x ≡ lookup_of s id
  unfolding lookup_of
  lookup_good e z x f = rw (← e, eq-eqb n 0 z, f)
