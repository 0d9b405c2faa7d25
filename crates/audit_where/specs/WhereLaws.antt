-- The audit's number, and whom it is about, in the words of the code. Assumes nothing.
use Rattle.std.specs.Prelude.{◌≡◌, List, ℕ, ◌≤◌, ◌<◌, length}
use Rattle.std.proofs.Common.{sym, ap, ◌∙◌, arith}
use borrow.Author.Tests.{ne_eqb}
use Rattle.board_record.specs.declared.Host.{Host}
use Rattle.board_record.specs.Host.{host_length, host_of_part}
use Rattle.sheet_record.specs.Entry.{Entry}
use Rattle.sheet.specs.Sheet.{Framed, entries_of}
use Rattle.sheet.proofs.SheetLaws.{Checked, checked_of_zero}
use Rattle.audit_rule.specs.Audit.{audit_number}
use Rattle.finding.specs.declared.Parties.{Parties}
use Rattle.finding.specs.Places.{nobodies}
use Rattle.audit_finding.specs.declared.Check.{Check}
use Rattle.audit_finding.specs.declared.Check.TheVariants.{Whole, HeaderType, Buses, Ids, ReadBacks, Nibbles, Tree, Places, Overlaps}
use Rattle.audit_finding.specs.Finding.{under_host, check_of, first_failing, found, finding_of}
use Rattle.audit_finding.specs.FindingLaws.{Told, of_whole, of_record_lem, of_tree, number_told, whole_nobody}

-- ## What the number says of the host record and the sheet

module _ (host s : List ℕ) where
  framed : (n : ℕ) → Told host s n → (check_of n ≡ Whole → ⊥) → Framed 1 s
  framed n (of_whole w small) named = absurd (named w)
  framed n (of_record_lem f some small) named = f
  framed n (of_tree size passes some large) named = (checked_of_zero s passes).framed

  pub framed_of_named : (n : ℕ) → n ≡ audit_number host s → (check_of n ≡ Whole → ⊥) → Framed 1 s
  framed_of_named n e = rw e (framed (audit_number host s) (number_told host s))

  large : (n : ℕ) → Told host s n → 50 ≤ n → (length host ≡ host_length) × Checked s
  large n (of_whole w small) l = absurd (let z : ⊥ = omega (arith, small, l) in z)
  large n (of_record_lem f some small) l = absurd (let z : ⊥ = omega (arith, small, l) in z)
  large n (of_tree size passes some m) l = (size, checked_of_zero s passes)

  pub checked_of_large : (n : ℕ) → n ≡ audit_number host s → 50 ≤ n → (length host ≡ host_length) × Checked s
  checked_of_large n e l = large (audit_number host s) (number_told host s) (omega (arith, e, l))

  -- the whole finding: found are the parties
  pub finding_is : (n : ℕ) → n ≡ audit_number host s → (p : Parties) → p ≡ first_failing (check_of n) (host_of_part host) (entries_of s)
      → found n p ≡ finding_of host s
  unfolding finding_of
  finding_is n e p f = rw (f, e)

-- ## The check of each number

abbrev pub is_of_record : Check → ℕ
is_of_record Whole = 0
is_of_record HeaderType = 1
is_of_record Buses = 1
is_of_record Ids = 1
is_of_record ReadBacks = 1
is_of_record Nibbles = 1
is_of_record Tree = 1
is_of_record Places = 1
is_of_record Overlaps = 1

pub named : (n : ℕ) (c : Check) → check_of n ≡ c → is_of_record c ≡ 1 → check_of n ≡ Whole → ⊥
named n c e one w = let z : ◌≡◌ {A = ℕ} 1 0 = sym one ∙ ap is_of_record (sym e ∙ w) in omega (arith, z)

module _ (n : ℕ) where
  pub check_24 : n ≡ 24 → check_of n ≡ HeaderType
  unfolding check_of under_host
  check_24 e = rw e

  pub check_25 : n ≡ 25 → check_of n ≡ ReadBacks
  unfolding check_of under_host
  check_25 e = rw e

  pub check_27 : n ≡ 27 → check_of n ≡ Buses
  unfolding check_of under_host
  check_27 e = rw e

  pub check_28 : n ≡ 28 → check_of n ≡ Ids
  unfolding check_of under_host
  check_28 e = rw e

  pub check_29 : n ≡ 29 → check_of n ≡ Nibbles
  unfolding check_of under_host
  check_29 e = rw e

  pub check_50 : n ≡ 50 → check_of n ≡ Tree
  unfolding check_of under_host
  check_50 e = rw e

  pub check_51 : n ≡ 51 → check_of n ≡ Places
  unfolding check_of under_host
  check_51 e = rw e

  pub check_52 : n ≡ 52 → check_of n ≡ Overlaps
  unfolding check_of under_host
  check_52 e = rw e

-- ## Nobody, where no arm has the number

module _ (n : ℕ) (h : Host) (es : List Entry) where
  pub nobody_own : n < 50 → (n ≡ 24 → ⊥) → (n ≡ 25 → ⊥) → (n ≡ 27 → ⊥) → (n ≡ 28 → ⊥) → (n ≡ 29 → ⊥)
      → nobodies ≡ first_failing (check_of n) h es
  unfolding check_of under_host
  nobody_own l a b c d e =
      rw (
        ne_eqb n 24 a,
        ne_eqb n 25 b,
        ne_eqb n 27 c,
        ne_eqb n 28 d,
        ne_eqb n 29 e,
        ne_eqb n 50 (λ z. omega (arith, z, l)),
        ne_eqb n 51 (λ z. omega (arith, z, l)),
        ne_eqb n 52 (λ z. omega (arith, z, l)),
      )
      (sym (whole_nobody h es))

  pub nobody_under : 50 ≤ n → (n ≡ 50 → ⊥) → (n ≡ 51 → ⊥) → (n ≡ 52 → ⊥) → nobodies ≡ first_failing (check_of n) h es
  unfolding check_of under_host
  nobody_under l a b c =
      rw (
        ne_eqb n 24 (λ z. omega (arith, z, l)),
        ne_eqb n 25 (λ z. omega (arith, z, l)),
        ne_eqb n 27 (λ z. omega (arith, z, l)),
        ne_eqb n 28 (λ z. omega (arith, z, l)),
        ne_eqb n 29 (λ z. omega (arith, z, l)),
        ne_eqb n 50 a,
        ne_eqb n 51 b,
        ne_eqb n 52 c,
      )
      (sym (whole_nobody h es))
