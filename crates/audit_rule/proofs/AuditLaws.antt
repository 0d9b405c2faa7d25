-- The audit's number is 0 exactly for an accepted sheet, and else that of the first part that fails. Assumes nothing.
use Rattle.std.specs.Prelude.{◌≡◌, ◌↔◌, Bool, true, false, cond, List, ℕ, ◌≤◌, ◌<◌, length, get_or, drop, eqb, ltb}
use Rattle.std.proofs.Math.Path.{refl}
use Rattle.std.proofs.Common.{sym, ◌∙◌, arith}
use Rattle.std.proofs.Math.Bool.{true≢false}
use borrow.Author.Tests.{eqb-true, eqb-false, eq-eqb, ne_eqb}
use Rattle.endian.specs.Endian.{Bytes}
use Rattle.records.specs.Limits.{most_functions}
use Rattle.pools.specs.declared.Space.TheVariants.{Memory}
use Rattle.board_record.specs.declared.Host.{Host}
use Rattle.board_record.specs.Host.{host_length, host_of_part, host_wrong}
use Rattle.walk.specs.Good.{BridgesRise}
use Rattle.sheet_record.specs.Entry.{Entry}
use Rattle.sheet.specs.declared.Rule.TheVariants.{HeaderType, Buses, ReadBacks, Nibbles}
use Rattle.sheet.specs.Sheet.{is_framed, entries_of, any_breaks, id_twice, sheet_number}
use Rattle.sheet.specs.Sheet as sheets
use Rattle.sheet.specs.Spaces.{nodes_of}
use Rattle.sheet.proofs.SheetLaws.{passes_of_zero}
use Rattle.audit_rule.specs.Accepted.{IsTree, IsNested, IsDisjoint, Accepted, OneOwner, AcceptedBy, Lawful, ByNumber}
use Rattle.audit_rule.specs.Audit.{not_tree, not_nested, not_disjoint, from52, from51, from50, from_sheet, from26}
use Rattle.audit_rule.specs.Audit.{number_by, audit_number, sound_number}
use Rattle.audit_rule.specs.declared.Nesting.{Nesting}
use Rattle.audit_rule.specs.declared.Nesting.TheVariants.{OfKind, OfSpace}
use Rattle.audit_rule.proofs.TreeLaws.{tree_iff}
use Rattle.audit_rule.proofs.NestedLaws.{nested_iff}
use Rattle.audit_rule.proofs.DisjointLaws.{disjoint_iff}

-- ## A sheet's own number is none of the audit's

pub record OfSheet (n : ℕ) : Type 0 where
  pub not_26 : n ≡ 26 → ⊥
  pub small : n < 50

of_sheet : (b : Bool) (n m : ℕ) → OfSheet n → OfSheet m → OfSheet (cond b n m)
of_sheet true n m p q = p
of_sheet false n m p q = q

own : (n : ℕ) → (n ≡ 26 → ⊥) → n < 50 → OfSheet n
own n p q = record { not_26 = p; small = q }

from_24 : (es : List Entry) → OfSheet (sheets.from24 es)
unfolding sheets.from24 sheets.from27 sheets.from28 sheets.from25 sheets.from29
from_24 es =
    of_sheet (any_breaks HeaderType es) 24 (sheets.from27 es) (own 24 (λ e. omega arith) (omega arith))
    (of_sheet (any_breaks Buses es) 27 (sheets.from28 es) (own 27 (λ e. omega arith) (omega arith))
    (of_sheet (id_twice es) 28 (sheets.from25 es) (own 28 (λ e. omega arith) (omega arith))
    (of_sheet (any_breaks ReadBacks es) 25 (sheets.from29 es) (own 25 (λ e. omega arith) (omega arith))
    (of_sheet (any_breaks Nibbles es) 29 0 (own 29 (λ e. omega arith) (omega arith)) (own 0 (λ e. omega arith) (omega arith))))))

pub sheet_numbers : (s : List ℕ) → OfSheet (sheet_number s)
unfolding sheet_number sheets.from21 sheets.from20 sheets.from22
sheet_numbers s =
    let es = entries_of s in
    let frame = own 20 (λ e. omega arith) (omega arith) in
    of_sheet (eqb (length s) 0) 20 (sheets.from21 s) frame
    (of_sheet (eqb (get_or s 0 0) 1) (sheets.from20 s) 21
    (of_sheet (is_framed (drop 1 s)) (sheets.from22 es) 20
    (of_sheet (ltb most_functions (length es)) 22 (sheets.from24 es) (own 22 (λ e. omega arith) (omega arith)) (from_24 es)) frame)
    (own 21 (λ e. omega arith) (omega arith)))

-- ## What each test says

module _ (t : Nesting) (host s : List ℕ) (bytes : Bytes s) where
  abbrev h : Host
  h = host_of_part host

  abbrev es : List Entry
  es = entries_of s

  module _ (passes : sheet_number s ≡ 0) where
    rise : BridgesRise (nodes_of s)
    rise = (passes_of_zero s bytes passes).bridges_rise

    pub tree_of_test : not_tree h es ≡ false → IsTree host s
    tree_of_test right sp = (tree_iff h es rise sp).0 right

    pub test_of_tree : IsTree host s → not_tree h es ≡ false
    test_of_tree tree = (tree_iff h es rise Memory).1 (tree Memory)

    pub nested_of_test : IsTree host s → not_nested t h es ≡ false → IsNested t host s
    nested_of_test tree = (nested_iff t h es rise (tree Memory).one_way_up).0

    pub test_of_nested : IsTree host s → IsNested t host s → not_nested t h es ≡ false
    test_of_nested tree = (nested_iff t h es rise (tree Memory).one_way_up).1

  disjoint_of_test : not_disjoint es ≡ false → IsDisjoint s
  disjoint_of_test = (disjoint_iff es).0

  test_of_disjoint : IsDisjoint s → not_disjoint es ≡ false
  test_of_disjoint = (disjoint_iff es).1

  -- ## Each number from its part

  fails : (b : Bool) → (b ≡ false → ⊥) → b ≡ true
  fails true n = refl
  fails false n = absurd (n refl)

  at_20 : ¬ (length host ≡ host_length) → number_by t host s ≡ 20
  unfolding number_by
  at_20 n = rw (ne_eqb (length host) host_length n)

  at_26 : length host ≡ host_length → ¬ (host_wrong h ≡ false) → number_by t host s ≡ 26
  unfolding number_by from26
  at_26 size wrong = rw (eq-eqb (length host) host_length size, fails (host_wrong h) wrong)

  at_sheet : length host ≡ host_length → host_wrong h ≡ false → ¬ (sheet_number s ≡ 0) → number_by t host s ≡ sheet_number s
  unfolding number_by from26 from_sheet
  at_sheet size edges n = rw (eq-eqb (length host) host_length size, edges, ne_eqb (sheet_number s) 0 n)

  from_lawful : Lawful host s → number_by t host s ≡ from50 t h es
  unfolding number_by from26 from_sheet
  from_lawful (size, edges, passes) = rw (eq-eqb (length host) host_length size, edges, eq-eqb (sheet_number s) 0 passes)

  at_50 : Lawful host s → ¬ IsTree host s → number_by t host s ≡ 50
  unfolding from50
  at_50 l n = from_lawful l ∙ rw (fails (not_tree h es) (λ right. n (tree_of_test l.2 right)))

  at_51 : Lawful host s → IsTree host s → ¬ IsNested t host s → number_by t host s ≡ 51
  unfolding from50 from51
  at_51 l tree n =
      from_lawful l ∙ rw (test_of_tree l.2 tree, fails (not_nested t h es) (λ right. n (nested_of_test l.2 tree right)))

  at_52 : Lawful host s → IsTree host s → IsNested t host s → ¬ IsDisjoint s → number_by t host s ≡ 52
  unfolding from50 from51 from52
  at_52 l tree nested n =
      from_lawful l
      ∙ rw (test_of_tree l.2 tree, test_of_nested l.2 tree nested, fails (not_disjoint es) (λ right. n (disjoint_of_test right)))

  at_0 : AcceptedBy t host s → number_by t host s ≡ 0
  unfolding from50 from51 from52
  at_0 a =
      from_lawful (a.host_size, a.host_edges, a.passes)
      ∙ rw (test_of_tree a.passes a.tree, test_of_nested a.passes a.tree a.nested, test_of_disjoint a.disjoint)

  -- ## And each part from its number

  -- past a test that gives another number
  past : (b : Bool) (n rest m : ℕ) → (n ≡ m → ⊥) → cond b n rest ≡ m → (b ≡ false) × (rest ≡ m)
  past true n rest m other e = absurd (other e)
  past false n rest m other e = (refl, e)

  -- the test that the number is from
  from_test : (b : Bool) (n rest : ℕ) → (rest ≡ n → ⊥) → cond b n rest ≡ n → b ≡ true
  from_test true n rest other e = refl
  from_test false n rest other e = absurd (other e)

  size_of : (b : Bool) (m : ℕ) → eqb (length host) host_length ≡ b → (20 ≡ m → ⊥) → cond b (from26 t h s) 20 ≡ m
      → (length host ≡ host_length) × (from26 t h s ≡ m)
  size_of true m is other e = (eqb-true (length host) host_length is, e)
  size_of false m is other e = absurd (other e)

  passes_of : (b : Bool) (m : ℕ) → eqb (sheet_number s) 0 ≡ b → (sheet_number s ≡ m → sheet_number s ≡ 0)
      → cond b (from50 t h es) (sheet_number s) ≡ m → (sheet_number s ≡ 0) × (from50 t h es ≡ m)
  passes_of true m is other e = (eqb-true (sheet_number s) 0 is, e)
  passes_of false m is other e = absurd (eqb-false (sheet_number s) 0 is (other e))

  of_26 : number_by t host s ≡ 26 → (length host ≡ host_length) × ¬ (host_wrong h ≡ false)
  unfolding number_by from26 from_sheet from50 from51 from52
  of_26 e =
      let a = size_of (eqb (length host) host_length) 26 refl (λ z. omega arith) e in (
        a.0,
        λ right.
            true≢false (sym (from_test (host_wrong h) 26 (from_sheet t h s) later a.1) ∙ right),
      )
    where
      later : from_sheet t h s ≡ 26 → ⊥
      later g =
          let l = passes_of (eqb (sheet_number s) 0) 26 refl (λ z. absurd ((sheet_numbers s).not_26 z)) g in
          let b = past (not_tree h es) 50 (from51 t h es) 26 (λ z. omega arith) l.1 in
          let c = past (not_nested t h es) 51 (from52 es) 26 (λ z. omega arith) b.1 in
          let d = past (not_disjoint es) 52 0 26 (λ z. omega arith) c.1 in
          omega (arith, d.1)

  lawful_of : (m : ℕ) → (20 ≡ m → ⊥) → (26 ≡ m → ⊥) → (sheet_number s ≡ m → sheet_number s ≡ 0) → number_by t host s ≡ m
      → Lawful host s × (from50 t h es ≡ m)
  unfolding number_by from26 from_sheet
  lawful_of m not_20 not_26 not_sheet e =
      let a = size_of (eqb (length host) host_length) m refl not_20 e in
      let b = past (host_wrong h) 26 (from_sheet t h s) m not_26 a.1 in
      let c = passes_of (eqb (sheet_number s) 0) m refl not_sheet b.1 in
      ((a.0, b.0, c.0), c.1)

  from_50_on : (m : ℕ) → 50 ≤ m → number_by t host s ≡ m → Lawful host s × (from50 t h es ≡ m)
  from_50_on m l = lawful_of m (λ z. omega arith) (λ z. omega arith) (λ z. absurd (omega (arith, z, (sheet_numbers s).small)))

  of_50 : number_by t host s ≡ 50 → Lawful host s × ¬ IsTree host s
  unfolding from50 from51 from52
  of_50 e =
      let (l, f) = from_50_on 50 (omega arith) e in
      (l, λ tree. true≢false (sym (from_test (not_tree h es) 50 (from51 t h es) later f) ∙ test_of_tree l.2 tree))
    where
      later : from51 t h es ≡ 50 → ⊥
      later g =
          let c = past (not_nested t h es) 51 (from52 es) 50 (λ z. omega arith) g in
          omega (arith, (past (not_disjoint es) 52 0 50 (λ z. omega arith) c.1).1)

  of_51 : number_by t host s ≡ 51 → Lawful host s × IsTree host s × ¬ IsNested t host s
  unfolding from50 from51 from52
  of_51 e =
      let (l, f) = from_50_on 51 (omega arith) e in
      let b = past (not_tree h es) 50 (from51 t h es) 51 (λ z. omega arith) f in
      let tree = tree_of_test l.2 b.0 in
      let wrong = from_test (not_nested t h es) 51 (from52 es)
      (λ g. omega (arith, (past (not_disjoint es) 52 0 51 (λ z. omega arith) g).1)) b.1 in
      (l, tree, λ nested. true≢false (sym wrong ∙ test_of_nested l.2 tree nested))

  of_52 : number_by t host s ≡ 52 → Lawful host s × IsTree host s × IsNested t host s × ¬ IsDisjoint s
  unfolding from50 from51 from52
  of_52 e =
      let (l, f) = from_50_on 52 (omega arith) e in
      let b = past (not_tree h es) 50 (from51 t h es) 52 (λ z. omega arith) f in
      let c = past (not_nested t h es) 51 (from52 es) 52 (λ z. omega arith) b.1 in
      let tree = tree_of_test l.2 b.0 in
      let wrong = from_test (not_disjoint es) 52 0 (λ z. omega arith) c.1 in
      (l, tree, nested_of_test l.2 tree c.0, λ disjoint. true≢false (sym wrong ∙ test_of_disjoint disjoint))

  of_0 : number_by t host s ≡ 0 → AcceptedBy t host s
  unfolding from50 from51 from52
  of_0 e =
      let (l, f) = lawful_of 0 (λ z. omega arith) (λ z. omega arith) (λ z. z) e in
      let b = past (not_tree h es) 50 (from51 t h es) 0 (λ z. omega arith) f in
      let c = past (not_nested t h es) 51 (from52 es) 0 (λ z. omega arith) b.1 in
      let d = past (not_disjoint es) 52 0 0 (λ z. omega arith) c.1 in
      let tree = tree_of_test l.2 b.0 in
      record {
        host_size = l.0;
        host_edges = l.1;
        passes = l.2;
        tree = tree;
        nested = nested_of_test l.2 tree c.0;
        disjoint = disjoint_of_test d.0;
      }

  judged_by_number : ByNumber t host s (number_by t host s)
  judged_by_number =
      record {
        host_not_30 = at_20;
        off_edges_lem = (of_26, λ p. at_26 p.0 p.1);
        sheet_fails = at_sheet;
        not_tree_lem = (of_50, λ p. at_50 p.0 p.1);
        not_nested_lem = (of_51, λ p. at_51 p.0 p.1 p.2);
        not_disjoint_lem = (of_52, λ p. at_52 p.0 p.1 p.2 p.3);
        accepted_else = (of_0, at_0);
      }

module _ (host s : List ℕ) (bytes : Bytes s) where
  pub audited_by_number : ByNumber OfKind host s (audit_number host s)
  unfolding audit_number
  audited_by_number = judged_by_number OfKind host s bytes

  pub audit_iff : (audit_number host s ≡ 0) ↔ Accepted host s
  audit_iff = audited_by_number.accepted_else

  pub sound_by_number : ByNumber OfSpace host s (sound_number host s)
  unfolding sound_number
  sound_by_number = judged_by_number OfSpace host s bytes

  pub sound_iff : (sound_number host s ≡ 0) ↔ OneOwner host s
  sound_iff = sound_by_number.accepted_else
