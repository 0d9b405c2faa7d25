-- The number is the audit's; where it is about records, the one named is the first that fails its check, and else nobody is named. Assumes
-- nothing.
use Rattle.std.specs.Prelude.{◌≡◌, Bool, true, false, cond, List, ℕ, ◌≤◌, ◌<◌, length, get_or, drop, eqb, ltb}
use Rattle.std.proofs.Math.Path.{refl, ap}
use Rattle.std.proofs.Common.{◌∙◌, arith}
use borrow.Author.Tests.{eqb-true, eqb-false}
use Rattle.lists.specs.Lists.{any}
use Rattle.lists.specs.KeepLaws.{none_of_all}
use Rattle.lists.specs.ListLaws.{all_of}
use Rattle.records.specs.Limits.{most_functions}
use Rattle.board_record.specs.declared.Host.{Host}
use Rattle.board_record.specs.Host.{host_length, host_of_part, host_wrong}
use Rattle.sheet_record.specs.Entry.{Entry}
use Rattle.sheet.specs.declared.Rule as rules
use Rattle.sheet.specs.Sheet.{is_framed, Framed, entries_of, any_breaks, id_twice, sheet_number}
use Rattle.sheet.specs.Sheet.{from20, from21, from22, from24, from25, from27, from28, from29}
use Rattle.audit_rule.specs.declared.Nesting.TheVariants.{OfKind}
use Rattle.audit_rule.specs.Audit.{not_tree, not_nested, not_disjoint, from52, from51, from50, from_sheet, from26, number_by, audit_number}
use Rattle.finding.specs.declared.Parties.{Parties}
use Rattle.finding.specs.declared.Finding.{Finding}
use Rattle.finding.specs.Places.{nobody, nobodies}
use Rattle.finding.specs.FirstLaws.{FirstOf, first_of_any, first_is, first_none}
use Rattle.audit_finding.specs.declared.Check.{Check}
use Rattle.audit_finding.specs.declared.Check.TheVariants.{Whole}
use Rattle.audit_finding.specs.Placed.{numbered}
use Rattle.audit_finding.specs.Fails.{fails}
use Rattle.audit_finding.specs.Where.{place_in, other_of}
use Rattle.audit_finding.specs.Finding.{under_host, check_of, named, first_failing, found, finding_of}
use Rattle.audit_finding.specs.FailsLaws.{breaks_some, ids_some, tree_some, places_some, not_disjoint_some}

-- ## What a number says

module _ (host s : List ℕ) where
  abbrev h : Host
  h = host_of_part host

  abbrev es : List Entry
  es = entries_of s

  -- some record fails the check that the number is about
  abbrev pub SomeFails : ℕ → Type 0
  SomeFails n = any (fails (check_of n) h es) (numbered es) ≡ true

  -- the sheet's own numbers come of a sheet whose records can be read, 50 to 52 of one that passes
  pub data Told : ℕ → Type 0 where
    of_whole : {n : ℕ} → check_of n ≡ Whole → n < 50 → Told n
    of_record_lem : {n : ℕ} → Framed 1 s → SomeFails n → n < 50 → Told n
    of_tree : {n : ℕ} → length host ≡ host_length → sheet_number s ≡ 0 → SomeFails n → 50 ≤ n → Told n

  either : (b : Bool) (n m : ℕ) → (b ≡ true → Told n) → (b ≡ false → Told m) → Told (cond b n m)
  either true n m f g = f refl
  either false n m f g = g refl

  whole_20 : Told 20
  unfolding check_of under_host
  whole_20 = of_whole {n = 20} refl (omega arith)

  records_told : Framed 1 s → Told (from24 es)
  unfolding from24 from27 from28 from25 from29 check_of under_host fails
  records_told f =
      either (any_breaks rules.TheVariants.HeaderType es) 24 (from27 es)
      (λ w. of_record_lem {n = 24} f (breaks_some rules.TheVariants.HeaderType es w) (omega arith)) (λ _.
      either (any_breaks rules.TheVariants.Buses es) 27 (from28 es)
      (λ w. of_record_lem {n = 27} f (breaks_some rules.TheVariants.Buses es w) (omega arith)) (λ _.
      either (id_twice es) 28 (from25 es) (λ w. of_record_lem {n = 28} f (ids_some h es w) (omega arith)) (λ _.
      either (any_breaks rules.TheVariants.ReadBacks es) 25 (from29 es)
      (λ w. of_record_lem {n = 25} f (breaks_some rules.TheVariants.ReadBacks es w) (omega arith)) (λ _.
      either (any_breaks rules.TheVariants.Nibbles es) 29 0
      (λ w. of_record_lem {n = 29} f (breaks_some rules.TheVariants.Nibbles es w) (omega arith)) (λ _. of_whole {n = 0} refl (omega arith))))))

  sheet_told : Told (sheet_number s)
  unfolding sheet_number from21 from20 from22 check_of under_host
  sheet_told =
      either (eqb (length s) 0) 20 (from21 s) (λ _. whole_20) (λ some.
      either (eqb (get_or s 0 0) 1) (from20 s) 21
      (λ _.
      either (is_framed (drop 1 s)) (from22 es) 20
      (λ framed.
      either (ltb most_functions (length es)) 22 (from24 es) (λ _. of_whole {n = 22} refl (omega arith)) (λ _.
      records_told (record { inside = omega (arith, eqb-false (length s) 0 some); sized = framed })))
      (λ _. whole_20))
      (λ _. of_whole {n = 21} refl (omega arith)))

  under_told : length host ≡ host_length → sheet_number s ≡ 0 → Told (from50 OfKind h es)
  unfolding from50 from51 from52 check_of under_host
  under_told size passes =
      either (not_tree h es) 50 (from51 OfKind h es) (λ w. of_tree {n = 50} size passes (tree_some h es w) (omega arith)) (λ _.
      either (not_nested OfKind h es) 51 (from52 es) (λ w. of_tree {n = 51} size passes (places_some h es w) (omega arith)) (λ _.
      either (not_disjoint es) 52 0 (λ w. of_tree {n = 52} size passes (not_disjoint_some h es w) (omega arith))
      (λ _. of_whole {n = 0} refl (omega arith))))

  pub number_told : Told (audit_number host s)
  unfolding audit_number number_by from26 from_sheet check_of under_host
  number_told =
      either (eqb (length host) host_length) (from26 OfKind h s) 20
      (λ size.
      either (host_wrong h) 26 (from_sheet OfKind h s) (λ _. of_whole {n = 26} refl (omega arith)) (λ _.
      either (eqb (sheet_number s) 0) (from50 OfKind h es) (sheet_number s)
      (λ passes. under_told (eqb-true (length host) host_length size) (eqb-true (sheet_number s) 0 passes)) (λ _. sheet_told)))
      (λ _. whole_20)

-- ## The finding

-- the first record that fails the check: it does, and none before it
pub record Names (host s : List ℕ) (c : Check) (f : Finding) : Type 0 where
  pub first_failing_lem : FirstOf (fails c (host_of_part host) (entries_of s)) (numbered (entries_of s))
  pub number_is : f.party.number ≡ first_failing_lem.one.number
  pub place_is : f.party.place ≡ place_in c (host_of_part host) (entries_of s) first_failing_lem.one
  pub other_is : f.other ≡ other_of c (host_of_part host) (entries_of s) first_failing_lem.one

pub record Found (host s : List ℕ) (f : Finding) : Type 0 where
  pub number_is : f.number ≡ audit_number host s
  pub names_first : (check_of f.number ≡ Whole → ⊥) → Names host s (check_of f.number) f
  pub names_nobody : check_of f.number ≡ Whole → (f.party ≡ nobody) × (f.other ≡ nobody)

-- no record fails where the number is not about one
pub whole_nobody : (h : Host) (es : List Entry) → first_failing Whole h es ≡ nobodies
unfolding first_failing fails
whole_nobody h es =
    first_none (λ r. false) _ nobodies (numbered es)
    (none_of_all (λ r. false) (numbered es) (all_of (λ r. false ≡ false) (λ r. refl) (numbered es)))

module _ (host s : List ℕ) (n : ℕ) where
  abbrev f : Finding
  f = found n (first_failing (check_of n) (host_of_part host) (entries_of s))

  names_of_some : SomeFails host s n → Names host s (check_of n) f
  unfolding first_failing
  names_of_some some =
      let c = check_of n in
      let h = host_of_part host in
      let es = entries_of s in
      let one = first_of_any (fails c h es) (numbered es) some in
      let is = first_is (fails c h es) (named c h es) nobodies (numbered es) one in
      record {
        first_failing_lem = one;
        number_is = ap (λ (p : Parties). p.party.number) is;
        place_is = ap (λ (p : Parties). p.party.place) is;
        other_is = ap (λ (p : Parties). p.other) is;
      }

  nobody_of_whole : check_of n ≡ Whole → first_failing (check_of n) (host_of_part host) (entries_of s) ≡ nobodies
  nobody_of_whole w =
      ap (λ (c : Check). first_failing c (host_of_part host) (entries_of s)) w ∙ whole_nobody (host_of_part host) (entries_of s)

  found_nobody : check_of n ≡ Whole → (f.party ≡ nobody) × (f.other ≡ nobody)
  found_nobody w = (ap (λ (p : Parties). p.party) (nobody_of_whole w), ap (λ (p : Parties). p.other) (nobody_of_whole w))

  names_told : Told host s n → (check_of n ≡ Whole → ⊥) → Names host s (check_of n) f
  names_told (of_whole w small) named = absurd (named w)
  names_told (of_record_lem framed some small) named = names_of_some some
  names_told (of_tree size passes some large) named = names_of_some some

pub finding_found : (host s : List ℕ) → Found host s (finding_of host s)
unfolding finding_of
finding_found host s =
    let n = audit_number host s in
    record { number_is = refl; names_first = names_told host s n (number_told host s); names_nobody = found_nobody host s n }
