-- Who fails an audit, proved: what the finding's laws say of the number, the parties and the places that it has. Assumes nothing.
use Rattle.std.specs.Prelude.{◌≡◌, refl, ◌⊎◌, Bool, true, cond, List, [], ◌∷◌, ℕ, ◌<◌, eqb}
use Rattle.std.proofs.Math.Path.{sym}
use Rattle.std.proofs.Common.{ap, subst, ◌∙◌, inl, inr, true≢false, arith, eqb-true, ne_eqb}
use Rattle.std.proofs.Math.Bool.{false, and-eq-true_iff}
use Rattle.lists.specs.Lists.{◌∈◌, any}
use Rattle.lists.specs.ListLaws.{all_elim}
use Rattle.lists.specs.KeepLaws.{all_of_none, none_of_all, none_of_keep}
use Rattle.board_record.specs.declared.Host.{Host}
use Rattle.board_record.specs.Host.{host_of_part}
use Rattle.sheet_record.specs.Entry.{Entry, bus, bridges}
use Rattle.sheet.specs.declared.Rule as rules
use Rattle.sheet.specs.Sheet.{entries_of, buses_wrong, breaks, sheet_number}
use Rattle.sheet.proofs.SheetLaws.{checked_of_zero}
use Rattle.sheet_above.specs.Parents.{under_host, under_several, leads_to, leaders_of, parent_among}
use Rattle.audit_rule.specs.Audit.{parent_in}
use Rattle.finding.specs.declared.Party.{Party}
use Rattle.finding.specs.declared.Finding.{Finding}
use Rattle.finding.specs.Places.{bus_registers, function_id, nobody}
use Rattle.finding.specs.FirstLaws.{member_of_first}
use Rattle.audit_finding.specs.declared.Check.{Check}
use Rattle.audit_finding.specs.declared.Check.TheVariants.{Whole, HeaderType, Buses, Ids, ReadBacks, Nibbles, Tree, Places, Overlaps}
use Rattle.audit_finding.specs.declared.Relation.{Relation}
use Rattle.audit_finding.specs.declared.Relation.TheVariants.{SameId, SharedBuses, Leads}
use Rattle.audit_finding.specs.Placed.{Numbered, numbered, placed_of}
use Rattle.audit_finding.specs.Fails.{is_met, related, meets_any, fails}
use Rattle.audit_finding.specs.Where.{is_nowhere, party_of, place_in, other_of}
use Rattle.audit_finding.specs.Finding.{under_host as under_host_check, check_of, finding_of}
use Rattle.audit_finding.specs.PlacedLaws.{any_numbered, placed_intro}
use Rattle.audit_finding.specs.FailsLaws.{any_breaks_lem}
use Rattle.audit_finding.specs.FindingLaws.{Told, of_whole, of_record_lem, of_tree, number_told, Names, finding_found}
use Rattle.audit_finding.specs.WhereLaws.{read_back_place, nibble_place, Met, id_other, TreeFault, off_root, no_bridge, two_bridges}
use Rattle.audit_finding.specs.WhereLaws.{out_of_range, siblings, tree_fault, SharedBus, shared_bus, outside_place, overlapping}
use Rattle.request_findings.specs.WhoFails.{IsUnder, Fault, NamesFirst, Meet, OneOfSeveral, Overlap, WhoFails}

-- ## The number and its check

check_under_lem : (c : Check) (n : ℕ) → IsUnder c n → check_of n ≡ c
unfolding check_of under_host_check
check_under_lem Whole n e = absurd e
check_under_lem HeaderType n e = rw e
check_under_lem Buses n e = rw e
check_under_lem Ids n e = rw e
check_under_lem ReadBacks n e = rw e
check_under_lem Nibbles n e = rw e
check_under_lem Tree n e = rw e
check_under_lem Places n e = rw e
check_under_lem Overlaps n e = rw e

-- a check that some number is for is not `Whole`
named_under : (c : Check) (n : ℕ) → IsUnder c n → c ≡ Whole → ⊥
named_under c n u e = subst (λ (d : Check). IsUnder d n) e u

whole_else : (n : ℕ) → (n < 23) ⊎ (n ≡ 26) → check_of n ≡ Whole
unfolding check_of under_host_check
whole_else n (inl l) =
    rw (
      ne_eqb n 24 (λ e. omega (arith, l, e)),
      ne_eqb n 25 (λ e. omega (arith, l, e)),
      ne_eqb n 27 (λ e. omega (arith, l, e)),
      ne_eqb n 28 (λ e. omega (arith, l, e)),
      ne_eqb n 29 (λ e. omega (arith, l, e)),
      ne_eqb n 50 (λ e. omega (arith, l, e)),
      ne_eqb n 51 (λ e. omega (arith, l, e)),
      ne_eqb n 52 (λ e. omega (arith, l, e)),
    )
whole_else n (inr e) = rw e

-- ## The place

module _ (h : Host) (es : List Entry) (r : Numbered) where
  fault_at : (c : Check) → (c ≡ Whole → ⊥) → fails c h es r ≡ true → Fault c h es r (place_in c h es r) (other_of c h es r)
  unfolding place_in other_of
  fault_at Whole named w = absurd (named refl)
  fault_at HeaderType named w = (refl, refl)
  fault_at Buses named w = (refl, refl)
  fault_at Ids named w = (refl, id_other h es r w)
  fault_at ReadBacks named w = (read_back_place h es r w, refl)
  fault_at Nibbles named w = (nibble_place h es r w, refl)
  fault_at Tree named w = tree_fault h es r w
  fault_at Places named w = (outside_place h es r w, refl)
  fault_at Overlaps named w = overlapping es r h w

module _ (host s : List ℕ) where
  abbrev f : Finding
  f = finding_of host s

  abbrev h : Host
  h = host_of_part host

  abbrev es : List Entry
  es = entries_of s

  names_of : (c : Check) → IsUnder c f.number → Names host s c f
  names_of c u =
      let is = check_under_lem c f.number u in
      subst (λ (d : Check). Names host s d f) is
      ((finding_found host s).names_first (λ e. named_under c f.number u (sym is ∙ e)))

  names_first : (c : Check) → IsUnder c f.number → NamesFirst host s c f
  names_first c u =
      let n = names_of c u in
      let r = n.first_failing_lem.one in
      record {
        first_failing_lem = n.first_failing_lem;
        number_is = n.number_is;
        fault =
            subst (λ (place : ℕ). Fault c h es r place f.other) (sym n.place_is)
            (subst (λ (other : Party). Fault c h es r (place_in c h es r) other) (sym n.other_is)
            (fault_at h es r c (named_under c f.number u) n.first_failing_lem.passes));
      }

  first_in : (c : Check) (n : NamesFirst host s c f) → n.first_failing_lem.one ∈ numbered es
  first_in c n = member_of_first (fails c h es) (numbered es) n.first_failing_lem

  -- a finding's party, by its number and its place
  party_of_lem : {number place : ℕ} → f.party.number ≡ number → f.party.place ≡ place → f.party ≡ record { number = number; place = place }
  party_of_lem e g = λ i. record { number = e i; place = g i }

  -- ## 52

  overlap_of : f.number ≡ 52 → Overlap s f
  overlap_of e =
      let n = names_first Overlaps e in
      let r = n.first_failing_lem.one in
      let o = n.fault in
      let one = o.first_met.one in
      let number : f.party.number ≡ one.owner.number = n.number_is ∙ ap (λ (q : Numbered). q.number) (sym o.own) in
      let party : f.party ≡ party_of one = party_of_lem number o.place_is in
      record {
        one = one;
        one_in =
            placed_intro (numbered es) (first_in Overlaps n) (member_of_first (meets_any (numbered es)) (placed_of r) o.first_met);
        least = o.least;
        party_is = party;
        other_is = o.other_is;
        two_parties =
            λ same.
            let both : party_of o.least.one ≡ party_of one = sym o.other_is ∙ sym same ∙ party in
            o.two_places (ap (λ (p : Party). p.number) both) (ap (λ (p : Party). p.place) both);
        one_bus = o.one_bus;
        one_space = o.shares.one_space;
        address = o.shares.address;
        in_one = o.shares.in_first;
        in_other = o.shares.in_second;
      }

  -- ## Two records

  meet_of : (c : Check) (n : NamesFirst host s c f) (relation : Relation) (How : Entry → Entry → Type 0) (place other_place : ℕ)
      (other : Party) → f.party.place ≡ place → f.other ≡ other → (m : Met relation es n.first_failing_lem.one other other_place)
      → How n.first_failing_lem.one.entry m.least.one.entry → Meet relation How s place other_place f
  meet_of c n relation How place other_place other at is m how =
      record {
        one = n.first_failing_lem.one;
        one_in = first_in c n;
        least = m.least;
        party_is = party_of_lem n.number_is at;
        other_is = is ∙ m.other_is;
        two_records = λ e. m.two_records (sym e);
        how = how;
      }

  one_id_of : f.number ≡ 28 → Meet SameId (λ e g. e.id ≡ g.id) s function_id function_id f
  one_id_of e =
      let n = names_first Ids e in
      let m = n.fault.1 in
      meet_of Ids n SameId (λ d g. d.id ≡ g.id) function_id function_id f.other n.fault.0 refl m
      (sym (eqb-true m.least.one.entry.id n.first_failing_lem.one.entry.id m.is_related))

  -- a sheet that is refused by 50 passes 27
  passes_50 : {k : ℕ} → k ≡ 50 → Told host s k → sheet_number s ≡ 0
  passes_50 e (of_whole w small) = absurd (omega (arith, e, small))
  passes_50 e (of_record_lem framed some small) = absurd (omega (arith, e, small))
  passes_50 e (of_tree size passes some large) = passes

  buses_right : sheet_number s ≡ 0 → {r : Numbered} → r ∈ numbered es → buses_wrong r.entry ≡ false
  unfolding breaks
  buses_right z m =
      let none : any (λ q. breaks rules.TheVariants.Buses q.entry) (numbered es) ≡ false =
      any_numbered (breaks rules.TheVariants.Buses) 1 es ∙ sym (any_breaks_lem rules.TheVariants.Buses es) ∙ (checked_of_zero s z).buses in
      all_elim _ (numbered es) (all_of_none (λ q. breaks rules.TheVariants.Buses q.entry) (numbered es) none) m

  -- who has no parent though some bridge leads to its bus has several
  no_leader : (b : ℕ) → leaders_of es b ≡ [] → {q : Numbered} → q ∈ numbered es → leads_to b q.entry ≡ false
  no_leader b e m =
      let none : any (λ x. leads_to b x.entry) (numbered es) ≡ false =
      any_numbered (leads_to b) 1 es ∙ none_of_all (leads_to b) es (none_of_keep (leads_to b) es e) in
      all_elim _ (numbered es) (all_of_none (λ x. leads_to b x.entry) (numbered es) none) m

  several_of : (e : Entry) (q : Numbered) → q ∈ numbered es → is_nowhere (parent_in h es e) ≡ true → leads_to (bus e) q.entry ≡ true
      → parent_in h es e ≡ under_several
  several_of e q m none leads = go (eqb (bus e) h.first_bus) none
    where
      among : (ls : List Entry) → leaders_of es (bus e) ≡ ls → is_nowhere (parent_among ls) ≡ true → parent_among ls ≡ under_several
      among [] is w = absurd (true≢false (sym leads ∙ no_leader (bus e) is m))
      among (b ∷ []) is w = absurd (true≢false (sym w))
      among (b ∷ c ∷ bs) is w = refl

      go : (t : Bool) → is_nowhere (cond t under_host (parent_among (leaders_of es (bus e)))) ≡ true
          → cond t under_host (parent_among (leaders_of es (bus e))) ≡ under_several
      go true w = absurd (true≢false (sym w))
      go false w = among (leaders_of es (bus e)) refl w

  one_of_several : (e : Entry) (q : Numbered) → q ∈ numbered es → is_nowhere (parent_in h es e) ≡ true → related Leads e q.entry ≡ true
      → OneOfSeveral h es e q.entry
  one_of_several e q m none leads =
      let both = (and-eq-true_iff (bridges q.entry) (eqb q.entry.secondary (bus e))).0 leads in
      (several_of e q m none leads, both.0, eqb-true q.entry.secondary (bus e) both.1)

  abbrev Pair : Type 0
  Pair = Meet SharedBuses SharedBus s bus_registers bus_registers f ⊎ Meet Leads (OneOfSeveral h es) s function_id bus_registers f

  one_bus_of : f.number ≡ 50 → (f.other ≡ nobody → ⊥) → Pair
  one_bus_of e named =
      let n = names_first Tree e in
      go n f.party.place f.other refl refl n.fault
    where
      passes : sheet_number s ≡ 0
      passes = passes_50 (sym (finding_found host s).number_is ∙ e) (number_told host s)

      go : (n : NamesFirst host s Tree f) (place : ℕ) (other : Party) → f.party.place ≡ place → f.other ≡ other
          → TreeFault h es n.first_failing_lem.one place other → Pair
      go n place other at is (off_root off) = absurd (named is)
      go n place other at is (no_bridge none led) = absurd (named is)
      go n place other at is (two_bridges none m) =
          let r = n.first_failing_lem.one in
          let q = m.least.one in
          let in_sheet = member_of_first (is_met Leads r) (numbered es) m.least in
          inr
          (meet_of Tree n Leads (OneOfSeveral h es) function_id bus_registers other at is m
          (one_of_several r.entry q in_sheet none m.is_related))
      go n place other at is (out_of_range none up) = absurd (named is)
      go n place other at is (siblings m) =
          let r = n.first_failing_lem.one in
          let q = m.least.one in
          let in_sheet = member_of_first (is_met SharedBuses r) (numbered es) m.least in
          inl
          (meet_of Tree n SharedBuses SharedBus bus_registers bus_registers other at is m
          (shared_bus r.entry q.entry (buses_right passes (first_in Tree n)) (buses_right passes in_sheet) m.is_related))

pub who_fails : WhoFails
who_fails =
    record {
      number = λ host s. (finding_found host s).number_is;
      first_failing_lem = names_first;
      nobody_else = λ host s small. (finding_found host s).names_nobody (whole_else (finding_of host s).number small);
      overlap = overlap_of;
      one_id = one_id_of;
      one_bus = one_bus_of;
    }
