-- The searches of 52, turn by turn, in the words of the code. Assumes nothing.
use Rattle.std.specs.Prelude.{◌≡◌, refl, Bool, cond, not, ◌&&◌, ℕ, ◌+◌, ◌≤◌, ◌<◌, length, get_or, eqb}
use Rattle.std.proofs.Common.{sym, ◌∙◌, arith}
use Rattle.std.proofs.Math.Path.{ap}
use Rattle.std.proofs.Math.Bool.{true, false, and-false, and-true}
use mathlib.Core.List.{List, [], ◌∷◌, flat_map}
use Rattle.std.proofs.lemmas.Option.{same_Some}
use borrow.Author.Tests.{eq-eqb, ne_eqb, eqb-true, eqb-false}
use Rattle.lists.specs.Lists.{All}
use Rattle.lists.specs.ListLaws.{all_imp, all_elim}
use Rattle.lists.specs.KeepLaws.{none_of_all}
use Rattle.board_record.specs.declared.Host.{Host}
use Rattle.walk.specs.Ranges.{Range}
use Rattle.sheet_record.specs.Entry.{Entry, entry_of, bus_of, bus}
use Rattle.sheet.specs.Sheet.{Framed, entries_of, part_at}
use Rattle.sheet_ranges.specs.SearchLaws.{bus_of_entry}
use Rattle.sheet_ranges.specs.Ranges.{overlap}
use Rattle.finding.specs.declared.Party.{Party}
use Rattle.finding.specs.declared.Wrong.{Wrong}
use Rattle.finding.specs.Places.{Spot, right, wrong_at, nobody}
use Rattle.finding.specs.First.{first}
use Rattle.finding.specs.FirstLaws.{first_of_any, first_is, first_nil, first_none, first_append, first_agree}
use Rattle.finding.specs.FirstLaws.{member_of_first}
use Rattle.audit_finding.specs.declared.Check.TheVariants.{Overlaps}
use Rattle.audit_finding.specs.Placed.{Numbered, numbered, Placed, placed_at, placed_of, placed_in}
use Rattle.audit_finding.specs.PlacedLaws.{owners_placed, placed_elim}
use Rattle.audit_finding.specs.Fails.{meets, meets_any, fails}
use Rattle.audit_finding.specs.FailsLaws.{numbers_some}
use Rattle.audit_finding.specs.Where.{party_of, least_meeting, place_in, other_of}
use Rattle.audit_finding.specs.Spots.{spot_at, spot_first, record_of, records_from, records_past, records_left}
use Rattle.audit_finding.specs.Zipped.{places_of}
use Rattle.overlap_where.specs.Meeting.{meets_here, met_at, met_in}

-- ## One range and another

module _ (x y : Range) (same : Bool) (place q : ℕ) (b : Bool) (e : b ≡ overlap x y) where
  pub apart_here : b ≡ false → false ≡ meets_here x same place q y
  apart_here o = sym (rw (sym e ∙ o) (and-false (not (same && eqb q place))))

  pub overlap_here : b ≡ true → (p : ℕ) → p ≡ q → not (same && eqb p place) ≡ meets_here x same place q y
  overlap_here o p is = rw (is, sym e ∙ o) (sym (and-true (not (same && eqb q place))))

-- ## A record: r is the owner, o the other record

module _ (r o : Numbered) (place : ℕ) (x : Range) where
  abbrev p : Placed
  p = placed_at r place x

  pub met_elsewhere : (bus r.entry ≡ bus o.entry → ⊥) → right ≡ met_at p o
  met_elsewhere d =
      sym (first_none (meets p) (λ q. wrong_at q.place nobody) right (placed_of o)
      (none_of_all (meets p) (placed_of o) (all_imp _ _ (placed_of o) (owners_placed o) (λ q own. apart q own))))
    where
      apart : (q : Placed) → q.owner ≡ o → meets p q ≡ false
      apart q own =
          let two : eqb (bus r.entry) (bus q.owner.entry) ≡ false =
          ne_eqb (bus r.entry) (bus q.owner.entry) (λ z. d (z ∙ ap (λ (m : Numbered). bus m.entry) own)) in
          rw two

  pub met_beside : bus r.entry ≡ bus o.entry → (same : Bool) → same ≡ eqb o.number r.number → met_in x same place o ≡ met_at p o
  met_beside one same is =
      first_agree (λ q. meets_here x same place q.place q.range) (meets p) (λ q. wrong_at q.place nobody) right (placed_of o)
      (all_imp _ _ (placed_of o) (owners_placed o) agree)
    where
      agree : (q : Placed) → q.owner ≡ o → meets_here x same place q.place q.range ≡ meets p q
      agree q own =
          let on : eqb (bus r.entry) (bus q.owner.entry) ≡ true =
          eq-eqb (bus r.entry) (bus q.owner.entry) (one ∙ sym (ap (λ (m : Numbered). bus m.entry) own)) in
          let number : same ≡ eqb q.owner.number r.number =
          is ∙ sym (ap (λ (m : Numbered). eqb m.number r.number) own) in
          rw (on, number)

-- ## The least that is met

-- of the places of one record, and then of the rest
told_right : (t : Placed → Bool) (later : Party) (qs : List Placed) → first t (λ q. wrong_at q.place nobody) right qs ≡ right
    → first t party_of later qs ≡ later
unfolding first
told_right t later [] e = refl
told_right t later (q ∷ qs) e = go (t q) e (λ k. told_right t later qs k)
  where
    go : (b : Bool) → cond b (wrong_at q.place nobody) (first t (λ q. wrong_at q.place nobody) right qs) ≡ right
        → (first t (λ q. wrong_at q.place nobody) right qs ≡ right → first t party_of later qs ≡ later)
        → cond b (party_of q) (first t party_of later qs) ≡ later
    go true k on = absurd (let z : ◌≡◌ {A = ℕ} 0 1 = cc k in omega arith)
    go false k on = on k

told_wrong : (t : Placed → Bool) (later : Party) (r : Numbered) (place : ℕ) (other : Party) (qs : List Placed) → All (λ q. q.owner ≡ r) qs
    → first t (λ q. wrong_at q.place nobody) right qs ≡ wrong_at place other
    → first t party_of later qs ≡ record { number = r.number; place = place }
unfolding first
told_wrong t later r place other [] own e = absurd (let z : ◌≡◌ {A = ℕ} 0 1 = cc e in omega arith)
told_wrong t later r place other (q ∷ qs) own e = go (t q) e (λ k. told_wrong t later r place other qs own.1 k)
  where
    go : (b : Bool) → cond b (wrong_at q.place nobody) (first t (λ q. wrong_at q.place nobody) right qs) ≡ wrong_at place other
        → (first t (λ q. wrong_at q.place nobody) right qs ≡ wrong_at place other
        → first t party_of later qs ≡ record { number = r.number; place = place })
        → cond b (party_of q) (first t party_of later qs) ≡ record { number = r.number; place = place }
    go true k on =
        let at : q.place ≡ place = ap (λ (w : Wrong). w.place) (same_Some _ _ k) in
        λ i. record { number = (own.0 i).number; place = at i }
    go false k on = on k

-- of a sheet's records from the one at index i on
abbrev pub least_from : List ℕ → Placed → ℕ → Party
least_from s p i = first (meets p) party_of nobody (placed_in (records_from s i))

module _ (s : List ℕ) (f : Framed 1 s) (n j : ℕ) (count : n ≡ length (entries_of s)) (p : Placed) where
  pub least_past : n ≤ j → least_from s p j ≡ nobody
  unfolding placed_in flat_map
  least_past h = ap (λ (rs : List Numbered). first (meets p) party_of nobody (placed_in rs)) (records_past s f n j count h)
      ∙ first_nil (meets p) party_of nobody

  -- x is what is met in record j
  module _ (h : j < n) (x : Spot) (is : x ≡ met_at p (record_of s j)) where
    least_more : least_from s p j ≡ first (meets p) party_of (least_from s p (j + 1)) (placed_of (record_of s j))
    unfolding placed_in flat_map
    least_more =
        ap (λ (rs : List Numbered). first (meets p) party_of nobody (placed_in rs)) (records_left s f n j count h)
        ∙ first_append (meets p) party_of nobody (placed_of (record_of s j)) (placed_in (records_from s (j + 1)))

    pub least_miss : x ≡ right → least_from s p j ≡ least_from s p (j + 1)
    least_miss e = least_more ∙ told_right (meets p) (least_from s p (j + 1)) (placed_of (record_of s j)) (sym is ∙ e)

    pub least_hit : (place : ℕ) (other : Party) → x ≡ wrong_at place other → least_from s p j ≡ record { number = j + 1; place = place }
    least_hit place other e =
        least_more
        ∙ told_wrong (meets p) (least_from s p (j + 1)) (record_of s j) place other (placed_of (record_of s j)) (owners_placed (record_of s j))
        (sym is ∙ e)

-- ## One record under 52: it is wrong where one of its BARs and open windows meets another

module _ (es : List Entry) where
  abbrev all : List Numbered
  all = numbered es

  -- a party is one of the sheet's records
  numbered_met : (p : Placed) (b : Bool) → meets_any (numbered es) p ≡ b → not (eqb (least_meeting (numbered es) p).number 0) ≡ b
  unfolding least_meeting
  numbered_met p true e =
      let f = first_of_any (meets p) (placed_in all) e in
      let least = first_is (meets p) party_of nobody (placed_in all) f in
      let (r, in_sheet, in_record) = placed_elim all (member_of_first (meets p) (placed_in all) f) in
      let own : f.one.owner ≡ r = all_elim _ (placed_of r) (owners_placed r) in_record in
      let some : 0 < r.number = all_elim _ all (numbers_some es) in_sheet in
      let number : (first (meets p) party_of nobody (placed_in all)).number ≡ r.number =
      ap (λ (q : Party). q.number) least ∙ ap (λ (m : Numbered). m.number) own in
      rw (number, ne_eqb r.number 0 (λ z. omega (arith, z, some)))
  numbered_met p false e = rw (first_none (meets p) party_of nobody (placed_in all) e)

  meets_any_is : (p : Placed) → not (eqb (least_meeting (numbered es) p).number 0) ≡ meets_any (numbered es) p
  meets_any_is p = numbered_met p (meets_any (numbered es) p) refl

  -- o is the least that p meets
  module _ (p : Placed) (o : Party) (is : o ≡ least_meeting (numbered es) p) where
    number_is : (least_meeting (numbered es) p).number ≡ o.number
    number_is = ap (λ (q : Party). q.number) (sym is)

    pub meets_number : (o.number ≡ 0 → ⊥) → meets_any (numbered es) p ≡ true
    meets_number d = sym (meets_any_is p) ∙ rw (number_is, ne_eqb o.number 0 d)

    pub meets_none : o.number ≡ 0 → meets_any (numbered es) p ≡ false
    meets_none z = sym (meets_any_is p) ∙ rw (number_is ∙ z)

  abbrev pub say : Placed → Spot
  say p = wrong_at p.place (least_meeting (numbered es) p)

  -- x is the range at `place` of r
  pub told_other : (r : Numbered) (place : ℕ) (x : Range) (o : Party) → o ≡ least_meeting (numbered es) (placed_at r place x)
      → wrong_at place o ≡ say (placed_at r place x)
  told_other r place x o is = ap (wrong_at place) is

  pub spot_is : (h : Host) (r : Numbered) → first (meets_any (numbered es)) say right (placed_of r) ≡ spot_at Overlaps h es r
  unfolding spot_at fails place_in other_of
  spot_is h r = spot_first (meets_any (numbered es)) (λ p. p.place) (least_meeting (numbered es)) (placed_of r)

-- ## Records by their indexes

-- p is the record's part, b its bus
pub bus_at : (s : List ℕ) (k : ℕ) (p : List ℕ) → p ≡ part_at s k → (b : ℕ) → b ≡ bus_of p → b ≡ bus (entry_of (part_at s k))
bus_at s k p is b own = own ∙ bus_of_entry p ∙ ap (λ (q : List ℕ). bus (entry_of q)) is

pub same_index : (j k : ℕ) → eqb j k ≡ eqb (j + 1) (k + 1)
same_index j k = go (eqb j k) refl
  where
    go : (t : Bool) → eqb j k ≡ t → t ≡ eqb (j + 1) (k + 1)
    go true e = sym (eq-eqb (j + 1) (k + 1) (omega (arith, eqb-true j k e)))
    go false e = sym (ne_eqb (j + 1) (k + 1) (λ z. eqb-false j k e (omega (arith, z))))

-- x is the range at `place` of record k, q the part of record j
module _ (s : List ℕ) (k j : ℕ) (place : ℕ) (x : Range) (p q : List ℕ) (is : p ≡ part_at s k) (other : q ≡ part_at s j) (b d : ℕ)
    (own : b ≡ bus_of p) (also : d ≡ bus_of q) where
  pub other_bus : (b ≡ d → ⊥) → right ≡ met_at (placed_at (record_of s k) place x) (record_of s j)
  other_bus e = met_elsewhere (record_of s k) (record_of s j) place x (λ z. e (bus_at s k p is b own ∙ z ∙ sym (bus_at s j q other d also)))

  pub one_bus : b ≡ d → (m : Spot)
      → ((number : ℕ) → m ≡ met_in x (eqb j k) place (record { number = number; entry = entry_of q }))
      → m ≡ met_at (placed_at (record_of s k) place x) (record_of s j)
  one_bus e m f =
      f (j + 1)
      ∙ ap (λ (y : List ℕ). met_in x (eqb j k) place (record { number = j + 1; entry = entry_of y })) other
      ∙ met_beside (record_of s k) (record_of s j) place x (sym (bus_at s k p is b own) ∙ e ∙ bus_at s j q other d also) (eqb j k)
      (same_index j k)

-- the place of the range at index i, read of the record's part
pub place_at : (s : List ℕ) (k : ℕ) (p : List ℕ) → p ≡ part_at s k → (i place : ℕ) → place ≡ get_or (places_of (entry_of p)) i 0
    → place ≡ get_or (places_of (entry_of (part_at s k))) i 0
place_at s k p is i place e = e ∙ ap (λ (q : List ℕ). get_or (places_of (entry_of q)) i 0) is
