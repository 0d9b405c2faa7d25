-- Where the audit's test over all records fails, some record fails it. Assumes nothing.
use Rattle.std.specs.Prelude.{◌≡◌, Bool, ◌&&◌, ◌||◌, ℕ, ◌<◌, eqb}
use Rattle.std.proofs.Math.Path.{refl, sym}
use Rattle.std.proofs.Common.{ap, ◌∙◌, true≢false, arith}
use Rattle.std.proofs.Math.Bool.{true, false}
use mathlib.Core.List.{List, [], ◌∷◌, map}
use borrow.Author.Tests.{eq-eqb, ne_eqb}
use Rattle.lists.specs.Lists.{◌∈◌, All, Pairwise, any}
use Rattle.arith.specs.BoolLaws.{false_of_or}
use Rattle.lists.specs.ListLaws.{all_imp, all_elim, all_intro, all_map_intro, pairwise_imp_members, pairwise_map}
use Rattle.lists.specs.KeepLaws.{all_of_none, none_of_all}
use Rattle.board_record.specs.declared.Host.{Host}
use Rattle.walk.specs.Ranges.{Range}
use Rattle.sheet_record.specs.Entry.{Entry, bus}
use Rattle.sheet.specs.declared.Rule.{Rule}
use Rattle.sheet.specs.Sheet.{breaks, any_breaks, has_id, id_twice}
use Rattle.sheet_ranges.specs.Ranges.{ranges_of, overlap}
use Rattle.audit_rule.specs.declared.Nesting.TheVariants.{OfKind}
use Rattle.audit_rule.specs.Audit.{any_pair, first_elsewhere, way_up_wrong, not_tree, outside_above, not_nested, any_overlap}
use Rattle.audit_rule.specs.Audit.{overlap_on_bus, not_disjoint}
use Rattle.audit_rule.proofs.PairLaws.{none_of_pairwise}
use Rattle.finding.specs.FirstLaws.{first_of_any, first_is, first_none, member_of_first}
use Rattle.audit_finding.specs.declared.Check.TheVariants.{Ids, Tree, Places, Overlaps}
use Rattle.audit_finding.specs.declared.Relation.{Relation}
use Rattle.audit_finding.specs.declared.Relation.TheVariants.{SameId, SharedBuses}
use Rattle.audit_finding.specs.Placed.{Numbered, numbered_from, numbered, Placed, placed_of, placed_in}
use Rattle.audit_finding.specs.Fails.{related, is_met, least_met, meets_one, meets, meets_any, starts_elsewhere, fails}
use Rattle.audit_finding.specs.PlacedLaws.{entry_in, entries_numbered, any_numbered, numbers_from, numbers_rise, Rising, range_in}
use Rattle.audit_finding.specs.PlacedLaws.{ranges_placed, owners_placed, places_rise, PlacesRise, placed_intro}

-- a test that does not fail where none of the records does
true_of_some : (b c : Bool) → (c ≡ false → b ≡ false) → b ≡ true → c ≡ true
true_of_some b true f e = refl
true_of_some b false f e = absurd (true≢false (sym e ∙ f refl))

-- ## 24, 27, 25 and 29

pub any_breaks_lem : (rule : Rule) (es : List Entry) → any_breaks rule es ≡ any (breaks rule) es
unfolding any_breaks any
any_breaks_lem rule [] = refl
any_breaks_lem rule (e ∷ es) = ap (λ (b : Bool). breaks rule e || b) (any_breaks_lem rule es)

pub breaks_some : (rule : Rule) (es : List Entry) → any_breaks rule es ≡ true → any (λ r. breaks rule r.entry) (numbered es) ≡ true
breaks_some rule es e = any_numbered (breaks rule) 1 es ∙ sym (any_breaks_lem rule es) ∙ e

-- ## Two records in a relation

-- records have numbers from 1 on
pub numbers_some : (es : List Entry) → All (λ r. 0 < r.number) (numbered es)
numbers_some es = all_imp _ _ (numbered es) (numbers_from 1 es) (λ r h. omega (arith, h))

module _ (relation : Relation) (es : List Entry) (r : Numbered) where
  pub meets_one_is : meets_one relation (numbered es) r ≡ any (is_met relation r) (numbered es)
  unfolding least_met
  meets_one_is = go (any (is_met relation r) (numbered es)) refl
    where
      go : (b : Bool) → any (is_met relation r) (numbered es) ≡ b → meets_one relation (numbered es) r ≡ b
      go true e =
          let f = first_of_any (is_met relation r) (numbered es) e in
          let least = first_is (is_met relation r) (λ q. q.number) 0 (numbered es) f in
          let some = all_elim _ (numbered es) (numbers_some es) (member_of_first (is_met relation r) (numbered es) f) in
          rw (least, ne_eqb f.one.number 0 (λ z. omega (arith, z, some)))
      go false e = rw (first_none (is_met relation r) (λ q. q.number) 0 (numbered es) e)

-- no record meets another: no two stand in the relation
module _ (relation : Relation) (es : List Entry) (none : All (λ r. meets_one relation (numbered es) r ≡ false) (numbered es)) where
  unrelated : (r q : Numbered) → r ∈ numbered es → q ∈ numbered es → Rising r q → related relation r.entry q.entry ≡ false
  unrelated r q m n l =
      let alone = sym (meets_one_is relation es r) ∙ all_elim _ (numbered es) none m in
      let each : is_met relation r q ≡ false = all_elim _ (numbered es) (all_of_none (is_met relation r) (numbered es) alone) n in
      rw (ne_eqb q.number r.number (λ e. omega (arith, e, l))) at each

  pub pairs_none : any_pair (related relation) es ≡ false
  pairs_none =
      ap (any_pair (related relation)) (sym (entries_numbered 1 es))
      ∙ none_of_pairwise (related relation) (map entry_in (numbered es))
      (pairwise_map (λ e f. related relation e f ≡ false) entry_in (numbered es)
      (pairwise_imp_members Rising _ (numbered es) unrelated (numbers_rise 1 es)))

-- ## 28

id_among : (id : ℕ) (es : List Entry) → has_id id es ≡ any (λ f. eqb f.id id) es
unfolding has_id any
id_among id [] = refl
id_among id (e ∷ es) = ap (λ (b : Bool). eqb e.id id || b) (id_among id es)

ids_paired : (es : List Entry) → id_twice es ≡ any_pair (related SameId) es
unfolding id_twice any_pair
ids_paired [] = refl
ids_paired (e ∷ es) = rw (id_among e.id es, ids_paired es)

-- ## Ranges of two records, and those of all

no_not_disjoint : (ps os : List Placed) → ((p o : Placed) → p ∈ ps → o ∈ os → overlap p.range o.range ≡ false)
    → any_overlap (map range_in ps) (map range_in os) ≡ false
no_not_disjoint ps os f =
    none_of_all (λ x. any (overlap x) (map range_in os)) (map range_in ps)
    (all_map_intro _ range_in ps (λ p m.
    none_of_all (overlap p.range) (map range_in os) (all_map_intro _ range_in os (λ o n. f p o m n))))

not_disjoint_none : (rs : List Numbered) → All (λ r. any_pair overlap (ranges_of r.entry) ≡ false) rs
    → Pairwise (λ r q. overlap_on_bus r.entry q.entry ≡ false) rs → not_disjoint (map entry_in rs) ≡ false
unfolding not_disjoint
not_disjoint_none [] own pairs = refl
not_disjoint_none (r ∷ rs) own pairs =
    rw (
      own.0,
      none_of_all (overlap_on_bus r.entry) (map entry_in rs)
          (all_map_intro _ entry_in rs (λ q m. all_elim _ rs pairs.0 m)),
    )
    (not_disjoint_none rs own.1 pairs.1)

module _ (h : Host) (es : List Entry) where
  pub ids_some : id_twice es ≡ true → any (fails Ids h es) (numbered es) ≡ true
  unfolding fails
  ids_some =
      true_of_some (id_twice es) (any (meets_one SameId (numbered es)) (numbered es))
      (λ none. ids_paired es ∙ pairs_none SameId es (all_of_none (meets_one SameId (numbered es)) (numbered es) none))

  -- ## 50

  first_right : (es : List Entry) → All (λ r. starts_elsewhere h r ≡ false) (numbered es) → first_elsewhere h.first_bus es ≡ false
  unfolding numbered_from
  first_right [] none = refl
  first_right (e ∷ es) none = none.0

  tree_none : All (λ r. (starts_elsewhere h r || (way_up_wrong h es r.entry || meets_one SharedBuses (numbered es) r)) ≡ false) (numbered es)
      → not_tree h es ≡ false
  unfolding not_tree
  tree_none none =
      let first = all_imp _ (λ r. starts_elsewhere h r ≡ false) (numbered es) none (λ r e. (each r e).0) in
      let up = all_imp _ (λ r. way_up_wrong h es r.entry ≡ false) (numbered es) none (λ r e. (each r e).1) in
      let shared = all_imp _ (λ r. meets_one SharedBuses (numbered es) r ≡ false) (numbered es) none (λ r e. (each r e).2) in
      rw (
        first_right es first,
        sym (any_numbered (way_up_wrong h es) 1 es) ∙ none_of_all (λ r. way_up_wrong h es r.entry) (numbered es) up,
      )
      (pairs_none SharedBuses es shared)
    where
      each : (r : Numbered) → (starts_elsewhere h r || (way_up_wrong h es r.entry || meets_one SharedBuses (numbered es) r)) ≡ false
          → (starts_elsewhere h r ≡ false) × (way_up_wrong h es r.entry ≡ false) × (meets_one SharedBuses (numbered es) r ≡ false)
      each r e =
          let a = false_of_or (starts_elsewhere h r) (way_up_wrong h es r.entry || meets_one SharedBuses (numbered es) r) e in
          let b = false_of_or (way_up_wrong h es r.entry) (meets_one SharedBuses (numbered es) r) a.1 in
          (a.0, b.0, b.1)

  pub tree_some : not_tree h es ≡ true → any (fails Tree h es) (numbered es) ≡ true
  unfolding fails
  tree_some =
      true_of_some (not_tree h es)
      (any (λ r. starts_elsewhere h r || (way_up_wrong h es r.entry || meets_one SharedBuses (numbered es) r)) (numbered es))
      (λ none. tree_none (all_of_none _ (numbered es) none))

  -- ## 51

  pub places_some : not_nested OfKind h es ≡ true → any (fails Places h es) (numbered es) ≡ true
  unfolding fails not_nested
  places_some e = any_numbered (outside_above OfKind h es) 1 es ∙ e

  -- ## 52

  module _ (none : All (λ r. any (meets_any (numbered es)) (placed_of r) ≡ false) (numbered es)) where
    -- no two of the sheet's BARs and open windows meet
    never : (r : Numbered) → r ∈ numbered es → (p : Placed) → p ∈ placed_of r → (q : Numbered) → q ∈ numbered es → (o : Placed)
        → o ∈ placed_of q → meets p o ≡ false
    never r m p n q k o l =
        all_elim _ (placed_in (numbered es))
        (all_of_none (meets p) (placed_in (numbered es))
        (all_elim _ (placed_of r) (all_of_none (meets_any (numbered es)) (placed_of r) (all_elim _ (numbered es) none m)) n))
        (placed_intro (numbered es) k l)

    own_apart : (r : Numbered) → r ∈ numbered es → any_pair overlap (ranges_of r.entry) ≡ false
    own_apart r m =
        ap (any_pair overlap) (sym (ranges_placed r))
        ∙ none_of_pairwise overlap (map range_in (placed_of r))
        (pairwise_map (λ x y. overlap x y ≡ false) range_in (placed_of r)
        (pairwise_imp_members PlacesRise _ (placed_of r) apart (places_rise r)))
      where
        apart : (p o : Placed) → p ∈ placed_of r → o ∈ placed_of r → PlacesRise p o → overlap p.range o.range ≡ false
        apart p o n l rise =
            let own = all_elim _ (placed_of r) (owners_placed r) n in
            let also = all_elim _ (placed_of r) (owners_placed r) l in
            let one_bus : bus p.owner.entry ≡ bus o.owner.entry = ap (λ (q : Numbered). bus q.entry) (own ∙ sym also) in
            let two_places = ne_eqb o.place p.place (λ e. omega (arith, e, rise)) in
            let one_owner = eq-eqb o.owner.number p.owner.number (ap (λ (q : Numbered). q.number) (also ∙ sym own)) in
            rw (eq-eqb (bus p.owner.entry) (bus o.owner.entry) one_bus, one_owner, two_places) at (never r m p n r m o l)

    pair_apart : (r q : Numbered) → r ∈ numbered es → q ∈ numbered es → Rising r q → overlap_on_bus r.entry q.entry ≡ false
    pair_apart r q m k rise = go (eqb (bus r.entry) (bus q.entry)) refl
      where
        apart : eqb (bus r.entry) (bus q.entry) ≡ true → (p o : Placed) → p ∈ placed_of r → o ∈ placed_of q
            → overlap p.range o.range ≡ false
        apart e p o n l =
            let own = all_elim _ (placed_of r) (owners_placed r) n in
            let also = all_elim _ (placed_of q) (owners_placed q) l in
            let met : meets p o ≡ false = never r m p n q k o l in
            let two : eqb o.owner.number p.owner.number ≡ false =
            ne_eqb o.owner.number p.owner.number
            (λ z. omega (arith, z, ap (λ (x : Numbered). x.number) own, ap (λ (x : Numbered). x.number) also, rise)) in
            let on_bus_lem : eqb (bus p.owner.entry) (bus o.owner.entry) ≡ true =
            ap (λ (x : Numbered). eqb (bus x.entry) (bus o.owner.entry)) own
            ∙ ap (λ (x : Numbered). eqb (bus r.entry) (bus x.entry)) also ∙ e in
            rw (on_bus_lem, two) at met

        none_meets : eqb (bus r.entry) (bus q.entry) ≡ true → any_overlap (ranges_of r.entry) (ranges_of q.entry) ≡ false
        none_meets e =
            ap (λ (xs : List Range). any_overlap xs (ranges_of q.entry)) (sym (ranges_placed r))
            ∙ ap (λ (ys : List Range). any_overlap (map range_in (placed_of r)) ys) (sym (ranges_placed q))
            ∙ no_not_disjoint (placed_of r) (placed_of q) (apart e)

        go : (b : Bool) → eqb (bus r.entry) (bus q.entry) ≡ b → (b && any_overlap (ranges_of r.entry) (ranges_of q.entry)) ≡ false
        go true e = none_meets e
        go false e = refl

    all_apart : not_disjoint es ≡ false
    all_apart =
        ap not_disjoint (sym (entries_numbered 1 es))
        ∙ not_disjoint_none (numbered es) (all_intro _ (numbered es) own_apart)
        (pairwise_imp_members Rising _ (numbered es) pair_apart (numbers_rise 1 es))

  pub not_disjoint_some : not_disjoint es ≡ true → any (fails Overlaps h es) (numbered es) ≡ true
  unfolding fails
  not_disjoint_some =
      true_of_some (not_disjoint es) (any (λ r. any (meets_any (numbered es)) (placed_of r)) (numbered es))
      (λ none. all_apart (all_of_none _ (numbered es) none))
