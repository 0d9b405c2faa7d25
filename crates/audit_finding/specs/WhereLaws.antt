-- A record that fails a check fails it at its place, and at no earlier one; the other one that it meets is really met, and no lesser one
-- is. Assumes nothing.
use Rattle.std.specs.Prelude.{◌≡◌, Bool, cond, ◌&&◌, ◌||◌, List, [], ◌∷◌, ◌++◌, map, ℕ, ◌+◌, ◌≤◌, ◌<◌, get_or, take, drop, leb, ltb}
use Rattle.std.proofs.Math.Path.{refl, subst}
use Rattle.std.proofs.Common.{sym, ap, ◌∙◌, arith}
use Rattle.std.proofs.Math.Bool.{true, false, not, or-false, and-eq-true_iff, true≢false}
use Rattle.std.proofs.Math.Dec.{eqb}
use borrow.Author.Tests.{eqb-true, eqb-false, eq-eqb, ne_eqb, leb-true, leb-false, ltb-true, not-true, not-false}
use Rattle.lists.specs.Lists.{◌∈◌, All, any}
use Rattle.lists.specs.ListLaws.{all_elim, all_imp}
use Rattle.pools.specs.declared.Pool.TheVariants.{Low, High, Io}
use Rattle.bar.specs.declared.Slot.{Slot}
use Rattle.bar.specs.Bar.{slots}
use Rattle.bar.specs.Values.{value_here, is_value, values_fit}
use Rattle.window.specs.Window.{is_nibbled}
use Rattle.board_record.specs.declared.Host.{Host}
use Rattle.walk.specs.Ranges.{Range, Holds}
use Rattle.sheet_record.specs.Entry.{Entry, slot_count, bus, bridges}
use Rattle.sheet.specs.declared.Rule as rules
use Rattle.sheet.specs.Sheet.{breaks, all_zero, read_backs_wrong, buses_wrong}
use Rattle.sheet_ranges.specs.Ranges.{overlap, space_number}
use Rattle.audit_rule.specs.declared.Nesting.TheVariants.{OfKind}
use Rattle.audit_rule.specs.Audit.{ranges_above, outside_all, parent_in, way_up_wrong, outside_above}
use Rattle.finding.specs.declared.Party.{Party}
use Rattle.finding.specs.Places.{bus_registers, function_id, nobody, party_at}
use Rattle.finding.specs.First.{first}
use Rattle.finding.specs.FirstLaws.{FirstOf, first_of_any, first_is, first_none, member_of_first}
use Rattle.audit_finding.specs.declared.Check.TheVariants.{Ids, ReadBacks, Nibbles, Tree, Places, Overlaps}
use Rattle.audit_finding.specs.declared.Relation.{Relation}
use Rattle.audit_finding.specs.declared.Relation.TheVariants.{SameId, SharedBuses, Leads}
use Rattle.audit_finding.specs.Placed.{Numbered, numbered, Placed, placed_of, placed_in}
use Rattle.audit_finding.specs.Fails.{is_other, is_met, related, least_met, meets_one, meets, meets_any, starts_elsewhere, fails}
use Rattle.audit_finding.specs.Where.{Mark, first_wrong, slot_marks, rest_marks, read_back_marks, nibble_marks, has_no_parent, is_outside}
use Rattle.audit_finding.specs.Where.{party_of, least_meeting, place_in, other_of}
use Rattle.audit_finding.specs.PlacedLaws.{range_in, ranges_placed, owners_placed, Holding, holding_placed, placed_elim}
use Rattle.audit_finding.specs.FailsLaws.{meets_one_is, numbers_some}

-- ## 25 and 29: the first place that is wrong

abbrev pub is_wrong : Mark → Bool
is_wrong m = m.wrong

any_append : {A : Type 0} (t : A → Bool) (xs ys : List A) → any t (xs ++ ys) ≡ (any t xs || any t ys)
unfolding any
any_append t [] ys = refl
any_append {A} t (x ∷ xs) ys = go (t x) (any_append t xs ys)
  where
    go : (b : Bool) → any t (xs ++ ys) ≡ (any t xs || any t ys) → (b || any t (xs ++ ys)) ≡ ((b || any t xs) || any t ys)
    go true e = refl
    go false e = e

not_and : (a b : Bool) → not (a && b) ≡ (not a || not b)
not_and true b = refl
not_and false b = refl

slots_marked : (i : ℕ) (xs : List Slot) (rs vs : List ℕ) → any is_wrong (slot_marks i xs rs vs) ≡ not (values_fit xs rs vs)
unfolding slot_marks values_fit any
slots_marked i [] rs vs = refl
slots_marked i (x ∷ xs) rs vs =
    ap (λ (b : Bool). not (is_value x (get_or rs 0 0) (value_here x vs)) || b) (slots_marked (i + 1) xs (drop 1 rs) (drop 1 vs))
    ∙ sym (not_and (is_value x (get_or rs 0 0) (value_here x vs)) (values_fit xs (drop 1 rs) (drop 1 vs)))

rest_marked : (i : ℕ) (rs : List ℕ) → any is_wrong (rest_marks i rs) ≡ not (all_zero rs)
unfolding rest_marks all_zero any
rest_marked i [] = refl
rest_marked i (r ∷ rs) = ap (λ (b : Bool). not (eqb r 0) || b) (rest_marked (i + 1) rs) ∙ sym (not_and (eqb r 0) (all_zero rs))

pub read_backs_marked : (e : Entry) → any is_wrong (read_back_marks e) ≡ read_backs_wrong e
unfolding read_back_marks read_backs_wrong
read_backs_marked e =
    let n = slot_count e.header in
    let rs = take n e.readbacks in
    any_append is_wrong (slot_marks 0 (slots rs) rs e.values) (rest_marks n (drop n e.readbacks))
    ∙ ap (λ (b : Bool). b || any is_wrong (rest_marks n (drop n e.readbacks))) (slots_marked 0 (slots rs) rs e.values)
    ∙ ap (λ (b : Bool). not (values_fit (slots rs) rs e.values) || b) (rest_marked n (drop n e.readbacks))
    ∙ sym (not_and (values_fit (slots rs) rs e.values) (all_zero (drop n e.readbacks)))

pub nibbles_marked : (e : Entry) → bridges e ≡ true → any is_wrong (nibble_marks e) ≡ breaks rules.TheVariants.Nibbles e
unfolding breaks any
nibbles_marked e b =
    let low = is_nibbled Low e.low in
    let high = is_nibbled High e.high in
    let io = is_nibbled Io e.io in
    rw b
    (ap (λ (x : Bool). not low || (not high || x)) (or-false (not io))
    ∙ ap (λ (x : Bool). not low || x) (sym (not_and high io))
    ∙ sym (not_and low (high && io)))

-- a record's place is that of the first mark that is wrong
pub record WrongAt (marks : List Mark) (place : ℕ) : Type 0 where
  pub first_wrong_lem : FirstOf is_wrong marks
  pub place_is : place ≡ first_wrong_lem.one.place

wrong_at : (marks : List Mark) → any is_wrong marks ≡ true → WrongAt marks (first_wrong marks)
wrong_at marks e =
    let f = first_of_any is_wrong marks e in
    record { first_wrong_lem = f; place_is = first_is is_wrong (λ m. m.place) 0 marks f }

bridge_of_nibbles : (e : Entry) → breaks rules.TheVariants.Nibbles e ≡ true → bridges e ≡ true
unfolding breaks
bridge_of_nibbles e w = ((and-eq-true_iff (bridges e) _).0 w).0

module _ (h : Host) (es : List Entry) (r : Numbered) where
  pub read_back_place : fails ReadBacks h es r ≡ true → WrongAt (read_back_marks r.entry) (place_in ReadBacks h es r)
  unfolding fails place_in breaks
  read_back_place w = wrong_at (read_back_marks r.entry) (read_backs_marked r.entry ∙ w)

  pub nibble_place : fails Nibbles h es r ≡ true → WrongAt (nibble_marks r.entry) (place_in Nibbles h es r)
  unfolding fails place_in
  nibble_place w = wrong_at (nibble_marks r.entry) (nibbles_marked r.entry (bridge_of_nibbles r.entry w) ∙ w)

-- ## Two records

-- the least record that stands in the relation to this one
pub record Met (relation : Relation) (es : List Entry) (r : Numbered) (other : Party) (place : ℕ) : Type 0 where
  pub least : FirstOf (is_met relation r) (numbered es)
  pub other_is : other ≡ record { number = least.one.number; place = place }
  pub two_records : least.one.number ≡ r.number → ⊥
  pub is_related : related relation r.entry least.one.entry ≡ true

met_of_any : (relation : Relation) (es : List Entry) (r : Numbered) (place : ℕ) → any (is_met relation r) (numbered es) ≡ true
    → Met relation es r (party_at (least_met relation (numbered es) r) place) place
unfolding least_met
met_of_any relation es r place e =
    let f = first_of_any (is_met relation r) (numbered es) e in
    let least = first_is (is_met relation r) (λ q. q.number) 0 (numbered es) f in
    let some = all_elim _ (numbered es) (numbers_some es) (member_of_first (is_met relation r) (numbered es) f) in
    let numbered_one = ne_eqb f.one.number 0 (λ z. omega (arith, z, some)) in
    let both = (and-eq-true_iff (is_other r f.one) (related relation r.entry f.one.entry)).0 f.passes in
    record {
      least = f;
      other_is = rw (least, numbered_one);
      two_records = eqb-false f.one.number r.number (not-true (eqb f.one.number r.number) both.0);
      is_related = both.1;
    }

module _ (h : Host) (es : List Entry) (r : Numbered) where
  -- 28: another record has the ID
  pub id_other : fails Ids h es r ≡ true → Met SameId es r (other_of Ids h es r) function_id
  unfolding fails other_of
  id_other w = met_of_any SameId es r function_id (sym (meets_one_is SameId es r) ∙ w)

  -- 50: the record starts elsewhere, or has no parent, or leads out of its parent's or its host's buses, or shares a bus with a sibling
  pub data TreeFault : ℕ → Party → Type 0 where
    off_root : starts_elsewhere h r ≡ true → TreeFault function_id nobody
    no_bridge : has_no_parent h es r ≡ true → any (is_met Leads r) (numbered es) ≡ false → TreeFault function_id nobody
    two_bridges : {other : Party} → has_no_parent h es r ≡ true → Met Leads es r other bus_registers → TreeFault function_id other
    out_of_range : has_no_parent h es r ≡ false → way_up_wrong h es r.entry ≡ true → TreeFault bus_registers nobody
    siblings : {other : Party} → Met SharedBuses es r other bus_registers → TreeFault bus_registers other

  no_leader : any (is_met Leads r) (numbered es) ≡ false → party_at (least_met Leads (numbered es) r) bus_registers ≡ nobody
  unfolding least_met
  no_leader none = rw (first_none (is_met Leads r) (λ q. q.number) 0 (numbered es) none)

  pub tree_fault : fails Tree h es r ≡ true → TreeFault (place_in Tree h es r) (other_of Tree h es r)
  unfolding fails place_in other_of
  tree_fault w = go (starts_elsewhere h r) refl (has_no_parent h es r) refl (way_up_wrong h es r.entry) refl w
    where
      nowhere : has_no_parent h es r ≡ true → (b : Bool) → any (is_met Leads r) (numbered es) ≡ b
          → TreeFault function_id (party_at (least_met Leads (numbered es) r) bus_registers)
      nowhere none true led = two_bridges none (met_of_any Leads es r bus_registers led)
      nowhere none false led = subst (λ (other : Party). TreeFault function_id other) (sym (no_leader led)) (no_bridge none led)

      go : (a : Bool) → starts_elsewhere h r ≡ a → (b : Bool) → has_no_parent h es r ≡ b → (c : Bool) → way_up_wrong h es r.entry ≡ c
          → (a || (c || meets_one SharedBuses (numbered es) r)) ≡ true
          → TreeFault (cond (a || b) function_id bus_registers)
          (cond a nobody
          (cond b (party_at (least_met Leads (numbered es) r) bus_registers)
          (cond c nobody (party_at (least_met SharedBuses (numbered es) r) bus_registers))))
      go true off b none c up w = off_root off
      go false off true none c up w = nowhere none (any (is_met Leads r) (numbered es)) refl
      go false off false none true up w = out_of_range none up
      go false off false none false up w =
          siblings (met_of_any SharedBuses es r bus_registers (sym (meets_one_is SharedBuses es r) ∙ w))

-- siblings lead to one bus at least
pub record SharedBus (e f : Entry) : Type 0 where
  pub same_bus : bus e ≡ bus f
  pub shared : ℕ
  pub from_first : e.secondary ≤ shared
  pub to_first : shared ≤ e.subordinate
  pub from_second : f.secondary ≤ shared
  pub to_second : shared ≤ f.subordinate

ordered_of_right : (e : Entry) → bridges e ≡ true → buses_wrong e ≡ false → e.secondary ≤ e.subordinate
ordered_of_right e b w =
    let own = eqb (bus e) e.primary in
    let above = ltb e.primary e.secondary in
    let last = leb e.secondary e.subordinate in
    let all = (and-eq-true_iff own (above && last)).0 (not-false (own && (above && last)) (rw b at w)) in
    leb-true e.secondary e.subordinate ((and-eq-true_iff above last).0 all.1).1

-- of bridges that pass 27
pub shared_bus : (e f : Entry) → buses_wrong e ≡ false → buses_wrong f ≡ false → related SharedBuses e f ≡ true → SharedBus e f
shared_bus e f right also shares =
    let a = (and-eq-true_iff (bridges e) _).0 shares in
    let b = (and-eq-true_iff (bridges f) _).0 a.1 in
    let c = (and-eq-true_iff (eqb (bus e) (bus f)) _).0 b.1 in
    let d = (and-eq-true_iff (leb e.secondary f.subordinate) _).0 c.1 in
    let same = eqb-true (bus e) (bus f) c.0 in
    let one = leb-true e.secondary f.subordinate d.0 in
    let two = leb-true f.secondary e.subordinate d.1 in
    go same one two (ordered_of_right e a.0 right) (ordered_of_right f b.0 also) (leb e.secondary f.secondary) refl
  where
    go : bus e ≡ bus f → e.secondary ≤ f.subordinate → f.secondary ≤ e.subordinate → e.secondary ≤ e.subordinate
        → f.secondary ≤ f.subordinate → (b : Bool) → leb e.secondary f.secondary ≡ b → SharedBus e f
    go same one two x y true l =
        record {
          same_bus = same;
          shared = f.secondary;
          from_first = leb-true e.secondary f.secondary l;
          to_first = two;
          from_second = omega arith;
          to_second = y;
        }
    go same one two x y false l =
        record {
          same_bus = same;
          shared = e.secondary;
          from_first = omega arith;
          to_first = x;
          from_second = omega (arith, leb-false e.secondary f.secondary l);
          to_second = one;
        }

-- ## 51

any_agree : {A : Type 0} (t u : A → Bool) (xs : List A) → All (λ x. t x ≡ u x) xs → any t xs ≡ any u xs
unfolding any
any_agree t u [] h = refl
any_agree t u (x ∷ xs) h = rw (h.0, any_agree t u xs h.1)

any_map : {A B : Type 0} (t : B → Bool) (f : A → B) (xs : List A) → any t (map f xs) ≡ any (λ x. t (f x)) xs
unfolding any
any_map t f [] = refl
any_map t f (x ∷ xs) = ap (λ (b : Bool). t (f x) || b) (any_map t f xs)

module _ (h : Host) (es : List Entry) (r : Numbered) where
  pub outside_placed : outside_above OfKind h es r.entry ≡ any (is_outside h es) (placed_of r)
  outside_placed =
      let test = outside_all OfKind (ranges_above h (parent_in h es r.entry)) in
      ap (any test) (sym (ranges_placed r))
      ∙ any_map test range_in (placed_of r)
      ∙ any_agree (λ p. test p.range) (is_outside h es) (placed_of r)
      (all_imp _ _ (placed_of r) (owners_placed r)
      (λ p own. ap (λ (q : Numbered). outside_all OfKind (ranges_above h (parent_in h es q.entry)) p.range) (sym own)))

  pub record Outside (place : ℕ) : Type 0 where
    pub outside : FirstOf (is_outside h es) (placed_of r)
    pub place_is : place ≡ outside.one.place

  pub outside_place : fails Places h es r ≡ true → Outside (place_in Places h es r)
  unfolding fails place_in
  outside_place w =
      let f = first_of_any (is_outside h es) (placed_of r) (sym outside_placed ∙ w) in
      record { outside = f; place_is = first_is (is_outside h es) (λ p. p.place) 0 (placed_of r) f }

-- ## 52

-- an address of both
pub record Shared (x y : Range) : Type 0 where
  pub one_space : space_number x.pool ≡ space_number y.pool
  pub address : ℕ
  pub in_first : Holds x address
  pub in_second : Holds y address

pub shared_of_overlap : (x y : Range) → Holding x → Holding y → overlap x y ≡ true → Shared x y
shared_of_overlap x y holds also e =
    let a = (and-eq-true_iff (eqb (space_number x.pool) (space_number y.pool)) _).0 e in
    let b = (and-eq-true_iff (ltb x.start y.stop) _).0 a.1 in
    go (eqb-true (space_number x.pool) (space_number y.pool) a.0) (ltb-true x.start y.stop b.0)
    (ltb-true y.start x.stop b.1) (leb x.start y.start) refl
  where
    go : space_number x.pool ≡ space_number y.pool → x.start < y.stop → y.start < x.stop → (b : Bool)
        → leb x.start y.start ≡ b → Shared x y
    go same one two true l =
        record {
          one_space = same;
          address = y.start;
          in_first = record { from_start = leb-true x.start y.start l; before_stop = two };
          in_second = record { from_start = omega arith; before_stop = also };
        }
    go same one two false l =
        record {
          one_space = same;
          address = x.start;
          in_first = record { from_start = omega arith; before_stop = holds };
          in_second = record { from_start = omega (arith, leb-false x.start y.start l); before_stop = one };
        }

module _ (es : List Entry) (r : Numbered) where
  pub record Overlapping (place : ℕ) (other : Party) : Type 0 where
    -- the first of its BARs and open windows that meets another one, and the least that it meets
    pub first_met : FirstOf (meets_any (numbered es)) (placed_of r)
    pub least : FirstOf (meets first_met.one) (placed_in (numbered es))
    pub place_is : place ≡ first_met.one.place
    pub other_is : other ≡ party_of least.one
    -- two of one bus, with an address of both
    pub own : first_met.one.owner ≡ r
    pub one_bus : bus first_met.one.owner.entry ≡ bus least.one.owner.entry
    pub two_places : least.one.owner.number ≡ first_met.one.owner.number → least.one.place ≡ first_met.one.place → ⊥
    pub shares : Shared first_met.one.range least.one.range

  holding_in : {p : Placed} → p ∈ placed_in (numbered es) → Holding p.range
  holding_in m = let (q, in_sheet, in_record) = placed_elim (numbered es) m in all_elim _ (placed_of q) (holding_placed q) in_record

  pub overlapping : (h : Host) → fails Overlaps h es r ≡ true → Overlapping (place_in Overlaps h es r) (other_of Overlaps h es r)
  unfolding fails place_in other_of least_meeting
  overlapping h w =
      let f = first_of_any (meets_any (numbered es)) (placed_of r) w in
      let l = first_of_any (meets f.one) (placed_in (numbered es)) f.passes in
      let member = member_of_first (meets_any (numbered es)) (placed_of r) f in
      let met = member_of_first (meets f.one) (placed_in (numbered es)) l in
      let a = (and-eq-true_iff (eqb (bus f.one.owner.entry) (bus l.one.owner.entry)) _).0 l.passes in
      let b = (and-eq-true_iff _ (overlap f.one.range l.one.range)).0 a.1 in
      record {
        first_met = f;
        least = l;
        place_is = first_is (meets_any (numbered es)) (λ p. p.place) 0 (placed_of r) f;
        other_is =
            first_is (meets_any (numbered es)) (λ p. first (meets p) party_of nobody (placed_in (numbered es))) nobody (placed_of r) f
            ∙ first_is (meets f.one) party_of nobody (placed_in (numbered es)) l;
        own = all_elim _ (placed_of r) (owners_placed r) member;
        one_bus = eqb-true (bus f.one.owner.entry) (bus l.one.owner.entry) a.0;
        two_places = λ x y. apart l.one f.one b.0 x y;
        shares =
            shared_of_overlap f.one.range l.one.range (all_elim _ (placed_of r) (holding_placed r) member) (holding_in met) b.1;
      }
    where
      apart : (q p : Placed) → not (eqb q.owner.number p.owner.number && eqb q.place p.place) ≡ true
          → q.owner.number ≡ p.owner.number → q.place ≡ p.place → ⊥
      apart q p e x y = true≢false (sym e ∙ rw (eq-eqb q.owner.number p.owner.number x, eq-eqb q.place p.place y))
