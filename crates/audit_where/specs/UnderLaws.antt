-- 50 and 51 of one record, in the words of the code. Assumes nothing.
use Rattle.std.specs.Prelude.{◌≡◌, refl, Bool, false, not, ◌&&◌, ◌||◌, ℕ, ◌+◌, eqb}
use Rattle.std.proofs.Math.Path.{sym, ap}
use Rattle.std.proofs.Common.{◌∙◌, true≢false, arith}
use Rattle.std.proofs.Math.Bool.{true, cond}
use mathlib.Core.List.{List}
use borrow.Author.Tests.{eq-eqb, ne_eqb, eqb-true, eqb-false, not-true, not-false}
use Rattle.lists.specs.ListLaws.{all_imp}
use Rattle.board_record.specs.declared.Host.{Host}
use Rattle.walk.specs.Ranges.{Range}
use Rattle.sheet_record.specs.Entry.{Entry, entry_of, bus_of, bus}
use Rattle.sheet.specs.Sheet.{entries_of, part_at}
use Rattle.sheet_above.specs.Parents as rule
use Rattle.sheet_above.specs.Parents.{parent_of}
use Rattle.audit_rule.specs.declared.Nesting.TheVariants.{OfKind}
use Rattle.audit_rule.specs.Audit.{ranges_above, outside_all, parent_in, parent_wrong, out_of_host, way_up_wrong}
use Rattle.sheet_above.specs.declared.Parent.{Parent}
use Rattle.sheet_above.specs.declared.Parent.TheVariants.{Host as UnderHost, Bridge, Nothing, Several}
use Rattle.sheet_above.specs.Table.{IsParent}
use Rattle.sheet_ranges.specs.SearchLaws.{bus_of_entry}
use Rattle.finding.specs.declared.Party.{Party}
use Rattle.finding.specs.Places.{Spot, right, wrong_at, bus_registers, function_id, nobody, party_at}
use Rattle.finding.specs.First.{first}
use Rattle.finding.specs.FirstLaws.{first_agree}
use Rattle.audit_finding.specs.declared.Check.TheVariants.{Tree, Places}
use Rattle.audit_finding.specs.declared.Relation.TheVariants.{SharedBuses, Leads}
use Rattle.audit_finding.specs.Placed.{Numbered, numbered, Placed, placed_of}
use Rattle.audit_finding.specs.PlacedLaws.{owners_placed}
use Rattle.audit_finding.specs.Fails.{least_met, starts_elsewhere, fails}
use Rattle.audit_finding.specs.Where.{is_nowhere, has_no_parent, is_outside, place_in, other_of}
use Rattle.audit_finding.specs.WhereLaws.{outside_placed}
use Rattle.audit_finding.specs.Spots.{spot_at, spot_alone, record_of}
use Rattle.audit_where.specs.Under.{outside_in}

-- ## Who stands above: q is told by the table

module _ (s : List ℕ) (root b : ℕ) (q : Parent) (above : IsParent s root b q) where
  pub under_host_lem : q ≡ UnderHost → true ≡ not (is_nowhere (parent_of root (entries_of s) b))
  under_host_lem e = rw (above.same, e)

  pub under_bridge_lem : (k : ℕ) → q ≡ Bridge k → true ≡ not (is_nowhere (parent_of root (entries_of s) b))
  under_bridge_lem k e = rw (above.same, e)

  pub under_none_lem : q ≡ Nothing → false ≡ not (is_nowhere (parent_of root (entries_of s) b))
  under_none_lem e = rw (above.same, e)

  pub under_several_lem : q ≡ Several → false ≡ not (is_nowhere (parent_of root (entries_of s) b))
  under_several_lem e = rw (above.same, e)

-- ## 50: p is the record's part, b its bus

first_index : (k : ℕ) → eqb (k + 1) 1 ≡ eqb k 0
first_index k = go (eqb k 0) refl
  where
    go : (t : Bool) → eqb k 0 ≡ t → eqb (k + 1) 1 ≡ t
    go true e = eq-eqb (k + 1) 1 (omega (arith, eqb-true k 0 e))
    go false e = ne_eqb (k + 1) 1 (λ z. eqb-false k 0 e (omega (arith, z)))

-- a function that nobody stands above has no way up
no_way : (p : rule.Parent) (e : Entry) (out : Bool) → is_nowhere p ≡ true → (parent_wrong p e || out) ≡ true
no_way rule.under_host e out w = absurd (true≢false (sym w))
no_way (rule.under_bridge b) e out w = absurd (true≢false (sym w))
no_way rule.under_none e out w = refl
no_way rule.under_several e out w = refl

module _ (h : Host) (s : List ℕ) (k : ℕ) (p : List ℕ) (is : p ≡ part_at s k) (b : ℕ) (own : b ≡ bus_of p) where
  abbrev es : List Entry
  es = entries_of s

  abbrev r : Numbered
  r = record_of s k

  bus_is : b ≡ bus (entry_of (part_at s k))
  bus_is = own ∙ bus_of_entry p ∙ ap (λ (q : List ℕ). bus (entry_of q)) is

  module _ (starts : Bool) (e : starts ≡ (eqb k 0 && not (eqb b h.first_bus))) where
    starts_is : starts_elsewhere h r ≡ starts
    starts_is = sym (e ∙ rw (first_index k, bus_is))

    pub tree_off : starts ≡ true → wrong_at function_id nobody ≡ spot_at Tree h es r
    unfolding spot_at fails place_in other_of
    tree_off w = rw (starts_is ∙ w)

    module _ (on : starts ≡ false) (parent : Bool) (f : parent ≡ not (is_nowhere (parent_of h.first_bus es b))) where
      parent_is : not (has_no_parent h es r) ≡ parent
      parent_is = sym (f ∙ rw bus_is)

      pub tree_nowhere : parent ≡ false → (number : ℕ) → number ≡ least_met Leads (numbered es) r → (other : Party)
          → other ≡ party_at number bus_registers → wrong_at function_id other ≡ spot_at Tree h es r
      unfolding spot_at fails place_in other_of
      tree_nowhere w number met other o =
          let none : has_no_parent h es r ≡ true = not-false (has_no_parent h es r) (parent_is ∙ w) in
          let up : way_up_wrong h es r.entry ≡ true = no_way (parent_in h es r.entry) r.entry (out_of_host h r.entry) none in
          rw (starts_is ∙ on, none, up, o, met)

      module _ (has : parent ≡ true) (up : Bool) (g : up ≡ way_up_wrong h es (entry_of p)) where
        some : has_no_parent h es r ≡ false
        some = not-true (has_no_parent h es r) (parent_is ∙ has)

        up_is : way_up_wrong h es r.entry ≡ up
        up_is = sym (g ∙ rw is)

        pub tree_up : up ≡ true → wrong_at bus_registers nobody ≡ spot_at Tree h es r
        unfolding spot_at fails place_in other_of
        tree_up w = rw (starts_is ∙ on, some, up_is ∙ w)

        module _ (fits : up ≡ false) (number : ℕ) (met : number ≡ least_met SharedBuses (numbered es) r) where
          pub tree_right : number ≡ 0 → right ≡ spot_at Tree h es r
          unfolding spot_at fails place_in other_of
          tree_right z = rw (starts_is ∙ on, some, up_is ∙ fits, sym met ∙ z)

          pub tree_shared : (number ≡ 0 → ⊥) → wrong_at bus_registers (record { number = number; place = bus_registers })
              ≡ spot_at Tree h es r
          unfolding spot_at fails place_in other_of
          tree_shared d = rw (starts_is ∙ on, some, up_is ∙ fits, ← met, ne_eqb number 0 d)

  -- ## 51: above are the ranges that its own may lie in

  pub place_told : (above : List Range) → above ≡ ranges_above h (parent_of h.first_bus es b) → (x : Spot)
      → ((number : ℕ) → x ≡ outside_in above (record { number = number; entry = entry_of p })) → x ≡ spot_at Places h es r
  unfolding spot_at fails place_in other_of
  place_told above e x f =
      f (k + 1)
      ∙ ap (λ (q : List ℕ). outside_in above (record { number = k + 1; entry = entry_of q })) is
      ∙ first_agree (λ q. outside_all OfKind above q.range) (is_outside h es) (λ q. wrong_at q.place nobody) right (placed_of r)
      (all_imp _ _ (placed_of r) (owners_placed r) agree)
      ∙ spot_alone (is_outside h es) (λ q. q.place) (placed_of r)
      ∙ ap (λ (t : Bool). cond t (wrong_at (first (is_outside h es) (λ q. q.place) 0 (placed_of r)) nobody) right) (sym
      (outside_placed h es r))
    where
      above_is : above ≡ ranges_above h (parent_in h es r.entry)
      above_is = e ∙ ap (λ (c : ℕ). ranges_above h (parent_of h.first_bus es c)) bus_is

      agree : (q : Placed) → q.owner ≡ r → outside_all OfKind above q.range ≡ is_outside h es q
      agree q mine =
          ap (λ (xs : List Range). outside_all OfKind xs q.range)
          (above_is ∙ ap (λ (m : Numbered). ranges_above h (parent_in h es m.entry)) (sym mine))
