-- 51: where the buses are a tree, the test of nesting fails exactly where BARs and open windows are nested in both spaces. Assumes nothing.
use Rattle.std.specs.Prelude.{◌≡◌, refl, ◌↔◌, true, false, List, [], ◌∷◌, ℕ, eqb}
use Rattle.std.proofs.Math.Path.{sym}
use Rattle.std.proofs.Common.{ap, subst, ◌∙◌, inl, inr}
use Rattle.std.proofs.Math.Bool.{and-eq-true_iff}
use mathlib.Core.List.Memᴰ
use borrow.Author.Tests.{eqb-true, eq-eqb, not-false}
use Rattle.lists.specs.Lists.{◌∈◌, All, Some, keep, any}
use Rattle.lists.specs.ListLaws.{all_elim, all_intro}
use Rattle.lists.specs.KeepLaws.{all_of_none, none_of_all, keep_elim, keep_intro}
use Rattle.pools.specs.declared.Space.{Space}
use Rattle.board_record.specs.declared.Host.{Host}
use Rattle.walk.specs.Ranges.{Range}
use Rattle.walk.specs.Registers.{Registers, nodes, Item, items}
use Rattle.walk.proofs.RegistersLaws.{node_mem}
use Rattle.walk.specs.Above.{bridges_to}
use Rattle.walk.proofs.AboveLaws.{only_bridge_elim}
use Rattle.walk.specs.Good.{BridgesRise, OneWayUp, NestedBy}
use Rattle.sheet_record.specs.Entry.{Entry, bus, bridges}
use Rattle.sheet_record.specs.Spaces.{node_of, windows_of, function_of}
use Rattle.sheet.specs.Spaces.{functions_from, nodes_from}
use Rattle.sheet.proofs.SheetLaws.{nodes_functions}
use Rattle.sheet_above.specs.Parents.{leads_to, leaders_of, Parent, under_host, under_bridge}
use Rattle.sheet_above.specs.ParentsLaws.{Stands, at_root, below, nowhere, stands}
use Rattle.sheet_ranges.specs.Ranges.{ranges_of, pools_of}
use Rattle.sheet_ranges.specs.RangesLaws.{of_space, keep_windows, keep_pools, some_ranges}
use Rattle.sheet_ranges.specs.FunctionsLaws.{FunctionOf, function_elim, function_intro, ItemOf, item_range, Itemised, range_item}
use Rattle.audit_rule.specs.Host.{host_for}
use Rattle.audit_rule.specs.Audit.{parent_in, ranges_above, inside, outside_all, outside_above, not_nested}
use Rattle.audit_rule.specs.Accepted.{Lies}
use Rattle.audit_rule.proofs.InsideLaws.{lies_of_any, any_of_lies}
use Rattle.audit_rule.specs.declared.Nesting.{Nesting}
use Rattle.audit_rule.proofs.LeadersLaws.{no_leader_of_root, in_window_of_leader}

module _ (t : Nesting) (h : Host) (es : List Entry) (rise : BridgesRise (nodes_from 1 es))
    (ways : All (OneWayUp h.first_bus (nodes_from 1 es)) (nodes_from 1 es)) where
  abbrev root : ℕ
  root = h.first_bus

  -- the ranges of a space that a function's may lie in, by its parent
  keep_above : (sp : Space) (b : Entry) → keep (of_space sp) (ranges_above h (under_bridge b)) ≡ windows_of sp b
  unfolding ranges_above
  keep_above sp b = keep_windows sp b

  keep_root : (sp : Space) → keep (of_space sp) (ranges_above h under_host) ≡ pools_of sp h
  unfolding ranges_above
  keep_root sp = keep_pools sp h

  -- ## From the test

  module _ (right : not_nested t h es ≡ false) where
    lies : (e : Entry) → e ∈ es → (r : Range) → r ∈ ranges_of e → (p : Parent) → parent_in h es e ≡ p
        → any (inside t r) (ranges_above h p) ≡ true
    unfolding not_nested
    lies e m r n p is =
        let here = all_elim _ es (all_of_none (outside_above t h es) es right) m in
        let not_out = all_elim _ (ranges_of e) (all_of_none (outside_all t (ranges_above h (parent_in h es e))) (ranges_of e) here) n in
        sym (ap (λ (q : Parent). any (inside t r) (ranges_above h q)) is)
        ∙ not-false (any (inside t r) (ranges_above h (parent_in h es e))) not_out

    module _ (sp : Space) where
      abbrev fs : List Registers
      fs = functions_from sp 1 es

      bus_of_lem : (i : Item) (o : FunctionOf sp es i.owner) → i.owner.node.bus ≡ bus o.entry
      bus_of_lem i o = ap (λ (f : Registers). f.node.bus) o.function_is

      in_pool_lem : (i : Item) → i ∈ items fs → i.owner.node.bus ≡ root → Some (Lies t i.range) (pools_of sp h)
      in_pool_lem i m on =
          let o = item_range sp 1 es m in
          let at : bus o.owner.entry ≡ root = sym (bus_of_lem i o.owner) ∙ on in
          let p : parent_in h es o.owner.entry ≡ under_host = rw (eq-eqb (bus o.owner.entry) root at) in
          subst (Some (Lies t i.range)) (keep_root sp)
          (lies_of_any t sp i.range o.is_of_space (ranges_above h under_host)
          (lies o.owner.entry o.owner.in_sheet i.range o.in_ranges under_host p))

      in_window : (i : Item) → i ∈ items fs → (g : Registers) → g ∈ fs → bridges_to i.owner.node.bus (nodes fs) ≡ g.node ∷ []
          → Some (Lies t i.range) g.windows
      in_window i m g mg only = go (stands root 1 es (bus e))
        where
          o : ItemOf sp es i
          o = item_range sp 1 es m

          e : Entry
          e = o.owner.entry

          only_node : bridges_to (bus e) (nodes_from 1 es) ≡ g.node ∷ []
          only_node =
              sym (ap (λ (n : ℕ). bridges_to n (nodes_from 1 es)) (bus_of_lem i o.owner))
              ∙ sym (ap (bridges_to i.owner.node.bus) (nodes_functions sp 1 es))
              ∙ only

          go : Stands root 1 es (bus e) → Some (Lies t i.range) g.windows
          go (at_root on p) =
              let l = only_bridge_elim (bus e) (nodes_from 1 es) only_node in
              absurd (no_leader_of_root root (nodes_from 1 es) rise ways g.node
              (record { in_sheet = l.in_sheet; is_bridge_lem = l.is_bridge_lem; leads = l.leads ∙ on }))
          go (nowhere off unled p) = absurd (unled g.node only_node)
          go (below off b led p) =
              let l = only_bridge_elim (bus e) (nodes_from 1 es) only_node in
              let c = function_elim sp 1 es mg in
              let is = ap (λ (f : Registers). f.node.bridge) (sym c.function_is) ∙ l.is_bridge_lem in
              let leads = ap (λ (f : Registers). f.node.secondary) (sym c.function_is) ∙ l.leads in
              let kept = keep_intro (leads_to (bus e)) es c.in_sheet ((and-eq-true_iff _ _).1 (is, eq-eqb _ _ leads)) in
              let same : c.entry ≡ b = Memᴰ.eq_of_singleton (rw led.leader_is at kept) in
              let windows_are : windows_of sp b ≡ g.windows =
              ap (windows_of sp) (sym same) ∙ ap (λ (f : Registers). f.windows) (sym c.function_is) in
              subst (Some (Lies t i.range)) (keep_above sp b ∙ windows_are)
              (lies_of_any t sp i.range o.is_of_space (ranges_above h (under_bridge b))
              (lies e o.owner.in_sheet i.range o.in_ranges (under_bridge b) p))

      nested_of_test : NestedBy (Lies t) (host_for sp h) fs
      nested_of_test =
          record {
            in_pool_lem = all_intro _ (items fs) in_pool_lem;
            in_window_above =
                in_window_of_leader root fs (rw (nodes_functions sp 1 es) rise) (rw (nodes_functions sp 1 es) ways) (Lies t)
                (all_intro _ (items fs) in_window);
          }

  -- ## To the test

  module _ (nested : (sp : Space) → NestedBy (Lies t) (host_for sp h) (functions_from sp 1 es)) where
    inside_above : (e : Entry) → e ∈ es → (r : Range) → r ∈ ranges_of e → (sp : Space) → of_space sp r ≡ true
        → any (inside t r) (ranges_above h (parent_in h es e)) ≡ true
    inside_above e m r n sp of = go (stands root 1 es (bus e))
      where
        x : Itemised sp 1 es e r
        x = range_item sp 1 es m n of

        ranged : (rs : List Range) → Some (Lies t x.item.range) rs → Some (Lies t r) rs
        ranged rs s = subst (λ (q : Range). Some (Lies t q) rs) x.range_is s

        bus_is : x.item.owner.node.bus ≡ bus e
        bus_is = ap (λ (f : Registers). f.node.bus) x.owner_is

        in_window : (b : Entry) → (j : ℕ) × (function_of sp j b ∈ functions_from sp 1 es) → bridges b ≡ true → b.secondary ≡ bus e
            → Some (Lies t r) (windows_of sp b)
        in_window b (j, mb) is leads =
            ranged (windows_of sp b)
            (all_elim _ (items (functions_from sp 1 es)) (all_elim _ (functions_from sp 1 es) (nested sp).in_window_above mb is) x.is_item
            (bus_is ∙ sym leads))

        go : Stands root 1 es (bus e) → any (inside t r) (ranges_above h (parent_in h es e)) ≡ true
        go (at_root on p) =
            ap (λ (q : Parent). any (inside t r) (ranges_above h q)) p
            ∙ any_of_lies t sp r of (ranges_above h under_host)
            (subst (Some (Lies t r)) (sym (keep_root sp))
            (ranged (pools_of sp h) (all_elim _ (items (functions_from sp 1 es)) (nested sp).in_pool_lem x.is_item (bus_is ∙ on))))
        go (below off b led p) =
            let is_leader : b ∈ leaders_of es (bus e) = rw led.leader_is (Memᴰ.head refl) in
            let kept = keep_elim (leads_to (bus e)) es is_leader in
            let both = (and-eq-true_iff (bridges b) (eqb b.secondary (bus e))).0 kept.1 in
            let held = in_window b (function_intro sp 1 es kept.0) both.0 (eqb-true b.secondary (bus e) both.1) in
            ap (λ (q : Parent). any (inside t r) (ranges_above h q)) p
            ∙ any_of_lies t sp r of (ranges_above h (under_bridge b)) (subst (Some (Lies t r)) (sym (keep_above sp b)) held)
        go (nowhere off unled p) =
            let in_nodes : node_of x.number e ∈ nodes_from 1 es = rw (nodes_functions sp 1 es) at (node_mem x.in_sheet) in
            absurd (lost (all_elim _ (nodes_from 1 es) ways in_nodes))
          where
            lost : OneWayUp root (nodes_from 1 es) (node_of x.number e) → ⊥
            lost (inl on) = off on
            lost (inr (b, only)) = unled b only

    test_of_nested : not_nested t h es ≡ false
    unfolding not_nested
    test_of_nested =
        none_of_all (outside_above t h es) es
        (all_intro _ es (λ e m.
        none_of_all (outside_all t (ranges_above h (parent_in h es e))) (ranges_of e)
        (all_intro _ (ranges_of e) (λ r n.
        let (sp, of) = all_elim _ (ranges_of e) (some_ranges e) n in
        rw (inside_above e m r n sp of)))))

  pub nested_iff : (not_nested t h es ≡ false) ↔ ((sp : Space) → NestedBy (Lies t) (host_for sp h) (functions_from sp 1 es))
  nested_iff = (nested_of_test, test_of_nested)
