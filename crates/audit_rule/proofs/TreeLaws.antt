-- 50: the test of a sheet's buses fails exactly where they are a tree. Assumes nothing.
use Rattle.std.specs.Prelude.{◌≡◌, refl, ◌⊎◌, ◌↔◌, Bool, true, false, not, ◌&&◌, ◌||◌, List, [], ◌∷◌, ℕ, suc, eqb, leb}
use Rattle.std.proofs.Common.{sym, ap, subst, ◌∙◌, inl, inr, true≢false, arith, eqb-true, eq-eqb, leb-true, leb-false, le-leb}
use Rattle.std.proofs.Math.Bool.{and-false, and-eq-true_iff}
use Rattle.std.proofs.lemmas.Bool.{false≢true, lt-leb, not-false}
use Rattle.arith.specs.BoolLaws.{false_of_or}
use Rattle.lists.specs.Lists.{◌∈◌, All, any}
use Rattle.lists.specs.ListLaws.{all_imp, all_elim, all_intro, pairwise_imp}
use Rattle.lists.specs.KeepLaws.{all_of_none, none_of_all}
use Rattle.pools.specs.declared.Space.{Space}
use Rattle.board_record.specs.declared.Host.{Host}
use Rattle.walk.specs.Ranges.{buses, Inside, Apart}
use Rattle.walk.specs.Registers.{Node}
use Rattle.walk.specs.Above.{bridges_to}
use Rattle.walk.proofs.AboveLaws.{only_bridge_elim}
use Rattle.walk.specs.Good.{BridgesRise, FirstOn, OneWayUp, SiblingsApart, bus_range, Tree}
use Rattle.sheet_record.specs.Entry.{Entry, bus, bridges}
use Rattle.sheet_record.specs.Spaces.{node_of}
use Rattle.sheet.specs.Spaces.{nodes_from}
use Rattle.sheet_above.specs.Parents.{Parent, under_none, under_several, under_bridge}
use Rattle.sheet_above.specs.ParentsLaws.{Stands, at_root, below, nowhere, stands}
use Rattle.audit_rule.specs.Host.{host_for}
use Rattle.audit_rule.specs.Audit.{any_pair, first_elsewhere, buses_in, parent_wrong, out_of_host, parent_in, way_up_wrong, buses_shared}
use Rattle.audit_rule.specs.Audit.{not_tree}
use Rattle.audit_rule.proofs.LeadersLaws.{no_leader_of_root, in_parent_of_leader}
use Rattle.audit_rule.proofs.PairLaws.{pairwise_of_none, none_of_pairwise, all_nodes, all_of_nodes, pairwise_nodes, pairwise_of_nodes}

-- ## Tests as statements

-- what a test asks of those that pass another
asked : (a b : Bool) → (a && not b) ≡ false → a ≡ true → b ≡ true
asked true b e t = not-false b e
asked false b e t = absurd (false≢true t)

unasked : (a b : Bool) → (a ≡ true → b ≡ true) → (a && not b) ≡ false
unasked true b f = rw (f refl)
unasked false b f = refl

-- a bridge's buses among those from first to last
module _ (first last k : ℕ) (e : Entry) where
  inside_of_buses : buses_in first last e ≡ true → Inside (bus_range (node_of k e)) (record { pool = buses; start = first; stop = suc last })
  inside_of_buses t =
      let both = (and-eq-true_iff _ _).0 t in
      record {
        same_pool_lem = refl;
        start_inside = leb-true first e.secondary both.0;
        stop_inside = omega (arith, leb-true e.subordinate last both.1);
      }

  buses_of_inside : Inside (bus_range (node_of k e)) (record { pool = buses; start = first; stop = suc last }) → buses_in first last e ≡ true
  buses_of_inside i =
      (and-eq-true_iff _ _).1 (le-leb _ _ i.start_inside, le-leb e.subordinate last (omega (arith, i.stop_inside)))

apart_of_buses : (e f : Entry) (i j : ℕ) → buses_shared e f ≡ false → SiblingsApart (node_of i e) (node_of j f)
apart_of_buses e f i j t is also same = go (leb e.secondary f.subordinate) refl (rw (is, also, eq-eqb (bus e) (bus f) same) at t)
  where
    go : (b : Bool) → leb e.secondary f.subordinate ≡ b → (b && leb f.secondary e.subordinate) ≡ false
        → Apart (bus_range (node_of i e)) (bus_range (node_of j f))
    go true e1 e2 = inl (leb-false f.secondary e.subordinate e2)
    go false e1 e2 = inr (leb-false e.secondary f.subordinate e1)

buses_of_apart : (e f : Entry) (i j : ℕ) → SiblingsApart (node_of i e) (node_of j f) → buses_shared e f ≡ false
buses_of_apart e f i j apart = go (bridges e) refl (bridges f) refl (eqb (bus e) (bus f)) refl
  where
    by : Apart (bus_range (node_of i e)) (bus_range (node_of j f))
        → (leb e.secondary f.subordinate && leb f.secondary e.subordinate) ≡ false
    by (inl l) = rw (lt-leb f.secondary e.subordinate l) (and-false (leb e.secondary f.subordinate))
    by (inr l) = rw (lt-leb e.secondary f.subordinate l)

    go : (a : Bool) → bridges e ≡ a → (b : Bool) → bridges f ≡ b → (c : Bool) → eqb (bus e) (bus f) ≡ c
        → (a && (b && (c && (leb e.secondary f.subordinate && leb f.secondary e.subordinate)))) ≡ false
    go false ea b eb c ec = refl
    go true ea false eb c ec = refl
    go true ea true eb false ec = refl
    go true ea true eb true ec = by (apart ea eb (eqb-true (bus e) (bus f) ec))

first_of_test : (root k : ℕ) (es : List Entry) → first_elsewhere root es ≡ false → FirstOn root (nodes_from k es)
unfolding nodes_from
first_of_test root k [] t = tt
first_of_test root k (e ∷ es) t = eqb-true (bus e) root (not-false (eqb (bus e) root) t)

test_of_first : (root k : ℕ) (es : List Entry) → FirstOn root (nodes_from k es) → first_elsewhere root es ≡ false
unfolding nodes_from
test_of_first root k [] on = refl
test_of_first root k (e ∷ es) on = rw (eq-eqb (bus e) root on)

module _ (h : Host) (es : List Entry) (rise : BridgesRise (nodes_from 1 es)) (sp : Space) where
  abbrev root : ℕ
  root = h.first_bus

  abbrev ns : List Node
  ns = nodes_from 1 es

  -- ## From the test

  module _ (t : not_tree h es ≡ false) where
    parts : (first_elsewhere root es ≡ false) × (any (way_up_wrong h es) es ≡ false) × (any_pair buses_shared es ≡ false)
    unfolding not_tree
    parts =
        let a = false_of_or (first_elsewhere root es) (any (way_up_wrong h es) es || any_pair buses_shared es) t in
        let b = false_of_or (any (way_up_wrong h es) es) (any_pair buses_shared es) a.1 in
        (a.0, b.0, b.1)

    each : All (λ e. way_up_wrong h es e ≡ false) es
    each = all_of_none (way_up_wrong h es) es parts.1

    -- by the parent that a function turns out to have
    right : (e : Entry) → way_up_wrong h es e ≡ false → (p : Parent) → parent_in h es e ≡ p → parent_wrong p e ≡ false
    right e w p is = sym (ap (λ (q : Parent). parent_wrong q e) is) ∙ (false_of_or (parent_wrong (parent_in h es e) e) (out_of_host h e) w).0

    ways : All (OneWayUp root ns) ns
    ways = all_nodes _ 1 es (all_imp _ _ es each (λ e w j. one_way e w (stands root 1 es (bus e))))
      where
        one_way : (e : Entry) → way_up_wrong h es e ≡ false → Stands root 1 es (bus e)
            → (bus e ≡ root) ⊎ ((b : Node) × (bridges_to (bus e) ns ≡ b ∷ []))
        one_way e w (at_root on p) = inl on
        one_way e w (below off b led p) = inr (node_of led.number b, led.bridge_is)
        one_way e w (nowhere off unled (inl p)) = absurd (true≢false (right e w under_none p))
        one_way e w (nowhere off unled (inr p)) = absurd (true≢false (right e w under_several p))

    in_parent : (e : Entry) (j : ℕ) → way_up_wrong h es e ≡ false → bridges e ≡ true → (b : Node) → bridges_to (bus e) ns ≡ b ∷ []
        → Inside (bus_range (node_of j e)) (bus_range b)
    in_parent e j w is b only = go (stands root 1 es (bus e))
      where
        go : Stands root 1 es (bus e) → Inside (bus_range (node_of j e)) (bus_range b)
        go (at_root on p) =
            let l = only_bridge_elim (bus e) ns only in
            absurd (no_leader_of_root root ns rise ways b
            (record { in_sheet = l.in_sheet; is_bridge_lem = l.is_bridge_lem; leads = l.leads ∙ on }))
        go (below off c led p) =
            let same : node_of led.number c ≡ b = cc (led.bridge_is, only) in
            subst (λ (n : Node). Inside (bus_range (node_of j e)) (bus_range n)) same
            (inside_of_buses c.secondary c.subordinate j e (asked (bridges e) _ (right e w (under_bridge c) p) is))
        go (nowhere off unled p) = absurd (unled b only)

    tree_of_test : Tree (host_for sp h) ns
    tree_of_test =
        record {
          first_on_root = first_of_test root 1 es parts.0;
          one_way_up = ways;
          in_host =
              all_nodes _ 1 es
              (all_imp _ _ es each (λ e w j is.
              let within = (false_of_or (parent_wrong (parent_in h es e) e) (out_of_host h e) w).1 in
              inside_of_buses root h.last_bus j e (asked (bridges e) _ within is)));
          in_parent = in_parent_of_leader root ns rise ways (all_nodes _ 1 es (all_imp _ _ es each (λ e w j. in_parent e j w)));
          siblings_apart =
              pairwise_nodes _ 1 es
              (pairwise_imp _ _ (λ e f s i j. apart_of_buses e f i j s) es (pairwise_of_none buses_shared es parts.2));
        }

  -- ## To the test

  module _ (tree : Tree (host_for sp h) ns) where
    -- each record's node, under its number
    among : All (λ e. (j : ℕ) × (node_of j e ∈ ns)) es
    among = all_of_nodes (λ n. n ∈ ns) 1 es (all_intro _ ns (λ n m. m))

    parent_right : (e : Entry) (j : ℕ) → node_of j e ∈ ns → Stands root 1 es (bus e) → parent_wrong (parent_in h es e) e ≡ false
    parent_right e j m (at_root on p) = ap (λ (q : Parent). parent_wrong q e) p
    parent_right e j m (below off b led p) =
        let l = only_bridge_elim (bus e) ns led.bridge_is in
        let inside = all_elim _ ns tree.in_parent l.in_sheet l.is_bridge_lem in
        ap (λ (q : Parent). parent_wrong q e) p
        ∙ unasked (bridges e) _ (λ is. buses_of_inside b.secondary b.subordinate j e (all_elim _ ns inside m is (sym l.leads)))
    parent_right e j m (nowhere off unled p) = absurd (go (all_elim _ ns tree.one_way_up m))
      where
        go : OneWayUp root ns (node_of j e) → ⊥
        go (inl on) = off on
        go (inr (b, only)) = unled b only

    way_right : (e : Entry) (j : ℕ) → node_of j e ∈ ns → way_up_wrong h es e ≡ false
    way_right e j m =
        rw (parent_right e j m (stands root 1 es (bus e)))
        (unasked (bridges e) _ (λ is. buses_of_inside root h.last_bus j e (all_elim _ ns tree.in_host m is)))

    test_of_tree : not_tree h es ≡ false
    unfolding not_tree
    test_of_tree =
        rw (
          test_of_first root 1 es tree.first_on_root,
          none_of_all (way_up_wrong h es) es (all_imp _ _ es among (λ e m. way_right e m.0 m.1)),
          none_of_pairwise buses_shared es
              (pairwise_imp _ _ (λ e f r. buses_of_apart e f r.0 r.1 r.2) es (pairwise_of_nodes _ 1 es tree.siblings_apart)),
        )

  pub tree_iff : (not_tree h es ≡ false) ↔ Tree (host_for sp h) ns
  tree_iff = (tree_of_test, test_of_tree)
