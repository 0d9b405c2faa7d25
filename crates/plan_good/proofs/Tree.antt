-- The buses of a planned board: bridges rise, and their ranges are a tree as a good sheet's are. Assumes nothing.
use Rattle.std.specs.Prelude.{◌≡◌, refl, true, List, [], ◌∷◌, map, ℕ, suc, ◌<◌, eqb}
use Rattle.std.proofs.Common.{sym, ap, ◌∙◌, inl, inr, ⊎_elim, arith, eqb-true, eq-eqb}
use Rattle.std.proofs.Math.Bool.{and-eq-true_iff}
use mathlib.Core.List.Memᴰ
use Rattle.pools.specs.declared.Space.{Space}
use Rattle.plan_rule.specs.Records.{Host, Function, Lawful}
use Rattle.plan_rule.specs.Numbering.{bus_number, Numbered, numbered_from, numbered}
use Rattle.plan_rule.proofs.Numbered.{well_numbered, bus_number_host}
use Rattle.plan_rule.proofs.RefusalLaws.{BusesKept}
use Rattle.lists.specs.Lists.{◌∈◌, Pairwise}
use Rattle.lists.specs.ListLaws.{all_map_intro, pairwise_map, pairwise_imp_members, all_elim}
use Rattle.lists.specs.KeepLaws.{keep_only}
use Rattle.walk.specs.Ranges.{buses, Inside}
use Rattle.walk.specs.Registers.{Node}
use Rattle.walk.specs.Above.{is_above, bridges_to}
use Rattle.walk.specs.Good.{BridgesRise, OneWayUp, FirstOn, SiblingsApart, bus_range, Tree}
use Rattle.walk.specs.Good.{Rises as NodeRises}
use Rattle.plan_good.specs.Boards.{HostEdges}
use Rattle.plan_good.specs.Registers.{plan_node, plan_rows, plan_nodes, plan_host}
use Rattle.plan_good.specs.BusRanges.{BusesWithin}
use Rattle.plan_good.proofs.BusRanges.{parent_row, parent_of_bus, buses_in_parent, buses_in_host, siblings_before}

first_on_root : (first : ℕ) (fs : List Function) → Lawful fs → (devfn : ℕ → ℕ) → FirstOn first (map (plan_node devfn) (numbered first fs))
unfolding numbered_from
first_on_root first [] lawful devfn = tt
first_on_root first (f ∷ fs) lawful devfn =
    ap (bus_number first (f ∷ fs)) (eqb-true _ 0 lawful.ordered.0) ∙ bus_number_host first (f ∷ fs)

inside_of_within : (devfn : ℕ → ℕ) (first last : ℕ) (x : Numbered) → x.bridge ≡ true → BusesWithin first last x
    → Inside (bus_range (plan_node devfn x)) (record { pool = buses; start = first; stop = suc last })
inside_of_within devfn first last x is w =
    rw is (record { same_pool_lem = refl; start_inside = w.from_first; stop_inside = omega (arith, w.to_last) })

-- A later bridge has a greater secondary
abbrev Later : Node → Node → Type 0
Later n m = n.bridge ≡ true → m.bridge ≡ true → n.secondary < m.secondary

module _ (h : Host) (fs : List Function) (lawful : Lawful fs) (devfn : ℕ → ℕ) where
  -- So one bridge at most leads to a bus
  only_bridge_to : (bus : ℕ) {b : Numbered} → b ∈ plan_rows h fs → b.bridge ≡ true → b.secondary ≡ bus
      → bridges_to bus (plan_nodes h fs devfn) ≡ plan_node devfn b ∷ []
  only_bridge_to bus {b} m is leads =
      keep_only (is_above bus) clash (plan_nodes h fs devfn) later (Memᴰ.map (plan_node devfn) m)
      ((and-eq-true_iff _ _).1 (is, eq-eqb _ bus (rw is leads)))
    where
      later : Pairwise Later (plan_nodes h fs devfn)
      later =
          pairwise_map Later (plan_node devfn) (plan_rows h fs)
          (pairwise_imp_members _ _ (plan_rows h fs) (λ x y _ _ rises a c. rw (a, c) (rises c))
          (well_numbered h.first_bus fs lawful).rising)

      clash : (n o : Node) → Later n o → is_above bus n ≡ true → is_above bus o ≡ true → ⊥
      clash n o l p q =
          let a = (and-eq-true_iff n.bridge (eqb n.secondary bus)).0 p in
          let c = (and-eq-true_iff o.bridge (eqb o.secondary bus)).0 q in
          omega (arith, l a.0 c.0, eqb-true n.secondary bus a.1, eqb-true o.secondary bus c.1)

  one_way_up : (x : Numbered) → x ∈ plan_rows h fs → OneWayUp h.first_bus (plan_nodes h fs devfn) (plan_node devfn x)
  one_way_up x m =
      ⊎_elim
      (λ root. inl root.1)
      (λ p. inr (plan_node devfn p.row, only_bridge_to x.bus p.in_rows p.under.bridge (sym p.under.bus_is)))
      (parent_row h.first_bus fs lawful m)

  in_parent : (b : Numbered) → b ∈ plan_rows h fs → b.bridge ≡ true → (x : Numbered) → x ∈ plan_rows h fs → x.bridge ≡ true
      → x.bus ≡ (plan_node devfn b).secondary → Inside (bus_range (plan_node devfn x)) (bus_range (plan_node devfn b))
  in_parent b n is x m also e =
      let up = parent_of_bus h.first_bus fs lawful m n is (rw is at e) in
      let within = buses_in_parent h.first_bus fs lawful m n also up in
      rw is (inside_of_within devfn b.secondary b.subordinate x also within)

  siblings_apart : Pairwise SiblingsApart (plan_nodes h fs devfn)
  siblings_apart =
      pairwise_map _ (plan_node devfn) (plan_rows h fs)
      (pairwise_imp_members _ _ (plan_rows h fs) (λ x y _ _ before a b e. rw (a, b) (inl (before a b e)))
      (siblings_before h.first_bus fs lawful))

  module _ (edges : HostEdges h) (kept : BusesKept h fs) where
    pub bridges_rise : BridgesRise (plan_nodes h fs devfn)
    bridges_rise = all_map_intro _ (plan_node devfn) (plan_rows h fs) rises
      where
        rises : (x : Numbered) → x ∈ plan_rows h fs → x.bridge ≡ true → NodeRises (plan_node devfn x)
        rises x m is =
            let r = all_elim _ (plan_rows h fs) (well_numbered h.first_bus fs lawful).ranged m is in
            rw is (record {
              own_below = r.bus_first;
              range_open = r.not_empty;
              last_is_byte
                  = omega (arith, r.in_host, edges.last_bus_is_byte);
            })

    pub planned_tree : (sp : Space) → Tree (plan_host sp h) (plan_nodes h fs devfn)
    planned_tree sp =
        record {
          first_on_root = first_on_root h.first_bus fs lawful devfn;
          one_way_up = all_map_intro _ (plan_node devfn) (plan_rows h fs) one_way_up;
          in_host =
              all_map_intro _ (plan_node devfn) (plan_rows h fs)
              (λ x m is. inside_of_within devfn h.first_bus h.last_bus x is (buses_in_host h fs lawful kept m is));
          in_parent = all_map_intro _ (plan_node devfn) (plan_rows h fs)
              (λ b n is. all_map_intro _ (plan_node devfn) (plan_rows h fs) (in_parent b n is));
          siblings_apart = siblings_apart;
        }
