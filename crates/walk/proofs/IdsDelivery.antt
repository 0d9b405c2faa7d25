-- By ID the walk ends at the function with that ID, past the bridges above it, and else there is no owner: the registers by ID are sound
-- where the bus numbers are, and delivery is that of any sound sheet. Assumes nothing.
use Rattle.std.specs.Prelude.{◌≡◌, ◌⊎◌, Bool, cond, ℕ, eqb, length}
use Rattle.std.proofs.Math.Path.{refl}
use Rattle.std.proofs.Common.{sym, ap, subst, ◌∙◌, inr, arith, eqb-true, eq-eqb}
use Rattle.std.proofs.Math.Logic.{inl}
use Rattle.std.proofs.Math.Bool.{true, false}
use mathlib.Core.List.Memᴰ
use mathlib.Core.List.{List, [], ◌∷◌, ◌++◌, map}
use Rattle.lists.specs.Lists.{◌∈◌, Some, Pairwise}
use Rattle.lists.specs.ListLaws.{all_of, all_elim, all_intro, all_map_intro, member_of_some, mem_cond_elim, flat_elim, pairwise_flat}
use Rattle.lists.specs.ListLaws.{pairwise_map, pairwise_imp_members, pairwise_both}
use Rattle.walk.specs.Ranges.{Holds, Within, Apart}
use Rattle.walk.proofs.Ranges.{within_of_inside}
use Rattle.walk.specs.Registers.{Node, Registers, Item, bar_item, window_item, open_windows, items_of, items}
use Rattle.walk.specs.Tally.{tally_on}
use Rattle.walk.specs.Walk.{delivered, refused, no_owner, walk_from, Trail}
use Rattle.walk.proofs.WalkLaws.{walk_agree, trail_agree}
use Rattle.walk.specs.Above.{above}
use Rattle.walk.specs.Good.{Host, BridgesRise, bus_range, SiblingsApart, Tree, InWindowOf, ApartOnBus, Sound}
use Rattle.walk.proofs.Reach.{downward}
use Rattle.walk.proofs.Delivery.{Owns, bridges_above, crosses_bridges_above, delivered_of_owner, owner_of_delivered, otherwise_nobody}
use Rattle.walk.specs.Ids.{tally_by_id, own_bus, by_id, always, DistinctIds, HasId}
use Rattle.walk.proofs.IdsLaws.{by_id_nodes, tally_by_id_agree}

-- What an item by ID is: a function's own bus or a bridge's range.
data IdItem (devfn : ℕ) (n : Node) (i : Item) : Type 0 where
  own_bus_lem : i.owner.node ≡ n → n.devfn ≡ devfn → i.range ≡ own_bus n → IdItem devfn n i
  bus_range_lem : i.owner.node ≡ n → n.bridge ≡ true → i.range ≡ bus_range n → IdItem devfn n i

id_item : (devfn : ℕ) (n : Node) (i : Item) → i ∈ items_of (by_id devfn n) → IdItem devfn n i
unfolding items_of
id_item devfn n i m = go (Memᴰ.append_cases (map (bar_item (by_id devfn n)) (by_id devfn n).bars) m)
  where
    go : (i ∈ map (bar_item (by_id devfn n)) (by_id devfn n).bars) ⊎ (i ∈ map (window_item (by_id devfn n)) (open_windows (by_id devfn n)))
        → IdItem devfn n i
    go (inl h) =
        let (r, in_bars, is_i) = Memᴰ.of_map (bar_item (by_id devfn n)) (by_id devfn n).bars h in
        let (same_devfn, only) = mem_cond_elim (eqb n.devfn devfn) (own_bus n ∷ []) in_bars in
        let range_is : r ≡ own_bus n = Memᴰ.eq_of_singleton only in
        subst (IdItem devfn n) is_i (own_bus_lem refl (eqb-true _ _ same_devfn) range_is)
    go (inr h) =
        let (r, in_windows, is_i) = Memᴰ.of_map (window_item (by_id devfn n)) (open_windows (by_id devfn n)) h in
        let (is_bridge_lem, only) = mem_cond_elim n.bridge (bus_range n ∷ []) in_windows in
        let range_is : r ≡ bus_range n = Memᴰ.eq_of_singleton only in
        subst (IdItem devfn n) is_i (bus_range_lem refl is_bridge_lem range_is)

id_item_owner : (devfn : ℕ) (n : Node) (i : Item) → IdItem devfn n i → i.owner.node ≡ n
id_item_owner devfn n i (own_bus_lem p d r) = p
id_item_owner devfn n i (bus_range_lem p d r) = p

module _ {host : Host} {ns : List Node} (rise : BridgesRise ns) (tree : Tree host ns) (distinct : DistinctIds ns) (devfn : ℕ) where
  items_apart : (n m : Node) → n ∈ ns → m ∈ ns → (n.bus ≡ m.bus → n.devfn ≡ m.devfn → ⊥)
      → SiblingsApart n m
      → (i j : Item) → IdItem devfn n i → IdItem devfn m j → ApartOnBus i j
  items_apart n m in_n in_m differ siblings i j a b same = go a b
    where
      bus_same : i.owner.node ≡ n → j.owner.node ≡ m → n.bus ≡ m.bus
      bus_same p q = sym (ap (λ (x : Node). x.bus) p) ∙ same ∙ ap (λ (x : Node). x.bus) q

      go : IdItem devfn n i → IdItem devfn m j → Apart i.range j.range
      go (own_bus_lem p d r) (own_bus_lem q e s) = absurd (differ (bus_same p q) (d ∙ sym e))
      go (own_bus_lem p d r) (bus_range_lem q e s) = let up = all_elim _ ns rise in_m e in rw (r, s)
          (inl (omega (arith, bus_same p q, up.own_below)))
      go (bus_range_lem p d r) (own_bus_lem q e s) = let up = all_elim _ ns rise in_n d in rw (r, s)
          (inr (omega (arith, bus_same p q, up.own_below)))
      go (bus_range_lem p d r) (bus_range_lem q e s) = rw (r, s) (siblings d e (bus_same p q))

  -- a function's own bus and its range
  own_apart : (n : Node) → n ∈ ns → Pairwise ApartOnBus (items_of (by_id devfn n))
  unfolding items_of
  own_apart n m = go (eqb n.devfn devfn) n.bridge refl
    where
      go : (d b : Bool) → n.bridge ≡ b
          → Pairwise ApartOnBus
          (map (bar_item (by_id devfn n)) (cond d (own_bus n ∷ []) []) ++ map (window_item (by_id devfn n)) (cond b (bus_range n ∷ []) []))
      go true true e = let up = all_elim _ ns rise m e in ((λ _. inl (omega (arith, up.own_below)), tt), (tt, tt))
      go true false e = (tt, tt)
      go false true e = (tt, tt)
      go false false e = tt

  below_range : (n m : Node) → n ∈ ns → m ∈ ns → n.bridge ≡ true → m.bus ≡ n.secondary → (i : Item) → IdItem devfn m i
      → Within i.range (bus_range n)
  below_range n m in_n in_m is_bridge_lem at i (own_bus_lem p d r) =
      let up = all_elim _ ns rise in_n is_bridge_lem in
      rw r (record { start_inside = omega arith; stop_inside = omega (arith, up.range_open) })
  below_range n m in_n in_m is_bridge_lem at i (bus_range_lem p d r) = rw r
      (within_of_inside (all_elim _ ns (all_elim _ ns tree.in_parent in_n is_bridge_lem) in_m d at))

  below_node : (n : Node) → n ∈ ns → n.bridge ≡ true → (i : Item) → i ∈ items (map (by_id devfn) ns) → InWindowOf Within (by_id devfn n) i
  unfolding items
  below_node n in_n is_bridge_lem i in_items at =
      let (f, in_fs, in_part) = flat_elim items_of (map (by_id devfn) ns) in_items in
      let (m, in_m, same) = Memᴰ.of_map (by_id devfn) ns in_fs in
      let item = id_item devfn m i (subst (λ (g : Registers). i ∈ items_of g) (sym same) in_part) in
      inl (below_range n m in_n in_m is_bridge_lem (sym (ap (λ (x : Node). x.bus) (id_item_owner devfn m i item)) ∙ at) i item)

  pub by_id_sound : Sound host (map (by_id devfn) ns)
  unfolding items
  by_id_sound =
      record {
        bridges_rise = rw by_id_nodes rise;
        tree = rw by_id_nodes tree;
        in_window_above = all_map_intro _ (by_id devfn) ns (λ n m is_bridge_lem. all_intro _ _ (below_node n m is_bridge_lem));
        disjoint = record {
          apart_on_bus = pairwise_flat ApartOnBus items_of _ (all_map_intro _ (by_id devfn) ns own_apart)
              (pairwise_map _ (by_id devfn) ns across);
        };
      }
    where
      across : Pairwise (λ n m. (i j : Item) → i ∈ items_of (by_id devfn n) → j ∈ items_of (by_id devfn m) → ApartOnBus i j) ns
      across =
          pairwise_imp_members _ _ ns
          (λ n m in_n in_m both i j mi mj. items_apart n m in_n in_m both.0 both.1 i j (id_item devfn n i mi) (id_item devfn m j mj))
          (pairwise_both _ _ ns distinct tree.siblings_apart)

-- By ID a function holds the target's bus where it has the ID.
bar_of_id : (target devfn : ℕ) (n : Node) → n.bus ≡ target → n.devfn ≡ devfn → Some (λ r. Holds r target) (by_id devfn n).bars
bar_of_id target devfn n at same = rw (eq-eqb _ _ same) (inl (record { from_start = omega arith; before_stop = omega arith }))

id_of_bar : (target devfn : ℕ) (n : Node) → Some (λ r. Holds r target) (by_id devfn n).bars → (n.bus ≡ target) × (n.devfn ≡ devfn)
id_of_bar target devfn n h =
    let (r, in_bars, held) = member_of_some _ (by_id devfn n).bars h in
    let (same_devfn, only) = mem_cond_elim (eqb n.devfn devfn) (own_bus n ∷ []) in_bars in
    let own : Holds (own_bus n) target = rw (Memᴰ.eq_of_singleton only) at held in
    (omega (arith, own.from_start, own.before_stop), eqb-true _ _ same_devfn)

-- By ID as by address: the walk ends at the function with that ID, past the bridges above it, and else there is no owner.
module _ {host : Host} {ns : List Node} (rise : BridgesRise ns) (tree : Tree host ns) (distinct : DistinctIds ns) (target devfn : ℕ) where
  by_id_walk : (top from : ℕ) → walk_from (tally_by_id ns target devfn) top from
      ≡ walk_from (tally_on always (map (by_id devfn) ns) target) top from
  by_id_walk top from = walk_agree _ _ (λ bus. tally_by_id_agree ns rise target devfn bus distinct) top from

  has_id_of_owner : (f : Registers) → Owns host always (map (by_id devfn) ns) target f → (n : Node) × (by_id devfn n ≡ f)
      × HasId target devfn ns n
  has_id_of_owner f o =
      let (n, in_ns, same) = Memᴰ.of_map (by_id devfn) ns o.in_sheet in
      let (at, same_devfn) = id_of_bar target devfn n
      (subst (λ (g : Registers). Some (λ r. Holds r target) g.bars) (sym same) o.bar_holds_lem) in
      (n, same, record { in_sheet = in_ns; bus_is = at; devfn_is = same_devfn })

  owns_of_id : (n : Node) → HasId target devfn ns n → Owns host always (map (by_id devfn) ns) target (by_id devfn n)
  owns_of_id n h =
      record {
        in_sheet = Memᴰ.map (by_id devfn) h.in_sheet;
        bar_holds_lem = bar_of_id target devfn n h.bus_is h.devfn_is;
        is_enabled = refl;
        bridges_enabled = all_of _ (λ b. refl) (bridges_above host (map (by_id devfn) ns) (by_id devfn n));
      }

  pub delivered_by_id : (n : Node) → HasId target devfn ns n
      → walk_from (tally_by_id ns target devfn) host.first 0 ≡ delivered n.number (length (above host.first ns n.bus))
  delivered_by_id n h =
      by_id_walk host.first 0
      ∙ delivered_of_owner (by_id_sound rise tree distinct devfn) always target (by_id devfn n) (owns_of_id n h)
      ∙ ap (λ (ms : List Node). delivered n.number (length (above host.first ms n.bus))) (by_id_nodes devfn ns)

  -- it crosses those bridges, the uppermost first
  pub crosses_by_id : (n : Node) → HasId target devfn ns n
      → Trail (tally_by_id ns target devfn) host.first (downward (above host.first ns n.bus)) n.number
  crosses_by_id n h =
      let tally = tally_on always (map (by_id devfn) ns) target in
      let by_registers = crosses_bridges_above (by_id_sound rise tree distinct devfn) always target (by_id devfn n) (owns_of_id n h) in
      trail_agree _ _ (λ bus. sym (tally_by_id_agree ns rise target devfn bus distinct)) _ _ _
      (subst (λ (ms : List Node). Trail tally host.first (downward (above host.first ms n.bus)) n.number) (by_id_nodes devfn ns)
      by_registers)

  pub has_id_of_delivered : (number count : ℕ) → walk_from (tally_by_id ns target devfn) host.first 0 ≡ delivered number count
      → (n : Node) × HasId target devfn ns n × (n.number ≡ number) × (count ≡ length (above host.first ns n.bus))
  has_id_of_delivered number count e =
      let sound = by_id_sound rise tree distinct devfn in
      let (f, owns, number_is, count_is) = owner_of_delivered sound always target number count (sym (by_id_walk host.first 0) ∙ e) in
      let (n, same, h) = has_id_of_owner f owns in (
        n,
        h,
        ap (λ (g : Registers). g.node.number) same ∙ number_is,
        count_is
            ∙ ap (λ (ms : List Node). length (above host.first ms f.node.bus)) (by_id_nodes devfn ns)
            ∙ ap (λ (g : Registers). length (above host.first ns g.node.bus)) (sym same),
      )

  pub nobody_by_id : ((n : Node) → HasId target devfn ns n → ⊥) → walk_from (tally_by_id ns target devfn) host.first 0 ≡ refused no_owner
  nobody_by_id nobody =
      by_id_walk host.first 0
      ∙ otherwise_nobody (by_id_sound rise tree distinct devfn) always target (λ f o. let (n, _, h) = has_id_of_owner f o in nobody n h)
