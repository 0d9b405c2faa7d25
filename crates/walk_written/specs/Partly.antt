-- E14: bus registers written one after another, and command words at the end. Assumes nothing.
use Rattle.std.specs.Prelude.{◌≡◌, ◌⊎◌, Bool, true, false, cond, ℕ, ◌<◌, eqb, length}
use Rattle.std.proofs.Math.Path.{refl}
use Rattle.std.proofs.Common.{sym, ap, ap₂, subst, ◌∙◌, inl, inr, true≢false, suc-ne-zero, arith, eqb-true, eq-eqb}
use Rattle.std.proofs.lemmas.Bool.{false≢true, eqb-false}
use Rattle.std.proofs.Math.Bool.{and-eq-true_iff}
use mathlib.Core.List.Memᴰ
use mathlib.Core.List.{List, [], ◌∷◌, map}
use Rattle.lists.specs.Lists.{◌∈◌, All, keep}
use Rattle.lists.specs.ListLaws.{all_elim, all_intro, all_imp}
use Rattle.lists.specs.KeepLaws.{keep_only}
use Rattle.walk.specs.Ranges.{Holds}
use Rattle.walk.specs.Registers.{Node, Registers, nodes, bar, bar_item, window_item}
use Rattle.walk.proofs.RegistersLaws.{item_of_window, item_of_bar}
use Rattle.walk.specs.Tally.{none, one, join, tally_on}
use Rattle.walk.proofs.TallyLaws.{tally_quiet}
use Rattle.walk.specs.Walk.{Outcome, delivered, refused, no_owner, walk_from}
use Rattle.walk.proofs.WalkLaws.{walk_agree, walk_bar, walk_none}
use Rattle.walk.specs.Above.{above}
use Rattle.walk.proofs.AboveLaws.{root_le, above_root}
use Rattle.walk.specs.Good.{Host, BridgesRise, Tree, bus_range, Sound}
use Rattle.walk.proofs.Delivery.{Owns, outcome_of, bridges_above, delivered_of_owner, owner_of_delivered, otherwise_nobody}
use Rattle.walk.specs.Ids.{has_id, leads_toward, bridge_claim, first_of, tally_by_id, own_bus, by_id, DistinctIds}
use Rattle.walk.specs.Ids.{HasId}
use Rattle.walk.proofs.IdsLaws.{leads_toward_elim, never_both_ids, by_id_nodes}
use Rattle.walk.proofs.IdsDelivery.{by_id_sound, delivered_by_id}
use Rattle.walk.proofs.Holders.{Over, Under, holder_above}

-- ## Command words: some set, some still zero

-- Fewer enables: the same owner or none
module _ {host : Host} {fs : List Registers} (sound : Sound host fs) (enabled final : ℕ → Bool)
    (fewer : (n : ℕ) → enabled n ≡ true → final n ≡ true) (address : ℕ) where
  pub final_owner_or_none : (outcome_of host enabled fs address ≡ outcome_of host final fs address) ⊎
      (outcome_of host enabled fs address ≡ refused no_owner)
  final_owner_or_none = go (outcome_of host enabled fs address) refl
    where
      go : (o : Outcome) → outcome_of host enabled fs address ≡ o
          → (outcome_of host enabled fs address ≡ outcome_of host final fs address) ⊎ (outcome_of host enabled fs address ≡ refused no_owner)
      go (delivered n k) e =
          let (f, o, number_is, count_is) = owner_of_delivered sound enabled address n k e in
          let more : Owns host final fs address f =
          record {
            in_sheet = o.in_sheet;
            bar_holds_lem = o.bar_holds_lem;
            is_enabled = fewer _ o.is_enabled;
            bridges_enabled = all_imp _ _ (bridges_above host fs f) o.bridges_enabled (λ b h. fewer _ h);
          } in
          inl (e ∙ ap₂ delivered (sym number_is) count_is ∙ sym (delivered_of_owner sound final address f more))
      go (refused x) e = inr (otherwise_nobody sound enabled address (λ f o. never (sym e ∙ delivered_of_owner sound enabled address f o)))
        where
          never : {x n k : ℕ} → refused x ≡ delivered n k → ⊥
          never q = suc-ne-zero 0 (cc)

-- Nothing enabled: nobody, whatever else the registers hold
pub nothing_enabled : (fs : List Registers) (address bus : ℕ) → walk_from (tally_on (λ n. false) fs address) bus 0 ≡ refused no_owner
nothing_enabled fs address bus = walk_none _ bus 0 (quiet bus)
  where
    quiet : (b : ℕ) → tally_on (λ n. false) fs address b ≡ none
    quiet b = tally_quiet (λ n. false) fs address b (λ i m c. false≢true c.is_enabled)

-- ## Bus registers: some written, some still zero

abbrev pub blank : Node → Node
blank n = record { number = n.number; bus = n.bus; devfn = n.devfn; bridge = n.bridge; secondary = 0; subordinate = 0 }

abbrev pub masked : (ℕ → Bool) → Node → Node
masked written n = cond (written n.number) n (blank n)

module _ (written : ℕ → Bool) (target devfn : ℕ) where
  -- by ID nothing changes for the functions themselves
  first_masked : (ns : List Node) → first_of (keep (has_id target devfn) (map (masked written) ns)) ≡ first_of (keep (has_id target devfn) ns)
  unfolding keep
  first_masked [] = refl
  first_masked (n ∷ ns) = go (written n.number) (has_id target devfn n) refl (first_masked ns)
    where
      rest : List Node
      rest = keep (has_id target devfn) (map (masked written) ns)

      go : (w h : Bool) → has_id target devfn n ≡ h
          → first_of (keep (has_id target devfn) (map (masked written) ns)) ≡ first_of (keep (has_id target devfn) ns)
          → first_of (cond (has_id target devfn (cond w n (blank n))) (cond w n (blank n) ∷ rest) rest)
          ≡ first_of (cond h (n ∷ keep (has_id target devfn) ns) (keep (has_id target devfn) ns))
      go true true e later = rw e
      go true false e later = rw e later
      go false true e later = rw e
      go false false e later = rw e later

  -- a bridge that is not written leads nowhere, and none that leads toward the target is unwritten
  bridges_masked : (bus : ℕ) → 0 < target → (ns : List Node) → All (λ n. leads_toward target bus n ≡ true → written n.number ≡ true) ns
      → map bridge_claim (keep (leads_toward target bus) (map (masked written) ns)) ≡ map bridge_claim (keep (leads_toward target bus) ns)
  unfolding keep
  bridges_masked bus positive [] h = refl
  bridges_masked bus positive (n ∷ ns) h =
      go (written n.number) refl (leads_toward target bus n) refl (bridges_masked bus positive ns h.1)
    where
      rest : List Node
      rest = keep (leads_toward target bus) (map (masked written) ns)

      astray : leads_toward target bus (blank n) ≡ false
      astray = go (leads_toward target bus (blank n)) refl
        where
          go : (t : Bool) → leads_toward target bus (blank n) ≡ t → t ≡ false
          go true e =
              absurd (omega (arith, (leads_toward_elim target bus (blank n) e).2.before_stop, positive))
          go false e = refl

      go : (w : Bool) → written n.number ≡ w → (l : Bool) → leads_toward target bus n ≡ l
          → map bridge_claim (keep (leads_toward target bus) (map (masked written) ns)) ≡ map bridge_claim (keep (leads_toward target bus) ns)
          → map bridge_claim (cond (leads_toward target bus (cond w n (blank n))) (cond w n (blank n) ∷ rest) rest)
          ≡ map bridge_claim (cond l (n ∷ keep (leads_toward target bus) ns) (keep (leads_toward target bus) ns))
      go true e true q later = rw q (ap (bridge_claim n ∷◌) later)
      go true e false q later = rw q later
      go false e true q later = absurd (true≢false (sym (h.0 q) ∙ e))
      go false e false q later = rw astray later

module _ {host : Host} {ns : List Node} (rise : BridgesRise ns) (tree : Tree host ns) (distinct : DistinctIds ns) where
  -- a bridge whose range holds a function's bus is above it
  toward_is_above : (x n : Node) → x ∈ ns → n ∈ ns → n.bridge ≡ true → Holds (bus_range n) x.bus
      → n ∈ above host.first ns x.bus
  toward_is_above x n mx mn is_bridge_lem held =
      let fs = map (by_id x.devfn) ns in
      let sound = by_id_sound rise tree distinct x.devfn in
      let g = by_id x.devfn x in
      let mg : g ∈ fs = Memᴰ.map (by_id x.devfn) mx in
      let own : own_bus x ∈ g.bars = rw (eq-eqb x.devfn x.devfn refl) (Memᴰ.head refl) in
      let under : Under fs x.bus g (bar_item g (own_bus x)) =
      record {
        in_items = item_of_bar fs mg own;
        is_own_lem = refl;
        is_bar_lem = refl;
        over = record { from_start = omega arith; before_stop = omega arith };
      } in
      let b = by_id x.devfn n in
      let over : Over fs x.bus (window_item b (bus_range n)) =
      record {
        in_items =
            item_of_window fs (Memᴰ.map (by_id x.devfn) mn) is_bridge_lem (Memᴰ.head refl);
        is_window_lem = refl;
        over = held;
      } in
      let same : nodes fs ≡ ns = by_id_nodes x.devfn ns in
      subst (λ (l : List Node). n ∈ above host.first l x.bus) same
      (holder_above sound x.bus g mg (bar_item g (own_bus x)) under (window_item b (bus_range n)) over)

  -- Every write finds its function as soon as the bridges above that function are written
  pub delivered_partly : (written : ℕ → Bool) (x : Node) → x ∈ ns
      → All (λ b. written b.number ≡ true) (above host.first ns x.bus)
      → walk_from (tally_by_id (map (masked written) ns) x.bus x.devfn) host.first 0
      ≡ delivered x.number (length (above host.first ns x.bus))
  unfolding tally_by_id
  delivered_partly written x mx on = go (eqb x.bus host.first) refl
    where
      has : HasId x.bus x.devfn ns x
      has = record { in_sheet = mx; bus_is = refl; devfn_is = refl }

      final : walk_from (tally_by_id ns x.bus x.devfn) host.first 0 ≡ delivered x.number (length (above host.first ns x.bus))
      final = delivered_by_id rise tree distinct x.bus x.devfn x has

      leads : (bus : ℕ) → All (λ n. leads_toward x.bus bus n ≡ true → written n.number ≡ true) ns
      leads bus =
          all_intro _ ns (λ n mn e.
          let (at, is_bridge_lem, held) = leads_toward_elim x.bus bus n e in
          all_elim _ (above host.first ns x.bus) on (toward_is_above x n mx mn is_bridge_lem held))

      agree : 0 < x.bus → (bus : ℕ) → tally_by_id (map (masked written) ns) x.bus x.devfn bus ≡ tally_by_id ns x.bus x.devfn bus
      agree positive bus = by_test (eqb bus x.bus)
        where
          by_test : (t : Bool)
              → cond t (first_of (keep (has_id x.bus x.devfn) (map (masked written) ns)))
              (join none (map bridge_claim (keep (leads_toward x.bus bus) (map (masked written) ns))))
              ≡ cond t (first_of (keep (has_id x.bus x.devfn) ns)) (join none (map bridge_claim (keep (leads_toward x.bus bus) ns)))
          by_test true = first_masked written x.bus x.devfn ns
          by_test false = ap (join none) (bridges_masked written x.bus x.devfn bus positive ns (leads bus))

      go : (t : Bool) → eqb x.bus host.first ≡ t
          → walk_from (tally_by_id (map (masked written) ns) x.bus x.devfn) host.first 0
          ≡ delivered x.number (length (above host.first ns x.bus))
      go false e =
          let low = root_le rise tree x mx in
          let differ : x.bus ≡ host.first → ⊥ = eqb-false x.bus host.first e in
          let positive : 0 < x.bus = omega (arith, low, differ) in
          walk_agree _ _ (agree positive) host.first 0 ∙ final
      go true e =
          let at : x.bus ≡ host.first = eqb-true x.bus host.first e in
          let only : keep (has_id x.bus x.devfn) ns ≡ x ∷ [] =
          keep_only (has_id x.bus x.devfn) (never_both_ids x.bus x.devfn) ns distinct mx
          ((and-eq-true_iff (eqb x.bus x.bus) (eqb x.devfn x.devfn)).1
          (eq-eqb x.bus x.bus refl, eq-eqb x.devfn x.devfn refl)) in
          let found : tally_by_id (map (masked written) ns) x.bus x.devfn host.first ≡ one (bar x.number) =
          rw (eq-eqb host.first x.bus (sym at)) (first_masked written x.bus x.devfn ns ∙ ap first_of only) in
          walk_bar _ host.first 0 x.number found
          ∙ ap (λ (l : List Node). delivered x.number (length l)) (sym (above_root rise tree x mx at))
