-- Document 03's promise, on sound bus numbers: from what a climb comes to over the registers by ID. Assumes nothing.
use Rattle.std.specs.Prelude.{◌≡◌, ◌⊎◌, ◌↔◌, Bool, cond, ℕ, ◌+◌, ◌<◌, ◌/◌, ◌%◌, eqb, length}
use Rattle.std.proofs.Math.Path.{refl, ap}
use Rattle.std.proofs.Common.{sym, ap₂, subst, ◌∙◌, inl, inr, true≢false, suc-ne-zero, arith, eqb-true, eq-eqb, ne_eqb}
use Rattle.std.proofs.Math.Bool.{true, false, and-eq-true_iff}
use mathlib.Mathlib.Data.Bool.Basic.{eq-false_of_not-eq-true}
use mathlib.Core.List.Memᴰ
use mathlib.Core.List.{List, [], ◌∷◌, map, reverse}
use mathlib.Core.List.{cons≢nil}
use Rattle.std.proofs.lemmas.List.{length-map}
use Rattle.std.proofs.lemmas.Bool.{eqb-false}
use Rattle.lists.specs.Lists.{◌∈◌, Some, keep}
use Rattle.lists.specs.ListLaws.{all_of, all_elim, all_intro, member_of_some, mem_cond_elim, pairwise_members}
use Rattle.lists.specs.KeepLaws.{keep_none, keep_intro}
use Rattle.walk.specs.Ranges.{Holds}
use Rattle.walk.proofs.Ranges.{holds_iff, any_holds_iff, holds_of_within, within_of_inside}
use Rattle.walk.specs.Registers.{Node, Registers, nodes, NumberedFrom}
use Rattle.walk.proofs.RegistersLaws.{node_mem, number_unique}
use Rattle.walk.specs.Tally.{Tally, none, join, tally_on}
use Rattle.walk.proofs.TallyLaws.{claims_of_none}
use Rattle.walk.specs.Walk.{no_owner}
use Rattle.walk.proofs.WalkLaws.{walk_none}
use Rattle.walk.specs.Above.{LeadsTo, bridges_to, Above, above}
use Rattle.walk.proofs.AboveLaws.{above_is, only_bridge_elim, root_le, leads_unique}
use Rattle.walk.proofs.WayLaws.{way_leads}
use Rattle.walk.specs.Good.{Host, BridgesRise, bus_range, OneWayUp, Tree, Sound}
use Rattle.walk.proofs.Reach.{Reaches, numbers_of}
use Rattle.walk.proofs.Delivery.{bridges_above, way_of}
use Rattle.walk.proofs.Holders.{under_of_bar, over_of_window, holder_above}
use Rattle.walk.specs.Ids.{has_id, leads_toward, bridge_claim, first_of, tally_by_id, own_bus, by_id, always, DistinctIds, HasId}
use Rattle.walk.proofs.IdsLaws.{by_id_nodes, tally_by_id_agree, has_id_elim, leads_toward_elim}
use Rattle.walk.proofs.IdsDelivery.{by_id_sound, delivered_by_id}
use Rattle.walk.specs.Climb.{Up, to_host, across, Sent, arrives, leaves, stops, window_holds, up_from, climb_from, CardTrail}
use Rattle.walk.proofs.ClimbLaws.{card_trail_unique, climb_step}
use Rattle.walk.specs.Cards.{without}
use Rattle.walk.proofs.CardWays.{Way, Comes, to_owner, to_host_lem, unmastered, nobody, climb_comes, arrives_of_way, leaves_of_way}
use Rattle.walk.proofs.CardWays.{trail_of_way}
use Rattle.walk.proofs.MeetingLaws.{Meeting, meeting, up_is, down_is}
use Rattle.climb_ids.specs.ById.{up_past, up_unless, buses_hold, never, nothing, sent_to_other, sent_up}
use Rattle.climb_ids.proofs.ByIdLaws.{falling_unless, up_agree, Sender, sent_climb, sent_own}
use Rattle.climb_ids.specs.Promise.{RootLeads, GoesTo, GoesToHost, crossed_up, crossed_down, AnswersById}

-- ## A function by ID has the target's bus as a BAR where it has the ID

bar_of_id : (target devfn : ℕ) (n : Node) → n.bus ≡ target → n.devfn ≡ devfn → Some (λ r. Holds r target) (by_id devfn n).bars
bar_of_id target devfn n at same = rw (eq-eqb _ _ same) (inl (record { from_start = omega arith; before_stop = omega arith }))

id_of_bar : (target devfn : ℕ) (n : Node) → Some (λ r. Holds r target) (by_id devfn n).bars → (n.bus ≡ target) × (n.devfn ≡ devfn)
id_of_bar target devfn n h =
    let (r, in_bars, held) = member_of_some _ (by_id devfn n).bars h in
    let (same_devfn, only) = mem_cond_elim (eqb n.devfn devfn) (own_bus n ∷ []) in_bars in
    let own : Holds (own_bus n) target = rw (Memᴰ.eq_of_singleton only) at held in
    (omega (arith, own.from_start, own.before_stop), eqb-true _ _ same_devfn)

-- ## The ID's bus, seen from the root bus

module _ {host : Host} {ns : List Node} (rise : BridgesRise ns) (tree : Tree host ns) (target devfn : ℕ) where
  leads_from : (us : List Node) (n : Node) → n ∈ ns → n.bridge ≡ true → Above host.first ns n.bus us → Holds (bus_range n) target
      → RootLeads host.first target ns
  unfolding Above
  leads_from [] n m is_bridge_lem a held =
      record { bridge = n; in_sheet = m; is_bridge_lem = is_bridge_lem; on_root_lem = a; buses_hold_lem = held }
  leads_from (u ∷ us) n m is_bridge_lem (l, a) held =
      let inside = all_elim _ ns (all_elim _ ns tree.in_parent l.in_sheet l.is_bridge_lem) m is_bridge_lem (sym l.leads) in
      leads_from us u l.in_sheet l.is_bridge_lem a (holds_of_within (within_of_inside inside) held)

  -- a bridge that has the ID's bus among its buses stands below one on the root bus that has, or is one
  leads_of_holds : (n : Node) → n ∈ ns → n.bridge ≡ true → Holds (bus_range n) target → RootLeads host.first target ns
  leads_of_holds n m is_bridge_lem held = leads_from _ n m is_bridge_lem (above_is rise tree n m) held

  quiet_of : ((n : Node) → ¬ HasId target devfn ns n) → ¬ RootLeads host.first target ns → tally_by_id ns target devfn host.first ≡ none
  unfolding tally_by_id join
  quiet_of none_has none_leads = go (eqb host.first target) refl
    where
      lacks : (n : Node) → n ∈ ns → has_id target devfn n ≡ false
      lacks n m =
          eq-false_of_not-eq-true (λ h.
          let (at, same) = has_id_elim target devfn n h in none_has n (record { in_sheet = m; bus_is = at; devfn_is = same }))

      off : (n : Node) → n ∈ ns → leads_toward target host.first n ≡ false
      off n m =
          eq-false_of_not-eq-true (λ h.
          let (at, is_bridge_lem, held) = leads_toward_elim target host.first n h in
          none_leads (record { bridge = n; in_sheet = m; is_bridge_lem = is_bridge_lem; on_root_lem = at; buses_hold_lem = held }))

      go : (b : Bool) → eqb host.first target ≡ b
          → cond b (first_of (keep (has_id target devfn) ns)) (join none (map bridge_claim (keep (leads_toward target host.first) ns))) ≡ none
      go true e = rw (keep_none (has_id target devfn) ns (all_intro _ ns lacks))
      go false e = rw (keep_none (leads_toward target host.first) ns (all_intro _ ns off))

  no_leads_of_quiet : tally_by_id ns target devfn host.first ≡ none → ¬ RootLeads host.first target ns
  unfolding tally_by_id
  no_leads_of_quiet quiet l = go (eqb host.first target) refl quiet
    where
      r : (n : Node) → n ∈ ns → n.bridge ≡ true → n.bus < n.secondary
      r n m is_bridge_lem = (all_elim _ ns rise m is_bridge_lem).own_below

      nil_of_map : (ks : List Node) → map bridge_claim ks ≡ [] → ks ≡ []
      nil_of_map [] e = refl
      nil_of_map (k ∷ ks) e = absurd (cons≢nil e)

      passes : leads_toward target host.first l.bridge ≡ true
      passes =
          (and-eq-true_iff _ _).1
          (eq-eqb _ _ l.on_root_lem, (and-eq-true_iff _ _).1 (l.is_bridge_lem, (holds_iff (bus_range l.bridge) target).1 l.buses_hold_lem))

      go : (b : Bool) → eqb host.first target ≡ b
          → cond b (first_of (keep (has_id target devfn) ns)) (join none (map bridge_claim (keep (leads_toward target host.first) ns))) ≡ none
          → ⊥
      go true e q =
          let at : host.first ≡ target = eqb-true _ _ e in
          omega (arith, at, r l.bridge l.in_sheet l.is_bridge_lem, l.on_root_lem, l.buses_hold_lem.from_start)
      go false e q =
          let kept_are = keep (leads_toward target host.first) ns in
          let none_kept = nil_of_map kept_are (claims_of_none (map bridge_claim kept_are) q) in
          let kept = keep_intro (leads_toward target host.first) ns l.in_sheet passes in
          Memᴰ.not-nil (rw none_kept at kept)

  no_id_of_quiet : DistinctIds ns → tally_by_id ns target devfn host.first ≡ none → (n : Node) → ¬ HasId target devfn ns n
  no_id_of_quiet distinct quiet n h =
      let e = sym (walk_none (tally_by_id ns target devfn) host.first 0 quiet) ∙ delivered_by_id rise tree distinct target devfn n h in
      suc-ne-zero 0 (cc)

-- ## What a climb by ID comes to

-- who has the ID, and the bridges above a function, by record numbers
pub record TellsIds (host : Host) (ns : List Node) (target devfn : ℕ) (Has : ℕ → Type 0) (above_of : ℕ → List ℕ) : Type 0 where
  pub has_of : (n : Node) → HasId target devfn ns n → Has n.number
  pub of_has : (j : ℕ) → Has j → (n : Node) × HasId target devfn ns n × (n.number ≡ j)
  pub above_agree : (n : Node) → n ∈ ns → numbers_of (above host.first ns n.bus) ≡ above_of n.number

module _ {host : Host} {ns : List Node} (rise : BridgesRise ns) (tree : Tree host ns) (distinct : DistinctIds ns) (target devfn : ℕ)
    (numbered : NumberedFrom 1 (map (by_id devfn) ns)) (Has : ℕ → Type 0) (above_of : ℕ → List ℕ)
    (tells : TellsIds host ns target devfn Has above_of) where
  abbrev Leads : Type 0
  Leads = RootLeads host.first target ns

  sound : Sound host (map (by_id devfn) ns)
  sound = by_id_sound rise tree distinct devfn

  tallies : tally_by_id ns target devfn ≡ tally_on always (map (by_id devfn) ns) target
  tallies = λ i bus. tally_by_id_agree ns rise target devfn bus distinct i

  ups : up_unless (buses_hold target) ns host.first ≡ up_from always (map (by_id devfn) ns) target host.first
  ups = λ i bus. up_agree ns target devfn host.first bus i

  member : (n : Node) → n ∈ ns → by_id devfn n ∈ map (by_id devfn) ns
  member n m = Memᴰ.map (by_id devfn) m

  in_nodes : (n : Node) → n ∈ ns → n ∈ nodes (map (by_id devfn) ns)
  in_nodes n m = node_mem (member n m)

  above_by : (n : Node) → n ∈ ns → numbers_of (bridges_above host (map (by_id devfn) ns) (by_id devfn n)) ≡ above_of n.number
  above_by n m =
      ap (λ (ms : List Node). numbers_of (above host.first ms n.bus)) (by_id_nodes devfn ns) ∙ tells.above_agree n m

  -- who has a BAR over the target's bus has the ID
  id_of_lem : (g : Registers) → g ∈ map (by_id devfn) ns → Some (λ r. Holds r target) g.bars
      → (n : Node) × (by_id devfn n ≡ g) × HasId target devfn ns n
  id_of_lem g mg held =
      let (n, in_ns, same) = Memᴰ.of_map (by_id devfn) ns mg in
      let (at, same_devfn) =
      id_of_bar target devfn n (subst (λ (f : Registers). Some (λ r. Holds r target) f.bars) (sym same) held) in
      (n, same, record { in_sheet = in_ns; bus_is = at; devfn_is = same_devfn })

  module _ (x : Node) (mx : x ∈ ns) where
    abbrev k : ℕ
    k = x.number

    -- the climb from its bus
    abbrev climb : Sent
    climb = climb_from (tally_by_id ns target devfn) (up_unless (buses_hold target) ns host.first) x.bus 0

    climb_is : climb ≡ climb_from (tally_on always (map (by_id devfn) ns) target) (up_from always (map (by_id devfn) ns) target host.first)
        x.bus 0
    climb_is = ap₂ (λ (t : ℕ → Tally) (u : ℕ → Up). climb_from t u x.bus 0) tallies ups

    -- ## Another function

    module _ (g : Node) (mg : g ∈ ns) (m : Meeting sound numbered x.bus (by_id devfn g)) where
      up_numbers : crossed_up Has above_of Leads k g.number ≡ numbers_of m.us
      up_numbers =
          ap₂ without (sym (above_by g mg)) (sym (above_by x mx))
          ∙ up_is sound numbered (by_id devfn x) (by_id devfn g) (member x mx) (member g mg) m

      down_numbers : crossed_down Has above_of Leads k g.number ≡ numbers_of m.down
      down_numbers =
          ap₂ without (sym (above_by x mx)) (sym (above_by g mg))
          ∙ down_is sound numbered (by_id devfn x) (by_id devfn g) (member x mx) (member g mg) m

      count_is : length (crossed_up Has above_of Leads k g.number) + length (crossed_down Has above_of Leads k g.number)
          ≡ length m.us + length m.down
      count_is =
          omega (
            arith,
            ap (λ (l : List ℕ). length l) up_numbers,
            ap (λ (l : List ℕ). length l) down_numbers,
            length-map m.us (λ (n : Node). n.number),
            length-map m.down (λ (n : Node). n.number),
          )

    -- up to where the ways meet, and down to the function with the ID
    record Travels (g : Node) (m : Meeting sound numbered x.bus (by_id devfn g)) : Type 0 where
      up_way : Way always (map (by_id devfn) ns) target x.bus m.us m.top
      reached : Reaches always (map (by_id devfn) ns) target m.top (by_id devfn g) m.down

    meets : (g : Node) → g ∈ ns → Meeting sound numbered x.bus (by_id devfn g)
    meets g mg = meeting sound numbered (by_id devfn x) (by_id devfn g) (member x mx) (member g mg)

    travels : (g : Node) (h : HasId target devfn ns g) → Travels g (meets g h.in_sheet)
    unfolding meets
    travels g h =
        record {
          up_way = record {
            goes_up = m.up_way;
            are_masters = all_of _ (λ u. refl) m.us;
            are_blind = all_intro _ m.us (λ u n f mf same. blind u n f mf same (window_holds target f) refl);
          };
          reached = record {
            in_sheet = member g h.in_sheet;
            bar_holds_lem = bar_of_id target devfn g h.bus_is h.devfn_is;
            is_enabled = refl;
            way_up = m.down_way;
            bridges_enabled = all_of _ (λ u. refl) m.down;
          };
        }
      where
        m : Meeting sound numbered x.bus (by_id devfn g)
        m = meeting sound numbered (by_id devfn x) (by_id devfn g) (member x mx) (member g h.in_sheet)

        -- a bridge that is not above g does not have g's bus among its buses
        blind : (u : Node) → u ∈ (meeting sound numbered (by_id devfn x) (by_id devfn g) (member x mx) (member g h.in_sheet)).us
            → (f : Registers) → f ∈ map (by_id devfn) ns → f.node ≡ u → (t : Bool) → window_holds target f ≡ t → t ≡ false
        blind u n f mf same false e = refl
        blind u n f mf same true e =
            let (y, under) = under_of_bar (map (by_id devfn) ns) target (by_id devfn g) (member g h.in_sheet)
            (bar_of_id target devfn g h.bus_is h.devfn_is) in
            let leads = way_leads (nodes (map (by_id devfn) ns)) m.top x.bus m.us u m.up_way n in
            let (w, o, is) = over_of_window (map (by_id devfn) ns) target f mf (ap (λ (z : Node). z.bridge) same ∙ leads.1)
            ((any_holds_iff target f.windows).0 e) in
            absurd (all_elim _ m.us m.us_other n
            (subst (λ (v : Node). v ∈ bridges_above host (map (by_id devfn) ns) (by_id devfn g)) (ap (λ (z : Registers). z.node) is ∙ same)
            (holder_above sound target (by_id devfn g) (member g h.in_sheet) y under w o)))

    arrives_at : (g : Node) → HasId target devfn ns g
        → climb
        ≡ arrives g.number (length (crossed_up Has above_of Leads k g.number) + length (crossed_down Has above_of Leads k g.number))
    arrives_at g h =
        let m = meets g h.in_sheet in
        let t = travels g h in
        climb_is
        ∙ arrives_of_way sound numbered always always target x (in_nodes x mx) 0 m.top m.us t.up_way (by_id devfn g) m.down
        t.reached
        ∙ ap (arrives g.number) (omega (arith, count_is g h.in_sheet m))

    pub arrives_of : (j : ℕ) → Has j
        → climb ≡ arrives j (length (crossed_up Has above_of Leads k j) + length (crossed_down Has above_of Leads k j))
    arrives_of j has =
        let (g, h, is_j) = tells.of_has j has in
        subst (λ (j : ℕ). climb ≡ arrives j (length (crossed_up Has above_of Leads k j) + length (crossed_down Has above_of Leads k j))) is_j
        (arrives_at g h)

    -- it crosses those bridges and no others: up the nearest to the sender first, down the uppermost first
    trail_of : (j : ℕ) → Has j
        → CardTrail (tally_by_id ns target devfn) (up_unless (buses_hold target) ns host.first) x.bus
        (crossed_up Has above_of Leads k j) (reverse (crossed_down Has above_of Leads k j)) j
    trail_of j has =
        let (g, h, is_j) = tells.of_has j has in
        let m = meets g h.in_sheet in
        let t = travels g h in
        subst (λ (j : ℕ). CardTrail (tally_by_id ns target devfn) (up_unless (buses_hold target) ns host.first) x.bus
        (crossed_up Has above_of Leads k j) (reverse (crossed_down Has above_of Leads k j)) j) is_j
        (rw (tallies, ups, up_numbers g h.in_sheet m, down_numbers g h.in_sheet m)
        (trail_of_way sound numbered always always target x (in_nodes x mx) m.top m.us t.up_way (by_id devfn g) m.down
        t.reached))

    pub crosses_iff : (j : ℕ) → Has j → (ups downs : List ℕ)
        → CardTrail (tally_by_id ns target devfn) (up_unless (buses_hold target) ns host.first) x.bus ups downs j
        ↔ ((ups ≡ crossed_up Has above_of Leads k j) × (downs ≡ reverse (crossed_down Has above_of Leads k j)))
    crosses_iff j has ups downs = (to, from)
      where
        to : CardTrail (tally_by_id ns target devfn) (up_unless (buses_hold target) ns host.first) x.bus ups downs j
            → (ups ≡ crossed_up Has above_of Leads k j) × (downs ≡ reverse (crossed_down Has above_of Leads k j))
        to t = let u = card_trail_unique _ _ _ _ _ _ _ _ _ t (trail_of j has) in (u.0, u.1)

        from : (ups ≡ crossed_up Has above_of Leads k j) × (downs ≡ reverse (crossed_down Has above_of Leads k j))
            → CardTrail (tally_by_id ns target devfn) (up_unless (buses_hold target) ns host.first) x.bus ups downs j
        from (up_are, down_are) = rw (up_are, down_are) (trail_of j has)

    -- ## The host

    leaves_of : GoesToHost Has above_of Leads → climb ≡ leaves (length (above_of k))
    leaves_of (none_has, none_leads) =
        let bs = bridges_above host (map (by_id devfn) ns) (by_id devfn x) in
        let way : Way always (map (by_id devfn) ns) target x.bus bs host.first =
        record {
          goes_up = way_of sound (by_id devfn x) (member x mx);
          are_masters = all_of _ (λ u. refl) bs;
          are_blind = all_intro _ bs (λ u n f mf same. blind u n f mf same (window_holds target f) refl);
        } in
        let quiet = quiet_of rise tree target devfn (λ n h. none_has n.number (tells.has_of n h)) none_leads in
        climb_is
        ∙ leaves_of_way sound numbered always always target x (in_nodes x mx) 0 host.first bs way refl
        (ap (λ (t : ℕ → Tally). t host.first) (sym tallies) ∙ quiet)
        ∙ ap leaves (omega (arith, length-map bs (λ (n : Node). n.number), ap (λ (l : List ℕ). length l) (above_by x mx)))
      where
        blind : (u : Node) → u ∈ bridges_above host (map (by_id devfn) ns) (by_id devfn x)
            → (f : Registers) → f ∈ map (by_id devfn) ns → f.node ≡ u → (t : Bool) → window_holds target f ≡ t → t ≡ false
        blind u n f mf same false e = refl
        blind u n f mf same true e =
            let leads =
            way_leads (nodes (map (by_id devfn) ns)) host.first x.bus (bridges_above host (map (by_id devfn) ns) (by_id devfn x)) u
            (way_of sound (by_id devfn x) (member x mx)) n in
            let (v, in_ns, same_f) = Memᴰ.of_map (by_id devfn) ns mf in
            let held : Some (λ r. Holds r target) (by_id devfn v).windows =
            subst (λ (z : Registers). Some (λ r. Holds r target) z.windows) (sym same_f) ((any_holds_iff target f.windows).0 e) in
            absurd (none_leads (leads_of_holds rise tree target devfn v in_ns
            (ap (λ (z : Registers). z.node.bridge) same_f ∙ ap (λ (z : Node). z.bridge) same ∙ leads.1) (only v held)))
          where
            only : (v : Node) → Some (λ r. Holds r target) (by_id devfn v).windows → Holds (bus_range v) target
            only v (inl h) = h
            only v (inr h) = absurd h

    -- ## Every answer, and why, where the sender has another ID

    data Answer : Type 0 where
      owned : (j : ℕ) → Has j → climb ≡ arrives j (length (crossed_up Has above_of Leads k j) + length (crossed_down Has above_of Leads k j))
          → Answer
      host_bound : GoesToHost Has above_of Leads → climb ≡ leaves (length (above_of k)) → Answer
      unowned : climb ≡ stops no_owner → Answer

    -- the root bus has no claim
    host_of_quiet : tally_on always (map (by_id devfn) ns) target host.first ≡ none → GoesToHost Has above_of Leads
    host_of_quiet q =
        let quiet : tally_by_id ns target devfn host.first ≡ none = ap (λ (t : ℕ → Tally). t host.first) tallies ∙ q in (
          λ j has. let (n, h, is) = tells.of_has j has in no_id_of_quiet rise tree target devfn distinct quiet n h,
          no_leads_of_quiet rise tree target devfn quiet,
        )

    answer_of_comes : Comes sound numbered always always target x.bus 0 climb → Answer
    answer_of_comes (nobody e) = unowned e
    answer_of_comes (unmastered us top u w l blind not_m e) = absurd (true≢false not_m)
    answer_of_comes (to_host_lem us w quiet e) = let goes = host_of_quiet quiet in host_bound goes (leaves_of goes)
    answer_of_comes (to_owner us top w g down r e) =
        let (n, same, h) = id_of_lem g r.in_sheet r.bar_holds_lem in
        owned n.number (tells.has_of n h) (arrives_at n h)

    answered : Answer
    answered =
        answer_of_comes
        (subst (Comes sound numbered always always target x.bus 0) (sym climb_is)
        (climb_comes sound numbered always always target x (in_nodes x mx) 0))

    -- ## The promise

    module _ (lacks : ¬ HasId target devfn ns x) where
      other : (j : ℕ) → Has j → ¬ (j ≡ k)
      other j has same =
          let (n, h, is_j) = tells.of_has j has in
          lacks (subst (HasId target devfn ns) (numbers_name n h.in_sheet (is_j ∙ same)) h)
        where
          numbers_name : (n : Node) → n ∈ ns → n.number ≡ x.number → n ≡ x
          numbers_name n m e =
              ap (λ (f : Registers). f.node) (number_unique 1 (map (by_id devfn) ns) (by_id devfn n) (by_id devfn x) numbered (member n m)
              (member x mx) e)

      pub climb_answers : AnswersById Has above_of Leads k climb
      climb_answers =
          record {
            arrives_exactly = λ j count. (
              λ e. owner j count e answered,
              λ (goes, c). arrives_of j goes.0 ∙ ap (arrives j) (sym c),
            );
            leaves_exactly = λ count. (λ e. leaver count e answered, λ (goes, c). leaves_of goes ∙ ap leaves (sym c));
            else_no_owner = else answered;
            no_other_number = λ n e. number n e answered;
          }
        where
          owner : (j count : ℕ) → climb ≡ arrives j count → Answer
              → GoesTo Has above_of Leads k j
              × (count ≡ length (crossed_up Has above_of Leads k j) + length (crossed_down Has above_of Leads k j))
          owner j count e (owned i has q) =
              let both : arrives j count
              ≡ arrives i (length (crossed_up Has above_of Leads k i) + length (crossed_down Has above_of Leads k i)) = sym e ∙ q in
              let same : i ≡ j = cc in
              let count_same : count ≡ length (crossed_up Has above_of Leads k i) + length (crossed_down Has above_of Leads k i) = cc in
              let has_j = subst Has same has in (
                (has_j, other j has_j),
                count_same
                    ∙ ap (λ (n : ℕ). length (crossed_up Has above_of Leads k n) + length (crossed_down Has above_of Leads k n)) same,
              )
          owner j count e (host_bound v q) = let z = sym e ∙ q in absurd (suc-ne-zero 0 (cc))
          owner j count e (unowned q) = let z = sym e ∙ q in absurd (suc-ne-zero 0 (cc))

          leaver : (count : ℕ) → climb ≡ leaves count → Answer → GoesToHost Has above_of Leads × (count ≡ length (above_of k))
          leaver count e (owned i has q) = let z = sym e ∙ q in absurd (suc-ne-zero 0 (cc))
          leaver count e (host_bound v q) = let z : leaves count ≡ leaves (length (above_of k)) = sym e ∙ q in (v, cc)
          leaver count e (unowned q) = let z = sym e ∙ q in absurd (suc-ne-zero 0 (cc))

          else : Answer → ((j : ℕ) → ¬ GoesTo Has above_of Leads k j) → ¬ GoesToHost Has above_of Leads → climb ≡ stops no_owner
          else (owned i has q) no_owner_lem no_host_lem = absurd (no_owner_lem i (has, other i has))
          else (host_bound v q) no_owner_lem no_host_lem = absurd (no_host_lem v)
          else (unowned q) no_owner_lem no_host_lem = q

          number : (n : ℕ) → climb ≡ stops n → Answer → n ≡ no_owner
          number n e (owned i has q) = let z = sym e ∙ q in absurd (suc-ne-zero 0 (cc))
          number n e (host_bound v q) = let z = sym e ∙ q in absurd (suc-ne-zero 0 (cc))
          number n e (unowned q) = let z : stops n ≡ stops no_owner = sym e ∙ q in cc

-- ## From the function with an ID, for any ID: its own is 40

same_id : (a b : ℕ) → a / 256 ≡ b / 256 → a % 256 ≡ b % 256 → a ≡ b
same_id a b p q = omega arith

module _ {host : Host} {ns : List Node} (rise : BridgesRise ns) (tree : Tree host ns) (distinct : DistinctIds ns) (id own : ℕ)
    (numbered : NumberedFrom 1 (map (by_id (id % 256)) ns)) (Has : ℕ → Type 0) (above_of : ℕ → List ℕ)
    (tells : TellsIds host ns (id / 256) (id % 256) Has above_of) (x : Node) (is_x : HasId (own / 256) (own % 256) ns x)
    (sender : Sender ns x.number own) where
  abbrev Leading : Type 0
  Leading = RootLeads host.first (id / 256) ns

  one_has : (n : Node) → id ≡ own → HasId (id / 256) (id % 256) ns n → n ≡ x
  one_has n e h = go (pairwise_members _ ns distinct h.in_sheet is_x.in_sheet)
    where
      buses : n.bus ≡ x.bus
      buses = h.bus_is ∙ ap (λ (i : ℕ). i / 256) e ∙ sym is_x.bus_is

      devfns : n.devfn ≡ x.devfn
      devfns = h.devfn_is ∙ ap (λ (i : ℕ). i % 256) e ∙ sym is_x.devfn_is

      go : (n ≡ x) ⊎ ((n.bus ≡ x.bus → n.devfn ≡ x.devfn → ⊥) ⊎ (x.bus ≡ n.bus → x.devfn ≡ n.devfn → ⊥)) → n ≡ x
      go (inl same) = same
      go (inr (inl differ)) = absurd (differ buses devfns)
      go (inr (inr differ)) = absurd (differ (sym buses) (sym devfns))

  own_answers : id ≡ own → AnswersById Has above_of Leading x.number (stops no_owner)
  own_answers e =
      record {
        arrives_exactly = λ j count. (
          λ z. absurd (suc-ne-zero 0 (cc)),
          λ (goes, c).
              let (n, h, is_j) = tells.of_has j goes.0 in
              absurd (goes.1 (sym is_j ∙ ap (λ (m : Node). m.number) (one_has n e h))),
        );
        leaves_exactly = λ count. (
          λ z. absurd (suc-ne-zero 0 (cc)),
          λ (goes, c). absurd (goes.0 x.number (tells.has_of x (subst (λ (i : ℕ). HasId (i / 256) (i % 256) ns x) (sym e) is_x))),
        );
        else_no_owner = λ no_owner_lem no_host_lem. refl;
        no_other_number = λ n z. cc;
      }

  from_its_bus : climb_from (tally_by_id ns (id / 256) (id % 256)) (up_unless (buses_hold (id / 256)) ns host.first) x.bus 0
      ≡ climb_from (tally_by_id ns (id / 256) (id % 256)) (up_unless (buses_hold (id / 256)) ns host.first) (own / 256) 0
  from_its_bus =
      ap (λ (b : ℕ). climb_from (tally_by_id ns (id / 256) (id % 256)) (up_unless (buses_hold (id / 256)) ns host.first) b 0)
      is_x.bus_is

  pub sent_answers : AnswersById Has above_of Leading x.number (sent_to_other ns host.first x.number own id)
  sent_answers = go (eqb id own) refl
    where
      go : (t : Bool) → eqb id own ≡ t → AnswersById Has above_of Leading x.number (sent_to_other ns host.first x.number own id)
      go true e =
          let same : id ≡ own = eqb-true _ _ e in
          subst (AnswersById Has above_of Leading x.number)
          (sym (sent_own ns rise distinct host.first x.number own id sender same)) (own_answers same)
      go false e =
          let other : ¬ (id ≡ own) = eqb-false _ _ e in
          subst (AnswersById Has above_of Leading x.number)
          (from_its_bus ∙ sym (sent_climb ns rise distinct host.first x.number own id sender other))
          (climb_answers rise tree distinct (id / 256) (id % 256) numbered Has above_of tells x is_x.in_sheet
          (λ h. other (same_id id own (sym h.bus_is ∙ is_x.bus_is) (sym h.devfn_is ∙ is_x.devfn_is))))

  -- "It crosses exactly the bridges above the one and not above the other": up the nearest to the sender first, down the uppermost first
  pub sent_crosses : (j : ℕ) → Has j → (ups downs : List ℕ)
      → CardTrail (tally_by_id ns (id / 256) (id % 256)) (up_unless (buses_hold (id / 256)) ns host.first) (own / 256) ups downs j
      ↔ ((ups ≡ crossed_up Has above_of Leading x.number j) × (downs ≡ reverse (crossed_down Has above_of Leading x.number j)))
  sent_crosses j has ups downs =
      subst (λ (b : ℕ).
      CardTrail (tally_by_id ns (id / 256) (id % 256)) (up_unless (buses_hold (id / 256)) ns host.first) b ups downs j
      ↔ ((ups ≡ crossed_up Has above_of Leading x.number j) × (downs ≡ reverse (crossed_down Has above_of Leading x.number j))))
      is_x.bus_is
      (crosses_iff rise tree distinct (id / 256) (id % 256) numbered Has above_of tells x is_x.in_sheet j has ups downs)

-- ## Up to the host

module _ {host : Host} {ns : List Node} (rise : BridgesRise ns) (tree : Tree host ns) where
  up_root : up_unless never ns host.first host.first ≡ to_host
  unfolding up_unless
  up_root = rw (eq-eqb host.first host.first refl)

  up_bridge : (x : Node) → x ∈ ns → (u : Node) → LeadsTo x.bus ns u
      → up_unless never ns host.first x.bus ≡ across u.number u.bus
  unfolding up_unless
  up_bridge x m u l = go (all_elim _ ns tree.one_way_up m)
    where
      off : ¬ (x.bus ≡ host.first)
      off e =
          let r = all_elim _ ns rise l.in_sheet l.is_bridge_lem in
          omega (arith, r.own_below, l.leads, e, root_le rise tree u l.in_sheet)

      go : OneWayUp host.first ns x
          → cond (eqb x.bus host.first) to_host (up_past never (bridges_to x.bus ns)) ≡ across u.number u.bus
      go (inl e) = absurd (off e)
      go (inr (b, only)) =
          let same : b ≡ u = leads_unique rise tree x m (only_bridge_elim x.bus ns only) l in
          rw (ne_eqb x.bus host.first off, only) (ap (λ (n : Node). across n.number n.bus) same)

  up_leaves : (us : List Node) (x : Node) → x ∈ ns → (crossed : ℕ) → Above host.first ns x.bus us
      → climb_from nothing (up_unless never ns host.first) x.bus crossed ≡ leaves (crossed + length us)
  unfolding Above
  up_leaves [] x m crossed a =
      climb_step (falling_unless never ns host.first rise) nothing x.bus crossed none to_host refl
      (ap (up_unless never ns host.first) a ∙ up_root)
      ∙ ap leaves (omega arith)
  up_leaves (u ∷ us) x m crossed (l, a) =
      climb_step (falling_unless never ns host.first rise) nothing x.bus crossed none (across u.number u.bus) refl
      (up_bridge x m u l)
      ∙ up_leaves us u l.in_sheet (crossed + 1) a
      ∙ ap leaves (omega arith)

  -- "Messages 000 and 101 go up to the host, .., past all bridges above the sender"
  pub sent_up_lem : (own : ℕ) (x : Node) → x ∈ ns → x.bus ≡ own / 256
      → sent_up ns host.first own ≡ leaves (length (above host.first ns x.bus))
  unfolding sent_up
  sent_up_lem own x m at =
      ap (λ (b : ℕ). climb_from nothing (up_unless never ns host.first) b 0) (sym at)
      ∙ up_leaves (above host.first ns x.bus) x m 0 (above_is rise tree x m)
      ∙ ap leaves (omega arith)
