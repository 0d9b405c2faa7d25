-- Document 02, E11, on a sound sheet, whatever the command words say: a request from an end function arrives at another function, goes to
-- the host or is refused with 44 exactly as Cards has it, and is refused with 40 otherwise. Assumes nothing.
use Rattle.std.specs.Prelude.{◌≡◌, refl, ◌⊎◌, ◌↔◌, Bool, true, false, ℕ, ◌+◌, ◌≤◌, length}
use Rattle.std.proofs.Common.{sym, ap, ap₂, subst, ◌∙◌, inl, inr, true≢false, suc-ne-zero, arith}
use mathlib.Core.List.{List, [], ◌∷◌, ◌++◌, reverse, cons≢nil}
use Rattle.std.proofs.lemmas.List.{length-map}
use Rattle.lists.specs.Lists.{◌∈◌, All, Some, keep}
use Rattle.lists.specs.ListLaws.{all_elim, all_intro}
use Rattle.lists.specs.KeepLaws.{none_of_keep}
use Rattle.walk.specs.Ranges.{Holds}
use Rattle.walk.proofs.Ranges.{any_holds_iff}
use Rattle.walk.specs.Registers.{Node, Registers, nodes, Item, items, NumberedFrom}
use Rattle.walk.proofs.RegistersLaws.{node_mem, number_unique}
use Rattle.walk.specs.Tally.{none, join, claims, claims_in, tally_on}
use Rattle.walk.proofs.TallyLaws.{claims_iff, claims_of_none, tally_quiet}
use Rattle.walk.specs.Walk.{no_owner}
use Rattle.walk.specs.Above.{Above, above}
use Rattle.walk.proofs.AboveLaws.{above_is, above_of_way_up}
use Rattle.walk.proofs.WayLaws.{above_append, above_cons, above_cut, top_is_bus, way_leads}
use Rattle.walk.specs.Good.{Host, Sound}
use Rattle.walk.proofs.Reach.{Reaches, numbers_of}
use Rattle.walk.proofs.Delivery.{bridges_above, way_of, holder_unique}
use Rattle.walk.proofs.Holders.{under_of_bar, over_of_window, window_of_over, held_above, holder_above}
use Rattle.walk.specs.Climb.{Sent, arrives, leaves, stops, not_master, bar_holds, window_holds, up_from, climb_from, CardTrail}
use Rattle.walk.specs.Climb.{send_from}
use Rattle.walk.proofs.ClimbLaws.{card_trail_unique, from_bus_lem}
use Rattle.walk.specs.Cards.{without, HasWindow, Quiet, Board, crossed_up, crossed_down, Sends, Passes, Leaves, Halts, Unmastered}
use Rattle.walk.specs.Cards.{Answers}
use Rattle.walk.proofs.CardWays.{Blind, Way, Comes, to_owner, to_host_lem, unmastered, nobody, climb_comes, arrives_of_way, leaves_of_way}
use Rattle.walk.proofs.CardWays.{stops_of_way, trail_of_way}
use Rattle.walk.proofs.MeetingLaws.{node_same, Meeting, meeting, up_is, down_is, without_le}

-- ## Lists of bridges, by number

pub all_of_numbers : (P : ℕ → Type 0) (us : List Node) → All P (numbers_of us) → All (λ u. P u.number) us
all_of_numbers P [] h = tt
all_of_numbers P (u ∷ us) h = (h.0, all_of_numbers P us h.1)

numbers_of_all : (P : ℕ → Type 0) (us : List Node) → All (λ u. P u.number) us → All P (numbers_of us)
numbers_of_all P [] h = tt
numbers_of_all P (u ∷ us) h = (h.0, numbers_of_all P us h.1)

-- a split of the numbers is one of the bridges
record NumbersSplit (bs : List Node) (before : List ℕ) (n : ℕ) (rest : List ℕ) : Type 0 where
  us : List Node
  u : Node
  others : List Node
  is : bs ≡ us ++ (u ∷ others)
  before_is : numbers_of us ≡ before
  here_is : u.number ≡ n

split_numbers : (bs : List Node) (before : List ℕ) (n : ℕ) (rest : List ℕ) → numbers_of bs ≡ before ++ (n ∷ rest)
    → NumbersSplit bs before n rest
split_numbers [] [] n rest e = absurd (cons≢nil (sym e))
split_numbers [] (m ∷ before) n rest e = absurd (cons≢nil (sym e))
split_numbers (b ∷ bs) [] n rest e = record { us = []; u = b; others = bs; is = refl; before_is = refl; here_is = cc }
split_numbers (b ∷ bs) (m ∷ before) n rest e =
    let tail : numbers_of bs ≡ before ++ (n ∷ rest) = cc in
    let head : b.number ≡ m = cc in
    go head (split_numbers bs before n rest tail)
  where
    go : b.number ≡ m → NumbersSplit bs before n rest → NumbersSplit (b ∷ bs) (m ∷ before) n rest
    go head s =
        record {
          us = b ∷ s.us;
          u = s.u;
          others = s.others;
          is = ap (b ∷◌) s.is;
          before_is = ap₂ ◌∷◌ head s.before_is;
          here_is = s.here_is;
        }

numbers_append : (us : List Node) (u : Node) (rest : List Node)
    → numbers_of (us ++ (u ∷ rest)) ≡ numbers_of us ++ (u.number ∷ numbers_of rest)
numbers_append [] u rest = refl
numbers_append (v ∷ us) u rest = ap (v.number ∷◌) (numbers_append us u rest)

-- ## A bus where nothing claims

quiet_iff : (enabled : ℕ → Bool) (fs : List Registers) (address bus : ℕ)
    → (tally_on enabled fs address bus ≡ none) ↔ Quiet enabled fs address bus
unfolding tally_on join
quiet_iff enabled fs address bus = (to, from)
  where
    nil_of_map : (is : List Item) → claims_in is ≡ [] → is ≡ []
    nil_of_map [] e = refl
    nil_of_map (i ∷ is) e = absurd (cons≢nil e)

    to : tally_on enabled fs address bus ≡ none → Quiet enabled fs address bus
    to e i m c =
        let kept = keep (claims enabled address bus) (items fs) in
        let all = none_of_keep (claims enabled address bus) (items fs) (nil_of_map kept (claims_of_none (claims_in kept) e)) in
        true≢false (sym ((claims_iff enabled address bus i).1 c) ∙ all_elim _ (items fs) all m)

    from : Quiet enabled fs address bus → tally_on enabled fs address bus ≡ none
    from q = tally_quiet enabled fs address bus q

-- ## The board that a sheet tells of

-- over registers, with who has a BAR over the address and the bridges above by number
abbrev pub board_over : Host → List Registers → (ℕ → Bool) → (ℕ → Bool) → ℕ → (ℕ → Type 0) → (ℕ → List ℕ) → Board
board_over host fs enabled master address HasBar above_of =
    record {
      HasBarOver = HasBar;
      HasWindowOver = HasWindow fs address;
      enabled = enabled;
      master = master;
      above = above_of;
      RootQuiet = Quiet enabled fs address host.first;
    }

pub record Tells (host : Host) (fs : List Registers) (address : ℕ) (HasBar : ℕ → Type 0) (above_of : ℕ → List ℕ) : Type 0 where
  pub bar_of_lem : (f : Registers) → f ∈ fs → Some (λ r. Holds r address) f.bars → HasBar f.node.number
  pub of_bar : (n : ℕ) → HasBar n → (f : Registers) × (f ∈ fs) × (f.node.number ≡ n) × Some (λ r. Holds r address) f.bars
  pub above_agree : (f : Registers) → f ∈ fs → numbers_of (bridges_above host fs f) ≡ above_of f.node.number

module _ {host : Host} {fs : List Registers} (sound : Sound host fs) (numbered : NumberedFrom 1 fs) (enabled master : ℕ → Bool)
    (address : ℕ) (HasBar : ℕ → Type 0) (above_of : ℕ → List ℕ) (tells : Tells host fs address HasBar above_of) where
  abbrev board : Board
  board = board_over host fs enabled master address HasBar above_of

  -- ## Windows and BARs

  window_true : (f : Registers) → Some (λ r. Holds r address) f.windows → window_holds address f ≡ true
  window_true f h = (any_holds_iff address f.windows).1 h

  bar_true : (f : Registers) → Some (λ r. Holds r address) f.bars → bar_holds address f ≡ true
  bar_true f h = (any_holds_iff address f.bars).1 h

  blind_of_no_window : (u : Node) → u.bridge ≡ true → ¬ HasWindow fs address u.number → Blind fs address u
  blind_of_no_window u bridge none_over f mf same = go (window_holds address f) refl
    where
      go : (t : Bool) → window_holds address f ≡ t → t ≡ false
      go false e = refl
      go true e =
          absurd (none_over (record {
            bridge = f;
            in_sheet = mf;
            number_is = ap (λ (n : Node). n.number) same;
            is_bridge_lem = ap (λ (n : Node). n.bridge) same ∙ bridge;
            window_holds_lem = (any_holds_iff address f.windows).0 e;
          }))

  no_window_of_blind : (u : Node) → u ∈ nodes fs → Blind fs address u → ¬ HasWindow fs address u.number
  no_window_of_blind u mu blind h =
      let same = node_same sound numbered h.bridge.node u (node_mem h.in_sheet) mu h.number_is in
      true≢false (sym (window_true h.bridge h.window_holds_lem) ∙ blind h.bridge h.in_sheet same)

  -- ## Ways and bridges that let through

  module _ (top bus : ℕ) (us : List Node) (a : Above top (nodes fs) bus us) where
    pass_of_way : All (λ u. master u.number ≡ true) us → All (Blind fs address) us → All (Passes board) (numbers_of us)
    pass_of_way ms bl =
        numbers_of_all (Passes board) us
        (all_intro _ us (λ u m. (
          all_elim _ us ms m,
          no_window_of_blind u (way_leads (nodes fs) top bus us u a m).0 (all_elim _ us bl m),
        )))

    way_of_pass : All (Passes board) (numbers_of us) → Way master fs address bus us top
    way_of_pass h =
        let each = all_of_numbers (Passes board) us h in
        record {
          goes_up = a;
          are_masters = all_intro _ us (λ u m. (all_elim _ us each m).0);
          are_blind = all_intro _ us (λ u m.
              blind_of_no_window u (way_leads (nodes fs) top bus us u a m).1 (all_elim _ us each m).1);
        }

  -- ## The start

  module _ (s : Registers) (ms : s ∈ fs) (is_end : s.node.bridge ≡ false) where
    abbrev k : ℕ
    k = s.node.number

    abbrev sent : Sent
    sent = send_from enabled master fs address host.first s

    above_s : numbers_of (bridges_above host fs s) ≡ above_of k
    above_s = tells.above_agree s ms

    not_own : bar_holds address s ≡ false → ¬ HasBar k
    not_own e h =
        let (f, mf, is, held) = tells.of_bar k h in
        let same = number_unique 1 fs f s numbered mf ms is in
        true≢false (sym (bar_true s (subst (λ (z : Registers). Some (λ r. Holds r address) z.bars) same held)) ∙ e)

    own_not : ¬ HasBar k → bar_holds address s ≡ false
    own_not none_over = go (bar_holds address s) refl
      where
        go : (t : Bool) → bar_holds address s ≡ t → t ≡ false
        go false e = refl
        go true e =
            absurd (none_over (tells.bar_of_lem s ms ((any_holds_iff address s.bars).0 e)))

    sent_climb : master k ≡ true → bar_holds address s ≡ false
        → sent ≡ climb_from (tally_on enabled fs address) (up_from master fs address host.first) s.node.bus 0
    unfolding send_from
    sent_climb is_master e = rw (is_master, e) (from_bus_lem enabled master fs address host.first numbered s ms is_end e)

    sent_unmastered : master k ≡ false → sent ≡ stops not_master
    unfolding send_from
    sent_unmastered e = rw e

    sent_own : master k ≡ true → bar_holds address s ≡ true → sent ≡ stops no_owner
    unfolding send_from
    sent_own e q = rw (e, q)

    -- ## Another function

    module _ (g : Registers) (mg : g ∈ fs) (m : Meeting sound numbered s.node.bus g) where
      up_numbers : crossed_up board k g.node.number ≡ numbers_of m.us
      up_numbers =
          ap₂ without (sym (tells.above_agree g mg)) (sym above_s) ∙ up_is sound numbered s g ms mg m

      down_numbers : crossed_down board k g.node.number ≡ numbers_of m.down
      down_numbers =
          ap₂ without (sym above_s) (sym (tells.above_agree g mg)) ∙ down_is sound numbered s g ms mg m

      count_is : length (crossed_up board k g.node.number) + length (crossed_down board k g.node.number)
          ≡ length m.us + length m.down
      count_is =
          omega (
            arith,
            ap (λ (l : List ℕ). length l) up_numbers,
            ap (λ (l : List ℕ). length l) down_numbers,
            length-map m.us (λ (n : Node). n.number),
            length-map m.down (λ (n : Node). n.number),
          )

    -- a way up and down to it
    record Travels (g : Registers) (m : Meeting sound numbered s.node.bus g) : Type 0 where
      up_way : Way master fs address s.node.bus m.us m.top
      reached : Reaches enabled fs address m.top g m.down

    travels : (g : Registers) (mg : g ∈ fs) → Some (λ r. Holds r address) g.bars → Sends board k g.node.number
        → Travels g (meeting sound numbered s g ms mg)
    travels g mg held sends =
        record {
          up_way = record {
            goes_up = m.up_way;
            are_masters = all_of_numbers (λ n. master n ≡ true) m.us (rw (up_numbers g mg m) at sends.up_masters);
            are_blind = all_intro _ m.us (λ u n. blind_of_no_window u (on_way u n).1 (λ h. blind u n h));
          };
          reached = record {
            in_sheet = mg;
            bar_holds_lem = held;
            is_enabled = sends.is_enabled;
            way_up = m.down_way;
            bridges_enabled = all_of_numbers (λ n. enabled n ≡ true) m.down (rw (down_numbers g mg m) at sends.down_enabled);
          };
        }
      where
        m : Meeting sound numbered s.node.bus g
        m = meeting sound numbered s g ms mg

        on_way : (u : Node) → u ∈ (meeting sound numbered s g ms mg).us → (u ∈ nodes fs) × (u.bridge ≡ true)
        on_way u n = way_leads (nodes fs) m.top s.node.bus m.us u m.up_way n

        -- a bridge that is not above g has no window over what g holds
        blind : (u : Node) → u ∈ (meeting sound numbered s g ms mg).us → ¬ HasWindow fs address u.number
        blind u n h =
            let (y, under) = under_of_bar fs address g mg held in
            let (x, o, is) = over_of_window fs address h.bridge h.in_sheet h.is_bridge_lem h.window_holds_lem in
            let same =
            ap (λ (f : Registers). f.node) is
            ∙ node_same sound numbered h.bridge.node u (node_mem h.in_sheet) (on_way u n).0 h.number_is in
            all_elim _ m.us m.us_other n
            (subst (λ (v : Node). v ∈ bridges_above host fs g) same (holder_above sound address g mg y under x o))

    arrives_of_sends : (j : ℕ) → Sends board k j → sent ≡ arrives j (length (crossed_up board k j) + length (crossed_down board k j))
    arrives_of_sends j sends =
        let (g, mg, is_j, held) = tells.of_bar j sends.bar_holds_lem in
        subst (λ (j : ℕ). sent ≡ arrives j (length (crossed_up board k j) + length (crossed_down board k j))) is_j
        (go g mg held (subst (Sends board k) (sym is_j) sends))
      where
        go : (g : Registers) → g ∈ fs → Some (λ r. Holds r address) g.bars → Sends board k g.node.number
            → sent
            ≡ arrives g.node.number (length (crossed_up board k g.node.number) + length (crossed_down board k g.node.number))
        go g mg held sends =
            let m = meeting sound numbered s g ms mg in
            let t = travels g mg held sends in
            let own : ¬ HasBar k = λ h.
            let (f, mf, is_k, own) = tells.of_bar k h in
            sends.is_other_lem (ap (λ (z : Registers). z.node.number) (holder_unique sound numbered address g f mg mf held own) ∙ is_k) in
            sent_climb sends.start_master (own_not own)
            ∙ arrives_of_way sound numbered enabled master address s.node (node_mem ms) 0 m.top m.us t.up_way g m.down
            t.reached
            ∙ ap (arrives g.node.number) (omega (arith, count_is g mg m))

    -- it crosses those bridges and no others: up the nearest to the start first, down the uppermost first
    trail_of_sends : (j : ℕ) → Sends board k j
        → CardTrail (tally_on enabled fs address) (up_from master fs address host.first) s.node.bus (crossed_up board k j)
        (reverse (crossed_down board k j)) j
    trail_of_sends j sends =
        let (g, mg, is_j, held) = tells.of_bar j sends.bar_holds_lem in
        subst (λ (j : ℕ). CardTrail (tally_on enabled fs address) (up_from master fs address host.first) s.node.bus
        (crossed_up board k j) (reverse (crossed_down board k j)) j) is_j
        (go g mg held (subst (Sends board k) (sym is_j) sends))
      where
        go : (g : Registers) → g ∈ fs → Some (λ r. Holds r address) g.bars → Sends board k g.node.number
            → CardTrail (tally_on enabled fs address) (up_from master fs address host.first) s.node.bus
            (crossed_up board k g.node.number) (reverse (crossed_down board k g.node.number)) g.node.number
        go g mg held sends =
            let m = meeting sound numbered s g ms mg in
            let t = travels g mg held sends in
            rw (up_numbers g mg m, down_numbers g mg m)
            (trail_of_way sound numbered enabled master address s.node (node_mem ms) m.top m.us t.up_way g m.down
            t.reached)

    pub crosses_iff : (j : ℕ) → Sends board k j → (ups downs : List ℕ)
        → CardTrail (tally_on enabled fs address) (up_from master fs address host.first) s.node.bus ups downs j
        ↔ ((ups ≡ crossed_up board k j) × (downs ≡ reverse (crossed_down board k j)))
    crosses_iff j sends ups downs = (to, from)
      where
        to : CardTrail (tally_on enabled fs address) (up_from master fs address host.first) s.node.bus ups downs j
            → (ups ≡ crossed_up board k j) × (downs ≡ reverse (crossed_down board k j))
        to t = let u = card_trail_unique _ _ _ _ _ _ _ _ _ t (trail_of_sends j sends) in (u.0, u.1)

        from : (ups ≡ crossed_up board k j) × (downs ≡ reverse (crossed_down board k j))
            → CardTrail (tally_on enabled fs address) (up_from master fs address host.first) s.node.bus ups downs j
        from (up_are, down_are) = rw (up_are, down_are) (trail_of_sends j sends)

    -- ## The host, and 44

    leaves_of : Leaves board k → sent ≡ leaves (length (above_of k))
    leaves_of v =
        let bs = bridges_above host fs s in
        let way = way_of_pass host.first s.node.bus bs (way_of sound s ms) (rw above_s v.all_pass) in
        sent_climb v.start_master (own_not v.not_own)
        ∙ leaves_of_way sound numbered enabled master address s.node (node_mem ms) 0 host.first bs way refl
        ((quiet_iff enabled fs address host.first).1 v.root_quiet)
        ∙ ap leaves (omega (arith, length-map bs (λ (n : Node). n.number), ap (λ (l : List ℕ). length l) above_s))

    halts_of : Halts board k → sent ≡ stops not_master
    halts_of h =
        let bs = bridges_above host fs s in
        let sp = split_numbers bs h.before h.here h.rest (above_s ∙ h.above_is) in
        let whole : Above host.first (nodes fs) s.node.bus (sp.us ++ (sp.u ∷ sp.others)) =
        rw (← sp.is) (way_of sound s ms) in
        let (top, a, l) = above_cut (nodes fs) host.first s.node.bus sp.us sp.u sp.others whole in
        let way = way_of_pass top s.node.bus sp.us a (rw sp.before_is h.pass_before) in
        sent_climb h.start_master (own_not h.not_own)
        ∙ stops_of_way sound numbered enabled master address s.node (node_mem ms) 0 top sp.us way sp.u l
        (blind_of_no_window sp.u l.is_bridge_lem (rw sp.here_is h.blind_here)) (ap master sp.here_is ∙ h.no_master)

    stops_of : Unmastered board k → sent ≡ stops not_master
    stops_of (inl e) = sent_unmastered e
    stops_of (inr h) = halts_of h

    -- ## Every answer, and why

    data Answer : Type 0 where
      owned : (j : ℕ) → Sends board k j → sent ≡ arrives j (length (crossed_up board k j) + length (crossed_down board k j)) → Answer
      host_bound : Leaves board k → sent ≡ leaves (length (above_of k)) → Answer
      halted : Unmastered board k → sent ≡ stops not_master → Answer
      unowned : sent ≡ stops no_owner → Answer

    -- a way up, with the rest of the ways
    rest_of : (us : List Node) (top : ℕ) → Above top (nodes fs) s.node.bus us
        → (rest : List Node) × Above host.first (nodes fs) top rest × (bridges_above host fs s ≡ us ++ rest)
    rest_of us top a =
        let (y, my, at) = top_is_bus (nodes fs) top s.node (node_mem ms) us a in
        let up = above_is sound.bridges_rise sound.tree y my in
        let rest = above host.first (nodes fs) y.bus in
        let rest_way : Above host.first (nodes fs) top rest = subst (λ (b : ℕ). Above host.first (nodes fs) b rest) at up in (
          rest,
          rest_way,
          above_of_way_up sound.bridges_rise sound.tree s.node (node_mem ms) _
              (above_append (nodes fs) host.first top s.node.bus us _ a rest_way),
        )

    answer_of_comes : master k ≡ true → bar_holds address s ≡ false → (o : Sent) → sent ≡ o
        → Comes sound numbered enabled master address s.node.bus 0 o → Answer
    answer_of_comes is_master off o is (nobody e) = unowned (is ∙ e)
    answer_of_comes is_master off o is (to_host_lem us w quiet e) =
        let same : bridges_above host fs s ≡ us =
        above_of_way_up sound.bridges_rise sound.tree s.node (node_mem ms) us w.goes_up in
        let numbers : above_of k ≡ numbers_of us = sym above_s ∙ ap numbers_of same in
        host_bound
        (record {
          start_master = is_master;
          not_own = not_own off;
          all_pass = rw numbers (pass_of_way host.first s.node.bus us w.goes_up w.are_masters w.are_blind);
          root_quiet = (quiet_iff enabled fs address host.first).0 quiet;
        })
        (is ∙ e ∙ ap leaves (omega (arith, ap (λ (l : List ℕ). length l) numbers, length-map us (λ (n : Node). n.number))))
    answer_of_comes is_master off o is (unmastered us top u w l blind not_m e) =
        let rest = above host.first (nodes fs) u.bus in
        let up : Above host.first (nodes fs) u.bus rest = above_is sound.bridges_rise sound.tree u l.in_sheet in
        let bs_is : bridges_above host fs s ≡ us ++ (u ∷ rest) =
        above_of_way_up sound.bridges_rise sound.tree s.node (node_mem ms) (us ++ (u ∷ rest))
        (above_append (nodes fs) host.first top s.node.bus us (u ∷ rest) w.goes_up
        (above_cons (nodes fs) host.first top u rest l up)) in
        halted
        (inr (record {
          start_master = is_master;
          not_own = not_own off;
          before = numbers_of us;
          here = u.number;
          rest = numbers_of rest;
          above_is = sym above_s ∙ ap numbers_of bs_is ∙ numbers_append us u rest;
          pass_before = pass_of_way top s.node.bus us w.goes_up w.are_masters w.are_blind;
          blind_here = no_window_of_blind u l.in_sheet blind;
          no_master = not_m;
        })) (is ∙ e)
    answer_of_comes is_master off o is (to_owner us top w g down r e) =
        let mg = r.in_sheet in
        let (y, under) = under_of_bar fs address g mg r.bar_holds_lem in
        let (rest, rest_way, bs_is) = rest_of us top w.goes_up in
        let way_g : Above host.first (nodes fs) y.owner.node.bus (bridges_above host fs g) =
        subst (λ (z : Registers). Above host.first (nodes fs) z.node.bus (bridges_above host fs g)) (sym under.is_own_lem)
        (way_of sound g mg) in
        let other : All (λ u. ¬ (u ∈ bridges_above host fs g)) us =
        all_intro _ us (λ u m n.
        let (x, over, is_u) = held_above sound address host.first (bridges_above host fs g) y under.in_items under.over way_g u n in
        let (mx, bridge, held) = window_of_over fs address x over in
        true≢false (sym (window_true x.owner held) ∙ all_elim _ us w.are_blind m x.owner mx is_u)) in
        let m : Meeting sound numbered s.node.bus g =
        record {
          us = us;
          rest = rest;
          down = down;
          top = top;
          up_way = w.goes_up;
          down_way = r.way_up;
          rest_way = rest_way;
          us_other = other;
        } in
        owned g.node.number
        (record {
          is_other_lem = λ same. not_own off (subst HasBar same (tells.bar_of_lem g mg r.bar_holds_lem));
          bar_holds_lem = tells.bar_of_lem g mg r.bar_holds_lem;
          is_enabled = r.is_enabled;
          down_enabled = rw (down_numbers g mg m) (numbers_of_all (λ n. enabled n ≡ true) down r.bridges_enabled);
          start_master = is_master;
          up_masters = rw (up_numbers g mg m) (numbers_of_all (λ n. master n ≡ true) us w.are_masters);
        })
        (is ∙ e ∙ ap (arrives g.node.number) (omega (arith, count_is g mg m)))

    answered : Answer
    answered = go (master k) refl (bar_holds address s) refl
      where
        go : (t : Bool) → master k ≡ t → (b : Bool) → bar_holds address s ≡ b → Answer
        go false e b q = halted (inl e) (sent_unmastered e)
        go true e true q = unowned (sent_own e q)
        go true e false q =
            answer_of_comes e q _ (sent_climb e q) (climb_comes sound numbered enabled master address s.node (node_mem ms) 0)

    pub answers : Answers board k sent
    answers =
        record {
          arrives_exactly = λ j count. (λ e. owner j count e answered, λ (h, c). arrives_of_sends j h ∙ ap (arrives j) (sym c));
          leaves_exactly = λ count. (λ e. leaver count e answered, λ (h, c). leaves_of h ∙ ap leaves (sym c));
          halts_exactly = (λ e. halter e answered, stops_of);
          else_no_owner = else answered;
          no_other_number = λ n e. number n e answered;
        }
      where
        owner : (j count : ℕ) → sent ≡ arrives j count → Answer
            → Sends board k j × (count ≡ length (crossed_up board k j) + length (crossed_down board k j))
        owner j count e (owned i sends q) =
            let both : arrives j count ≡ arrives i (length (crossed_up board k i) + length (crossed_down board k i)) = sym e ∙ q in
            let same : i ≡ j = cc in
            let count_is : count ≡ length (crossed_up board k i) + length (crossed_down board k i) = cc in (
              subst (Sends board k) same sends,
              count_is ∙ ap (λ (n : ℕ). length (crossed_up board k n) + length (crossed_down board k n))
                  same,
            )
        owner j count e (host_bound v q) = let z = sym e ∙ q in absurd (suc-ne-zero 0 (cc))
        owner j count e (halted v q) = let z = sym e ∙ q in absurd (suc-ne-zero 0 (cc))
        owner j count e (unowned q) = let z = sym e ∙ q in absurd (suc-ne-zero 0 (cc))

        leaver : (count : ℕ) → sent ≡ leaves count → Answer → Leaves board k × (count ≡ length (above_of k))
        leaver count e (owned i sends q) = let z = sym e ∙ q in absurd (suc-ne-zero 0 (cc))
        leaver count e (host_bound v q) = let z : leaves count ≡ leaves (length (above_of k)) = sym e ∙ q in (v, cc)
        leaver count e (halted v q) = let z = sym e ∙ q in absurd (suc-ne-zero 0 (cc))
        leaver count e (unowned q) = let z = sym e ∙ q in absurd (suc-ne-zero 0 (cc))

        halter : sent ≡ stops not_master → Answer → Unmastered board k
        halter e (owned i sends q) = let z = sym e ∙ q in absurd (suc-ne-zero 0 (cc))
        halter e (host_bound v q) = let z = sym e ∙ q in absurd (suc-ne-zero 0 (cc))
        halter e (halted v q) = v
        halter e (unowned q) =
            let z : stops not_master ≡ stops no_owner = sym e ∙ q in let n : not_master ≡ no_owner = cc in absurd (omega (arith, n))

        else : Answer → ((j : ℕ) → ¬ Sends board k j) → ¬ Leaves board k → ¬ Unmastered board k → sent ≡ stops no_owner
        else (owned i sends q) no_owner_lem no_host_lem no_halt = absurd (no_owner_lem i sends)
        else (host_bound v q) no_owner_lem no_host_lem no_halt = absurd (no_host_lem v)
        else (halted v q) no_owner_lem no_host_lem no_halt = absurd (no_halt v)
        else (unowned q) no_owner_lem no_host_lem no_halt = q

        number : (n : ℕ) → sent ≡ stops n → Answer → (n ≡ no_owner) ⊎ (n ≡ not_master)
        number n e (owned i sends q) = let z = sym e ∙ q in absurd (suc-ne-zero 0 (cc))
        number n e (host_bound v q) = let z = sym e ∙ q in absurd (suc-ne-zero 0 (cc))
        number n e (halted v q) = let z : stops n ≡ stops not_master = sym e ∙ q in inr (cc)
        number n e (unowned q) = let z : stops n ≡ stops no_owner = sym e ∙ q in inl (cc)

-- both ways together are at most the two depths
pub both_ways_le : (b : Board) (i j most : ℕ) → length (b.above i) ≤ most → length (b.above j) ≤ most
    → length (crossed_up b i j) + length (crossed_down b i j) ≤ most + most
both_ways_le b i j most h l = omega (arith, without_le (b.above j) (b.above i), without_le (b.above i) (b.above j))
