-- The climb on a sound sheet: up through bus masters whose windows do not hold the address, and then document 01's walk. Assumes nothing.
use Rattle.std.specs.Prelude.{◌≡◌, ◌⊎◌, Bool, true, false, cond}
use Rattle.std.proofs.Math.Path.{refl, sym, ap, ap₂, subst}
use Rattle.std.proofs.Common.{◌∙◌, inl, inr, true≢false, arith, eq-eqb, ne_eqb}
use mathlib.Core.List.Memᴰ
use mathlib.Core.List.{List, [], ◌∷◌, map, cons≢nil, tail-eq_of_cons-eq}
use Prim.Native.Nat.{ℕ, zero, suc, ◌+◌, ◌<◌}
use Rattle.std.proofs.Math.ListN.{length}
use Rattle.lists.specs.Lists.{◌∈◌, All}
use Rattle.lists.specs.ListLaws.{all_elim, some_imp}
use Rattle.lists.specs.KeepLaws.{keep_elim, map_keep}
use Rattle.walk.specs.Ranges.{Holds}
use Rattle.walk.proofs.Ranges.{any_holds_iff, holds_of_within}
use Rattle.walk.specs.Registers.{Node, Registers, nodes, Item, items, bar, window, NumberedFrom}
use Rattle.walk.proofs.RegistersLaws.{number_unique}
use Rattle.walk.specs.Tally.{Tally, none, one, several, tally_on}
use Rattle.walk.proofs.TallyLaws.{tally_quiet, tally_not_several, rising_of_bridges}
use Rattle.walk.specs.Walk.{Outcome, delivered, refused, no_owner, walk_from, Trail}
use Rattle.walk.proofs.WalkLaws.{trail_of_delivered, walk_of_trail, refused_elim}
use Rattle.walk.specs.Above.{is_above, bridges_to, LeadsTo, Above}
use Rattle.walk.proofs.AboveLaws.{only_bridge_elim, root_le, leads_unique}
use Rattle.walk.proofs.WayLaws.{top_is_bus}
use Rattle.walk.specs.Good.{Host, OneWayUp, Sound}
use Rattle.walk.proofs.Reach.{Reaches, numbers_of, downward, length_downward, ends_of_trail, trail_of_reaches}
use Rattle.walk.specs.Climb.{Up, to_host, across, halts, not_master, leading_to, window_holds, up_from}
use Rattle.walk.specs.Climb.{Sent, arrives, leaves, stops, sent_of, climb_from, CardTrail}
use Rattle.walk.proofs.ClimbLaws.{Falling, falling_of_bridges, climb_step}

one_of_map : {A B : Type 0} (f : A → B) (xs : List A) (y : B) → map f xs ≡ y ∷ [] → (x : A) × (xs ≡ x ∷ []) × (f x ≡ y)
one_of_map f [] y e = absurd (cons≢nil (sym e))
one_of_map f (x ∷ []) y e = (x, refl, cc)
one_of_map f (x ∷ z ∷ zs) y e = absurd (cons≢nil (tail-eq_of_cons-eq e))

mem_of_single : {A : Type 0} {xs : List A} {x : A} → xs ≡ x ∷ [] → x ∈ xs
mem_of_single {A} {xs} {x} e = subst (λ (ys : List A). x ∈ ys) (sym e) (Memᴰ.head refl)

-- the windows of the bridge with this node do not hold the address
abbrev pub Blind : List Registers → ℕ → Node → Type 0
Blind fs address u = (f : Registers) → f ∈ fs → f.node ≡ u → window_holds address f ≡ false

-- a way up through such bridges that are bus masters
pub record Way (master : ℕ → Bool) (fs : List Registers) (address bus : ℕ) (us : List Node) (top : ℕ) : Type 0 where
  pub goes_up : Above top (nodes fs) bus us
  pub are_masters : All (λ u. master u.number ≡ true) us
  pub are_blind : All (Blind fs address) us

module _ {host : Host} {fs : List Registers} (sound : Sound host fs) (numbered : NumberedFrom 1 fs) (enabled master : ℕ → Bool)
    (address : ℕ) where
  abbrev tally : ℕ → Tally
  tally = tally_on enabled fs address

  abbrev up : ℕ → Up
  up = up_from master fs address host.first

  abbrev climbed : ℕ → ℕ → Sent
  climbed bus crossed = climb_from tally up bus crossed

  falling : Falling up
  falling = falling_of_bridges master fs address host.first sound.bridges_rise

  -- ## One step up from the bus of a function: the root bus, or one bridge

  data UpStep (bus : ℕ) : Type 0 where
    at_root : bus ≡ host.first → UpStep bus
    by_bridge : (b : Registers) → b ∈ fs → LeadsTo bus (nodes fs) b.node → ¬ (bus ≡ host.first) → leading_to bus fs ≡ b ∷ [] → UpStep bus

  up_step : (x : Node) → x ∈ nodes fs → UpStep x.bus
  up_step x m = go (all_elim _ (nodes fs) sound.tree.one_way_up m)
    where
      go : OneWayUp host.first (nodes fs) x → UpStep x.bus
      go (inl e) = at_root e
      go (inr (p, only)) =
          let l = only_bridge_elim x.bus (nodes fs) only in
          let r = all_elim _ (nodes fs) sound.bridges_rise l.in_sheet l.is_bridge_lem in
          let Above_root = root_le sound.bridges_rise sound.tree p l.in_sheet in
          let same : map (λ (f : Registers). f.node) (leading_to x.bus fs) ≡ bridges_to x.bus (nodes fs) =
          map_keep (is_above x.bus) (λ (f : Registers). f.node) fs in
          let (b, only_b, is_p) = one_of_map (λ (f : Registers). f.node) (leading_to x.bus fs) p (same ∙ only) in
          let there : b ∈ leading_to x.bus fs = mem_of_single only_b in
          by_bridge b (keep_elim (λ f. is_above x.bus f.node) fs there).0 (rw is_p l)
          (λ e. omega (arith, r.own_below, l.leads, Above_root, e)) only_b

  up_root : up host.first ≡ to_host
  unfolding up_from
  up_root = rw (eq-eqb host.first host.first refl)

  up_bridge : (bus : ℕ) (b : Registers) → ¬ (bus ≡ host.first) → leading_to bus fs ≡ b ∷ [] → (w m : Bool) → window_holds address b ≡ w
      → master b.node.number ≡ m
      → up bus ≡ cond w (halts no_owner) (cond m (across b.node.number b.node.bus) (halts not_master))
  unfolding up_from
  up_bridge bus b other only w m e q = rw (ne_eqb bus host.first other, only, e, q)

  -- what a bus holds, the windows of the bridge above it hold
  held_below : (b : Registers) → b ∈ fs → b.node.bridge ≡ true → (i : Item) → i ∈ items fs → i.owner.node.bus ≡ b.node.secondary
      → Holds i.range address → window_holds address b ≡ true
  held_below b m is_bridge_lem i mi at h =
      (any_holds_iff address b.windows).1
      (some_imp _ _ (λ r inside. holds_of_within inside h) b.windows
      (all_elim _ (items fs) (all_elim _ fs sound.in_window_above m is_bridge_lem) mi at))

  nothing_below : (b : Registers) → b ∈ fs → (bus : ℕ) → LeadsTo bus (nodes fs) b.node → window_holds address b ≡ false → tally bus ≡ none
  nothing_below b m bus l e =
      tally_quiet enabled fs address bus
      (λ i mi c. true≢false (sym (held_below b m l.is_bridge_lem i mi (c.on_bus_lem ∙ sym l.leads) c.in_range) ∙ e))

  -- ## Up a way: the same climb from its top

  -- one bridge of it
  way_step : (x : Node) → x ∈ nodes fs → (u : Node) → LeadsTo x.bus (nodes fs) u → master u.number ≡ true → Blind fs address u
      → (tally x.bus ≡ none) × (up x.bus ≡ across u.number u.bus)
  way_step x m u l is_master is_blind = go (up_step x m)
    where
      go : UpStep x.bus → (tally x.bus ≡ none) × (up x.bus ≡ across u.number u.bus)
      go (at_root e) =
          let r = all_elim _ (nodes fs) sound.bridges_rise l.in_sheet l.is_bridge_lem in
          absurd (omega (arith, r.own_below, l.leads, e, root_le sound.bridges_rise sound.tree u l.in_sheet))
      go (by_bridge b mb lb other only) =
          let same : b.node ≡ u = leads_unique sound.bridges_rise sound.tree x m lb l in
          let blind = is_blind b mb same in (
            nothing_below b mb x.bus lb blind,
            up_bridge x.bus b other only false true blind (ap (λ (n : Node). master n.number) same ∙ is_master)
                ∙ ap (λ (n : Node). across n.number n.bus) same,
          )

  pub climb_of_way : (x : Node) → x ∈ nodes fs → (crossed top : ℕ) (us : List Node) → Way master fs address x.bus us top
      → climbed x.bus crossed ≡ climbed top (crossed + length us)
  unfolding Above
  climb_of_way x m crossed top [] w = ap₂ climbed w.goes_up (omega arith)
  climb_of_way x m crossed top (u ∷ us) w =
      let l = w.goes_up.0 in
      let step = way_step x m u l w.are_masters.0 w.are_blind.0 in
      climb_step falling tally x.bus crossed none _ step.0 step.1
      ∙ climb_of_way u l.in_sheet (crossed + 1) top us
      (record { goes_up = w.goes_up.1; are_masters = w.are_masters.1; are_blind = w.are_blind.1 })
      ∙ ap (climbed top) (omega arith)

  -- and the way itself, down to what is reached from its top
  pub trail_of_way : (x : Node) → x ∈ nodes fs → (top : ℕ) (us : List Node) → Way master fs address x.bus us top
      → (g : Registers) (down : List Node) → Reaches enabled fs address top g down
      → CardTrail tally up x.bus (numbers_of us) (downward down) g.node.number
  unfolding Above CardTrail
  trail_of_way x m top [] w g down r =
      subst (λ (b : ℕ). Trail tally b (downward down) g.node.number) (sym w.goes_up)
      (trail_of_reaches sound enabled address top g down r)
  trail_of_way x m top (u ∷ us) w g down r =
      let l = w.goes_up.0 in
      let step = way_step x m u l w.are_masters.0 w.are_blind.0 in (
        u.bus,
        step.0,
        step.1,
        trail_of_way u l.in_sheet top us
            (record { goes_up = w.goes_up.1; are_masters = w.are_masters.1; are_blind = w.are_blind.1 }) g down r,
      )

  -- a trail from a bus is followed to its end
  climb_of_trail : (bus crossed : ℕ) (ns : List ℕ) (number : ℕ) → Trail tally bus ns number
      → climbed bus crossed ≡ arrives number (crossed + length ns)
  unfolding Trail
  climb_of_trail bus crossed [] number t = climb_step falling tally bus crossed _ _ t refl ∙ ap (arrives number) (omega arith)
  climb_of_trail bus crossed (m ∷ ns) number (b, e, t) =
      climb_step falling tally bus crossed _ _ e refl
      ∙ ap sent_of (walk_of_trail (rising_of_bridges enabled fs address sound.bridges_rise) b (crossed + 1) ns number t)
      ∙ ap (arrives number) (omega arith)

  module _ (x : Node) (m : x ∈ nodes fs) (crossed top : ℕ) (us : List Node) (w : Way master fs address x.bus us top) where
    -- down to what is reached from its top
    pub arrives_of_way : (g : Registers) (down : List Node) → Reaches enabled fs address top g down
        → climbed x.bus crossed ≡ arrives g.node.number (crossed + (length us + length down))
    arrives_of_way g down r =
        climb_of_way x m crossed top us w
        ∙ climb_of_trail top (crossed + length us) (downward down) g.node.number (trail_of_reaches sound enabled address top g down r)
        ∙ ap (arrives g.node.number) (omega (arith, length_downward down))

    -- to the host, where its top is the root bus and nothing claims there
    pub leaves_of_way : top ≡ host.first → tally host.first ≡ none → climbed x.bus crossed ≡ leaves (crossed + length us)
    leaves_of_way at quiet =
        climb_of_way x m crossed top us w
        ∙ climb_step falling tally top (crossed + length us) none to_host (ap tally at ∙ quiet) (ap up at ∙ up_root)

    -- to a bridge that is no bus master, and whose windows do not hold the address
    pub stops_of_way : (u : Node) → LeadsTo top (nodes fs) u → Blind fs address u → master u.number ≡ false
        → climbed x.bus crossed ≡ stops not_master
    stops_of_way u l blind not_m =
        let (y, my, at) = top_is_bus (nodes fs) top x m us w.goes_up in
        climb_of_way x m crossed top us w ∙ go y my at (up_step y my)
      where
        go : (y : Node) → y ∈ nodes fs → y.bus ≡ top → UpStep y.bus → climbed top (crossed + length us) ≡ stops not_master
        go y my at (at_root e) =
            let r = all_elim _ (nodes fs) sound.bridges_rise l.in_sheet l.is_bridge_lem in
            absurd (omega (arith, r.own_below, l.leads, e, at, root_le sound.bridges_rise sound.tree u l.in_sheet))
        go y my at (by_bridge b mb lb other only) =
            let same : b.node ≡ u = leads_unique sound.bridges_rise sound.tree y my lb (rw at l) in
            let sees = blind b mb same in
            rw (← at)
            (climb_step falling tally y.bus (crossed + length us) none _ (nothing_below b mb y.bus lb sees)
            (up_bridge y.bus b other only false false sees (ap (λ (n : Node). master n.number) same ∙ not_m)))

  -- ## What a climb comes to, and why

  pub data Comes (bus crossed : ℕ) (o : Sent) : Type 0 where
    to_owner : (us : List Node) (top : ℕ) → Way master fs address bus us top
        → (g : Registers) (down : List Node) → Reaches enabled fs address top g down
        → o ≡ arrives g.node.number (crossed + (length us + length down)) → Comes bus crossed o
    to_host_lem : (us : List Node) → Way master fs address bus us host.first → tally host.first ≡ none → o ≡ leaves (crossed + length us)
        → Comes bus crossed o
    unmastered : (us : List Node) (top : ℕ) (u : Node) → Way master fs address bus us top → LeadsTo top (nodes fs) u → Blind fs address u
        → master u.number ≡ false → o ≡ stops not_master → Comes bus crossed o
    nobody : o ≡ stops no_owner → Comes bus crossed o

  here : (bus : ℕ) → Way master fs address bus [] bus
  unfolding Above
  here bus = record { goes_up = refl; are_masters = tt; are_blind = tt }

  blind_of : (b : Registers) → b ∈ fs → window_holds address b ≡ false → Blind fs address b.node
  blind_of b mb e f mf same = rw (number_unique 1 fs f b numbered mf mb (ap (λ (n : Node). n.number) same)) e

  further : (bus : ℕ) (b : Registers) → b ∈ fs → LeadsTo bus (nodes fs) b.node → master b.node.number ≡ true
      → window_holds address b ≡ false → (us : List Node) (top : ℕ) → Way master fs address b.node.bus us top
      → Way master fs address bus (b.node ∷ us) top
  unfolding Above
  further bus b mb l is_master blind us top w =
      record {
        goes_up = (l, w.goes_up);
        are_masters = (is_master, w.are_masters);
        are_blind = (blind_of b mb blind, w.are_blind);
      }

  module _ (bus crossed : ℕ) (b : Registers) (mb : b ∈ fs) (l : LeadsTo bus (nodes fs) b.node) (blind : window_holds address b ≡ false)
      (is_master : master b.node.number ≡ true) where
    comes_further : (o : Sent) → Comes b.node.bus (crossed + 1) o → Comes bus crossed o
    comes_further o (to_owner us top w g down r is) =
        to_owner (b.node ∷ us) top (further bus b mb l is_master blind us top w) g down r
        (is ∙ ap (arrives g.node.number) (omega arith))
    comes_further o (to_host_lem us w quiet is) =
        to_host_lem (b.node ∷ us) (further bus b mb l is_master blind us host.first w) quiet (is ∙ ap leaves (omega arith))
    comes_further o (unmastered us top u w lu bu not_m is) =
        unmastered (b.node ∷ us) top u (further bus b mb l is_master blind us top w) lu bu not_m is
    comes_further o (nobody is) = nobody is

  -- down a window: delivered or 40
  comes_down : (bus crossed n secondary : ℕ) → tally bus ≡ one (window n secondary)
      → (o : Outcome) → walk_from tally secondary (crossed + 1) ≡ o → Comes bus crossed (sent_of o)
  unfolding walk_from Trail
  comes_down bus crossed n secondary e (delivered number count) q =
      let (trail, walked, count_is) = trail_of_delivered tally 256 secondary (crossed + 1) number count q in
      let ends = ends_of_trail enabled fs address bus (n ∷ trail) number (secondary, e, walked) in
      let as_long : length ends.crossed ≡ suc (length trail) =
      sym (length_downward ends.crossed) ∙ ap (λ (l : List ℕ). length l) ends.trail_is in
      to_owner [] bus (here bus) ends.owner ends.crossed ends.reaches
      (ap₂ arrives (sym ends.number_is) (omega (arith, count_is, as_long)))
  comes_down bus crossed n secondary e (refused x) q = go (refused_elim tally 256 secondary (crossed + 1) x q)
    where
      go : (x ≡ no_owner) ⊎ ((b : ℕ) × (tally_on enabled fs address b ≡ several)) → Comes bus crossed (stops x)
      go (inl same) = nobody (ap stops same)
      go (inr (b, q)) = absurd (tally_not_several enabled fs address b sound.disjoint q)

  comes_at_bar : (bus crossed n : ℕ) → tally bus ≡ one (bar n) → Comes bus crossed (arrives n crossed)
  unfolding Trail
  comes_at_bar bus crossed n e =
      let ends = ends_of_trail enabled fs address bus [] n e in
      let as_long : length ends.crossed ≡ 0 = sym (length_downward ends.crossed) ∙ ap (λ (l : List ℕ). length l) ends.trail_is in
      to_owner [] bus (here bus) ends.owner ends.crossed ends.reaches
      (ap₂ arrives (sym ends.number_is) (omega (arith, as_long)))

  comes_from : (n : ℕ) (x : Node) → x ∈ nodes fs → x.bus < n → (crossed : ℕ) → Comes x.bus crossed (climbed x.bus crossed)
  comes_from zero x m h crossed = absurd (omega arith)
  comes_from (suc n) x m h crossed = go (tally x.bus) refl (up_step x m) (λ y my l. comes_from n y my l (crossed + 1))
    where
      via : (b : Registers) → b ∈ fs → LeadsTo x.bus (nodes fs) b.node → ¬ (x.bus ≡ host.first) → leading_to x.bus fs ≡ b ∷ []
          → tally x.bus ≡ none → (w t : Bool) → window_holds address b ≡ w → master b.node.number ≡ t
          → Comes b.node.bus (crossed + 1) (climbed b.node.bus (crossed + 1)) → Comes x.bus crossed (climbed x.bus crossed)
      via b mb l other only quiet true t e q next =
          nobody (climb_step falling tally x.bus crossed none _ quiet (up_bridge x.bus b other only true t e q))
      via b mb l other only quiet false false e q next =
          unmastered [] x.bus b.node (here x.bus) l (blind_of b mb e) q
          (climb_step falling tally x.bus crossed none _ quiet (up_bridge x.bus b other only false false e q))
      via b mb l other only quiet false true e q next =
          subst (Comes x.bus crossed)
          (sym (climb_step falling tally x.bus crossed none _ quiet (up_bridge x.bus b other only false true e q)))
          (comes_further x.bus crossed b mb l e q _ next)

      upward : UpStep x.bus → tally x.bus ≡ none
          → ((y : Node) → y ∈ nodes fs → y.bus < n → Comes y.bus (crossed + 1) (climbed y.bus (crossed + 1)))
          → Comes x.bus crossed (climbed x.bus crossed)
      upward (at_root e) quiet on =
          to_host_lem [] (subst (Way master fs address x.bus []) e (here x.bus)) (ap tally (sym e) ∙ quiet)
          (climb_step falling tally x.bus crossed none to_host quiet (ap up e ∙ up_root) ∙ ap leaves (omega arith))
      upward (by_bridge b mb l other only) quiet on =
          let r = all_elim _ (nodes fs) sound.bridges_rise l.in_sheet l.is_bridge_lem in
          via b mb l other only quiet (window_holds address b) (master b.node.number) refl refl
          (on b.node l.in_sheet (omega (arith, r.own_below, l.leads)))

      go : (t : Tally) → tally x.bus ≡ t → UpStep x.bus
          → ((y : Node) → y ∈ nodes fs → y.bus < n → Comes y.bus (crossed + 1) (climbed y.bus (crossed + 1)))
          → Comes x.bus crossed (climbed x.bus crossed)
      go none e step on = upward step e on
      go several e step on = absurd (tally_not_several enabled fs address x.bus sound.disjoint e)
      go (one (bar k)) e step on =
          subst (Comes x.bus crossed) (sym (climb_step falling tally x.bus crossed _ _ e refl)) (comes_at_bar x.bus crossed k e)
      go (one (window k b)) e step on =
          subst (Comes x.bus crossed) (sym (climb_step falling tally x.bus crossed _ _ e refl))
          (comes_down x.bus crossed k b e _ refl)

  pub climb_comes : (x : Node) → x ∈ nodes fs → (crossed : ℕ) → Comes x.bus crossed (climbed x.bus crossed)
  climb_comes x m crossed = comes_from (suc x.bus) x m (omega arith) crossed
