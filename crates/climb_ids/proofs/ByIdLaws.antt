-- Laws of the way by ID on any sheet that passes its checks: who may not claim has no claim, so every claim may be counted; the way up is
-- document 02's over the registers by ID; and bus numbers fall on it. Assumes nothing.
use Rattle.std.specs.Prelude.{◌≡◌, Bool, true, false, cond, not, ◌&&◌, eqb}
use Rattle.std.proofs.Math.Path.{refl}
use Rattle.std.proofs.Common.{sym, ap, ◌∙◌, inl, inr, true≢false, suc-ne-zero, arith, eqb-true, eq-eqb, ne_eqb}
use Rattle.std.proofs.Math.Bool.{and-eq-true_iff, or-false}
use mathlib.Mathlib.Data.Bool.Basic.{eq-false_of_not-eq-true}
use mathlib.Core.List.Memᴰ
use mathlib.Core.List.{List, [], ◌∷◌, ◌++◌, map, append-nil}
use Prim.Native.Nat.{ℕ, zero, suc, ◌+◌, ◌<◌, ◌/◌, ◌%◌}
use Rattle.std.proofs.lemmas.Bool.{eqb-false}
use Rattle.lists.specs.Lists.{◌∈◌, AtMostOne, keep, any}
use Rattle.lists.specs.ListLaws.{all_elim, all_intro}
use Rattle.lists.specs.KeepLaws.{keep_agree, keep_none, keep_few, map_keep}
use Rattle.walk.proofs.Ranges.{holds_iff}
use Rattle.walk.specs.Registers.{Node, Registers}
use Rattle.walk.specs.Tally.{Tally, none, join}
use Rattle.walk.specs.Walk.{no_owner, walk_from}
use Rattle.walk.specs.Above.{is_above, bridges_to, LeadsTo}
use Rattle.walk.proofs.AboveLaws.{bridges_to_elim}
use Rattle.walk.specs.Good.{BridgesRise, bus_range}
use Rattle.walk.specs.Ids.{has_id, leads_toward, function_claim, bridge_claim, first_of, tally_by_id, by_id, always, DistinctIds}
use Rattle.walk.proofs.IdsLaws.{has_id_elim, leads_toward_elim, never_both_ids}
use Rattle.walk.specs.Climb.{Up, to_host, across, halts, window_holds, up_through, up_from, stops, settle_up, go_up}
use Rattle.walk.specs.Climb.{climb_over, climb_from, climb_beside}
use Rattle.walk.proofs.ClimbLaws.{Falling}
use Rattle.climb_ids.specs.ById.{function_may_claim, bridge_may_claim, tally_beside_by_id, up_past, up_unless, buses_hold, climb_by_id, sent_to_other}

-- two tests that pass together
same_test : (a b : Bool) → (a ≡ true → b ≡ true) → (b ≡ true → a ≡ true) → a ≡ b
same_test true b to from = sym (to refl)
same_test false true to from = from refl
same_test false false to from = refl

not_eqb : (a b : ℕ) → ¬ (a ≡ b) → not (eqb a b) ≡ true
not_eqb a b h = ap not (ne_eqb a b h)

-- ## The way up

-- the bridge that a way up goes through
pub record Past (stays : Node → Bool) (ns : List Node) (bus number own : ℕ) : Type 0 where
  pub bridge : Node
  pub leads : LeadsTo bus ns bridge
  pub number_is : bridge.number ≡ number
  pub bus_is : bridge.bus ≡ own
  pub lets_past : stays bridge ≡ false

pub past_elim : (stays : Node → Bool) (ns : List Node) (root bus number own : ℕ) → up_unless stays ns root bus ≡ across number own
    → Past stays ns bus number own
unfolding up_unless
past_elim stays ns root bus number own e = go (eqb bus root) (bridges_to bus ns) refl e
  where
    step : (b : Node) → b ∈ bridges_to bus ns → (w : Bool) → stays b ≡ w
        → cond w (halts no_owner) (across b.number b.bus) ≡ across number own → Past stays ns bus number own
    step b there true p e = absurd (suc-ne-zero 0 (cc))
    step b there false p e =
        let number_is : b.number ≡ number = cc in
        let bus_is : b.bus ≡ own = cc in
        record { bridge = b; leads = bridges_to_elim bus ns there; number_is = number_is; bus_is = bus_is; lets_past = p }

    go : (t : Bool) (bs : List Node) → bridges_to bus ns ≡ bs → cond t to_host (up_past stays bs) ≡ across number own
        → Past stays ns bus number own
    go true bs is e = absurd (suc-ne-zero 0 (cc))
    go false [] is e = absurd (suc-ne-zero 0 (cc))
    go false (b ∷ []) is e = step b (rw is (Memᴰ.head refl)) (stays b) refl e
    go false (b ∷ c ∷ bs) is e = absurd (suc-ne-zero 0 (cc))

-- as check 27 has it
pub falling_unless : (stays : Node → Bool) (ns : List Node) (root : ℕ) → BridgesRise ns → Falling (up_unless stays ns root)
falling_unless stays ns root rise =
    record {
      falls = λ bus number own e.
          let p = past_elim stays ns root bus number own e in
          let r = all_elim _ ns rise p.leads.in_sheet p.leads.is_bridge_lem in
          omega (arith, r.own_below, p.leads.leads, p.bus_is);
    }

one_window : (target devfn : ℕ) (b : Node) → buses_hold target b ≡ window_holds target (by_id devfn b)
unfolding any
one_window target devfn b = sym (or-false (buses_hold target b))

-- document 02's way up over the registers by ID, with every bridge a bus master
pub up_agree : (ns : List Node) (target devfn root bus : ℕ)
    → up_unless (buses_hold target) ns root bus ≡ up_from always (map (by_id devfn) ns) target root bus
unfolding up_unless up_from
up_agree ns target devfn root bus =
    ap (cond (eqb bus root) to_host)
    (through (bridges_to bus ns)
    ∙ ap (up_through always target) (map_keep (λ (f : Registers). is_above bus f.node) (by_id devfn) ns))
  where
    through : (bs : List Node) → up_past (buses_hold target) bs ≡ up_through always target (map (by_id devfn) bs)
    through [] = refl
    through (b ∷ []) = ap (λ (t : Bool). cond t (halts no_owner) (across b.number b.bus)) (one_window target devfn b)
    through (b ∷ c ∷ bs) = refl

-- ## Who may not claim has no claim

module _ (ns : List Node) (rise : BridgesRise ns) (distinct : DistinctIds ns) (target devfn start : ℕ)
    (other : (n : Node) → n ∈ ns → n.number ≡ start → has_id target devfn n ≡ false) where
  -- the bridge come through, if any, does not have the ID's bus among its buses
  abbrev PastBy : ℕ → Type 0
  PastBy came = (n : Node) → n ∈ ns → n.number ≡ came → buses_hold target n ≡ false

  function_claims : (bus : ℕ) → bus ≡ target → (n : Node) → n ∈ ns → function_may_claim target devfn start bus n ≡ has_id target devfn n
  function_claims bus e n m = same_test _ _ to from
    where
      to : function_may_claim target devfn start bus n ≡ true → has_id target devfn n ≡ true
      to h =
          let rest = ((and-eq-true_iff (eqb n.bus bus) (has_id target devfn n && not (eqb n.number start))).0 h).1 in
          ((and-eq-true_iff (has_id target devfn n) (not (eqb n.number start))).0 rest).0

      from : has_id target devfn n ≡ true → function_may_claim target devfn start bus n ≡ true
      from h =
          let (at, _) = has_id_elim target devfn n h in
          (and-eq-true_iff _ _).1 (
            eq-eqb _ _ (at ∙ sym e),
            (and-eq-true_iff _ _).1 (h, not_eqb _ _ (λ same. true≢false (sym h ∙ other n m same))),
          )

  no_function_claims : (bus : ℕ) → ¬ (bus ≡ target) → (n : Node) → function_may_claim target devfn start bus n ≡ false
  no_function_claims bus off n =
      eq-false_of_not-eq-true (λ h.
      let (here, rest) = (and-eq-true_iff (eqb n.bus bus) _).0 h in
      let (at, _) = has_id_elim target devfn n ((and-eq-true_iff _ _).0 rest).0 in
      off (sym (eqb-true _ _ here) ∙ at))

  bridge_claims : (came bus : ℕ) → PastBy came → (n : Node) → n ∈ ns → bridge_may_claim target came bus n ≡ leads_toward target bus n
  bridge_claims came bus past n m = same_test _ _ to from
    where
      to : bridge_may_claim target came bus n ≡ true → leads_toward target bus n ≡ true
      to h = ((and-eq-true_iff _ _).0 h).0

      from : leads_toward target bus n ≡ true → bridge_may_claim target came bus n ≡ true
      from h =
          let (_, _, held) = leads_toward_elim target bus n h in
          (and-eq-true_iff _ _).1
          (h, not_eqb _ _ (λ same. true≢false (sym ((holds_iff (bus_range n) target).1 held) ∙ past n m same)))

  -- on the ID's bus no bridge's range holds it, for ranges start past the bridge's own bus
  no_bridge_claims : (came bus : ℕ) → bus ≡ target → (n : Node) → n ∈ ns → bridge_may_claim target came bus n ≡ false
  no_bridge_claims came bus e n m =
      eq-false_of_not-eq-true (λ h.
      let (at, is_bridge_lem, held) = leads_toward_elim target bus n ((and-eq-true_iff _ _).0 h).0 in
      let r = all_elim _ ns rise m is_bridge_lem in
      omega (arith, r.own_below, held.from_start))

  beside_agree : (came : ℕ) → PastBy came → (bus : ℕ) → tally_beside_by_id ns target devfn start came bus ≡ tally_by_id ns target devfn bus
  unfolding tally_beside_by_id tally_by_id join
  beside_agree came past bus = go (eqb bus target) refl
    where
      first_is_only : (found : List Node) → AtMostOne found → join none (map function_claim found) ≡ first_of found
      first_is_only found (inl e) = rw e
      first_is_only found (inr (n, e)) = rw e

      go : (b : Bool) → eqb bus target ≡ b
          → join none (map function_claim (keep (function_may_claim target devfn start bus) ns) ++ map bridge_claim
          (keep (bridge_may_claim target came bus) ns))
          ≡ cond b (first_of (keep (has_id target devfn) ns)) (join none (map bridge_claim (keep (leads_toward target bus) ns)))
      go true e =
          let on : bus ≡ target = eqb-true _ _ e in
          rw (
            keep_agree (function_may_claim target devfn start bus) (has_id target devfn) ns (function_claims bus on),
            keep_none (bridge_may_claim target came bus) ns (all_intro _ ns (no_bridge_claims came bus on)),
          )
          (ap (join none) (append-nil (map function_claim (keep (has_id target devfn) ns)))
          ∙ first_is_only (keep (has_id target devfn) ns) (keep_few (has_id target devfn) (never_both_ids target devfn) ns distinct))
      go false e =
          let off = eqb-false _ _ e in
          rw (
            keep_none (function_may_claim target devfn start bus) ns (all_intro _ ns (λ n _. no_function_claims bus off n)),
            keep_agree (bridge_may_claim target came bus) (leads_toward target bus) ns (bridge_claims came bus past),
          ) refl

  module _ (numbers : (n m : Node) → n ∈ ns → m ∈ ns → n.number ≡ m.number → n ≡ m) (root : ℕ) where
    abbrev tally : ℕ → Tally
    tally = tally_by_id ns target devfn

    abbrev up : ℕ → Up
    up = up_unless (buses_hold target) ns root

    -- as document 03 has it, and with every claim counted: one climb
    pub climb_agree : (n came bus crossed : ℕ) → PastBy came
        → climb_beside tally up (tally_beside_by_id ns target devfn start) n came bus crossed ≡ climb_over tally up n bus crossed
    unfolding climb_beside climb_over
    climb_agree zero came bus crossed past = refl
    climb_agree (suc n) came bus crossed past =
        rw (beside_agree came past bus)
        (ap (settle_up (tally bus) crossed (λ b. walk_from tally b (crossed + 1)))
        (go (up bus) refl (λ c b. climb_agree n c b (crossed + 1))))
      where
        beside : ℕ → ℕ → Tally
        beside = tally_beside_by_id ns target devfn start

        go : (u : Up) → up bus ≡ u
            → ((c b : ℕ) → PastBy c → climb_beside tally up beside n c b (crossed + 1) ≡ climb_over tally up n b (crossed + 1))
            → go_up u crossed (λ number b. climb_beside tally up beside n number b (crossed + 1))
            ≡ go_up u crossed (λ number b. climb_over tally up n b (crossed + 1))
        go to_host e on = refl
        go (halts x) e on = refl
        go (across number b) e on =
            let p = past_elim (buses_hold target) ns root bus number b e in
            on number b (λ m mm same.
            ap (buses_hold target) (numbers m p.bridge mm p.leads.in_sheet (same ∙ sym p.number_is)) ∙ p.lets_past)

-- ## From a function

-- record numbers name one function each, from 1 on, and the function with this number has this ID
pub record Sender (ns : List Node) (number own : ℕ) : Type 0 where
  pub from_1 : (n : Node) → n ∈ ns → 0 < n.number
  pub numbers : (n m : Node) → n ∈ ns → m ∈ ns → n.number ≡ m.number → n ≡ m
  pub has_own : (n : Node) → n ∈ ns → n.number ≡ number → (n.bus ≡ own / 256) × (n.devfn ≡ own % 256)

module _ (ns : List Node) (rise : BridgesRise ns) (distinct : DistinctIds ns) (root number own id : ℕ) (sender : Sender ns number own) where
  -- who has another ID than the sender is another function
  lacks_id : ¬ (id ≡ own) → (n : Node) → n ∈ ns → n.number ≡ number → has_id (id / 256) (id % 256) n ≡ false
  lacks_id other n m same =
      eq-false_of_not-eq-true (λ h.
      let (at, devfn) = has_id_elim (id / 256) (id % 256) n h in
      let (own_at, own_devfn) = sender.has_own n m same in
      other (same_id (sym at ∙ own_at) (sym devfn ∙ own_devfn)))
    where
      same_id : id / 256 ≡ own / 256 → id % 256 ≡ own % 256 → id ≡ own
      same_id p q = omega arith

  pub sent_climb : ¬ (id ≡ own)
      → sent_to_other ns root number own id
      ≡ climb_from (tally_by_id ns (id / 256) (id % 256)) (up_unless (buses_hold (id / 256)) ns root) (own / 256) 0
  unfolding sent_to_other climb_by_id climb_from
  sent_climb other =
      rw (ne_eqb id own other)
      (climb_agree ns rise distinct (id / 256) (id % 256) number (lacks_id other) sender.numbers root (suc (own / 256)) 0 (own / 256) 0
      (λ n m none. absurd (omega (arith, sender.from_1 n m, none))))

  pub sent_own : id ≡ own → sent_to_other ns root number own id ≡ stops no_owner
  unfolding sent_to_other
  sent_own same = rw (eq-eqb id own same)
