-- Laws of the walk by ID: document 01's wording and the walk over registers agree, where bridges rise (27) and no ID stands twice (28).
-- Assumes nothing.
use Rattle.std.specs.Prelude.{◌≡◌, Bool, true, false, cond, ◌&&◌, ℕ, ◌<◌, eqb}
use Rattle.std.proofs.Math.Path.{refl}
use Rattle.std.proofs.Common.{sym, ap, ap₂, ◌∙◌, inl, inr, arith, eqb-true, eq-eqb}
use Rattle.std.proofs.Math.Bool.{and-eq-true_iff}
use mathlib.Mathlib.Data.Bool.Basic.{eq-false_of_not-eq-true}
use mathlib.Core.List.{List, [], ◌∷◌, ◌++◌, map, append-nil}
use Rattle.std.proofs.lemmas.Bool.{eqb-false}
use Rattle.lists.specs.Lists.{◌∈◌, All, AtMostOne, one_if, keep}
use Rattle.lists.specs.ListLaws.{all_elim, all_intro}
use Rattle.lists.specs.KeepLaws.{keep_few}
use Rattle.walk.specs.Ranges.{Range, holds, Holds}
use Rattle.walk.proofs.Ranges.{holds_iff}
use Rattle.walk.specs.Registers.{Node, nodes, Claim, window, open_windows}
use Rattle.walk.specs.Tally.{none, one, join, claims_of, claims_on, hits_of, tally_on}
use Rattle.walk.proofs.TallyLaws.{rising_of_bridges}
use Rattle.walk.proofs.SearchLaws.{hits_nil, hits_hit, hits_miss, claims_nil, claims_cons, claims_of_other, claims_of_here}
use Rattle.walk.specs.Walk.{Rising}
use Rattle.walk.specs.Good.{BridgesRise, bus_range}
use Rattle.walk.specs.Ids.{has_id, leads_toward, function_claim, bridge_claim, first_of, tally_by_id, own_bus, by_id, always, DistinctIds}

pub by_id_nodes : (devfn : ℕ) (ns : List Node) → nodes (map (by_id devfn) ns) ≡ ns
by_id_nodes devfn [] = refl
by_id_nodes devfn (n ∷ ns) = ap (n ∷◌) (by_id_nodes devfn ns)

-- ## The two tests as facts

pub has_id_elim : (target devfn : ℕ) (n : Node) → has_id target devfn n ≡ true → (n.bus ≡ target) × (n.devfn ≡ devfn)
has_id_elim target devfn n e =
    let both = (and-eq-true_iff (eqb n.bus target) (eqb n.devfn devfn)).0 e in (eqb-true _ _ both.0, eqb-true _ _ both.1)

pub leads_toward_elim : (target bus : ℕ) (n : Node) → leads_toward target bus n ≡ true
    → (n.bus ≡ bus) × (n.bridge ≡ true) × Holds (bus_range n) target
leads_toward_elim target bus n e =
    let (here, rest) = (and-eq-true_iff (eqb n.bus bus) (n.bridge && holds (bus_range n) target)).0 e in
    let (is_bridge_lem, held) = (and-eq-true_iff n.bridge (holds (bus_range n) target)).0 rest in
    (eqb-true _ _ here, is_bridge_lem, (holds_iff (bus_range n) target).0 held)

-- no two functions have one ID
pub never_both_ids : (target devfn : ℕ) (n m : Node) → (n.bus ≡ m.bus → n.devfn ≡ m.devfn → ⊥) → has_id target devfn n ≡ true
    → has_id target devfn m ≡ true → ⊥
never_both_ids target devfn n m differ p q =
    let (bus_n, devfn_n) = has_id_elim target devfn n p in
    let (bus_m, devfn_m) = has_id_elim target devfn m q in
    differ (bus_n ∙ sym bus_m) (devfn_n ∙ sym devfn_m)

-- ## Node by node

-- a function on this bus whose own bus counts as its BAR, which holds the target's bus
abbrev own_bus_claims : ℕ → ℕ → ℕ → Node → Bool
own_bus_claims target devfn bus n = eqb n.bus bus && (eqb n.devfn devfn && holds (own_bus n) target)

-- a range that is there on a condition: one claim if it is there and holds the address
hits_if : (address : ℕ) (c : Claim) (r : Range) (b : Bool) → hits_of address c (one_if b r) ≡ one_if (b && holds r address) c
hits_if address c r false = hits_nil address c
hits_if address c r true = go (holds r address) refl
  where
    go : (h : Bool) → holds r address ≡ h → hits_of address c (r ∷ []) ≡ one_if (holds r address) c
    go true e = hits_hit address c r [] e ∙ rw (e, hits_nil address c)
    go false e = hits_miss address c r [] e ∙ rw (e, hits_nil address c)

-- two tests that pass together
same_test : (a b : Bool) → (a ≡ true → b ≡ true) → (b ≡ true → a ≡ true) → a ≡ b
same_test true b to from = sym (to refl)
same_test false true to from = from refl
same_test false false to from = refl

-- One node's claims by ID: one for its own bus if it has the device/function, and one for its range if it is a bridge.
node_claims : (target devfn bus : ℕ) (n : Node)
    → claims_of always target bus (by_id devfn n) ≡ one_if (own_bus_claims target devfn bus n) (function_claim n) ++ one_if
    (leads_toward target bus n) (bridge_claim n)
node_claims target devfn bus n = go (eqb n.bus bus) refl
  where
    own : hits_of target (function_claim n) (by_id devfn n).bars ≡ one_if (eqb n.devfn devfn && holds (own_bus n) target) (function_claim n)
    own = hits_if target (function_claim n) (own_bus n) (eqb n.devfn devfn)

    range : hits_of target (bridge_claim n) (open_windows (by_id devfn n)) ≡ one_if (n.bridge && holds (bus_range n) target) (bridge_claim n)
    range = hits_if target (bridge_claim n) (bus_range n) n.bridge

    go : (here : Bool) → eqb n.bus bus ≡ here
        → claims_of always target bus (by_id devfn n) ≡ one_if (own_bus_claims target devfn bus n) (function_claim n) ++ one_if
        (leads_toward target bus n) (bridge_claim n)
    go true e = claims_of_here always target bus (by_id devfn n) (rw e) ∙ rw e (ap₂ ◌++◌ own range)
    go false e = claims_of_other always target bus (by_id devfn n) (rw e) ∙ rw e

-- Claims node by node, where each node makes one if it passes a test and none if not.
claims_by_node : (devfn target bus : ℕ) (p : Node → Bool) (c : Node → Claim) (ns : List Node)
    → All (λ n. claims_of always target bus (by_id devfn n) ≡ one_if (p n) (c n)) ns
    → claims_on always (map (by_id devfn) ns) target bus ≡ map c (keep p ns)
unfolding keep
claims_by_node devfn target bus p c [] h = claims_nil always target bus
claims_by_node devfn target bus p c (n ∷ ns) h =
    claims_cons always target bus (by_id devfn n) (map (by_id devfn) ns)
    ∙ ap₂ ◌++◌ h.0 (claims_by_node devfn target bus p c ns h.1)
    ∙ go (p n)
  where
    go : (b : Bool) → one_if b (c n) ++ map c (keep p ns) ≡ map c (cond b (n ∷ keep p ns) (keep p ns))
    go true = refl
    go false = refl

module _ (ns : List Node) (rise : BridgesRise ns) (target devfn bus : ℕ) where
  -- On the target's bus no bridge's range holds it, for ranges start past the bridge's own bus.
  claims_on_target : bus ≡ target → (n : Node) → n ∈ ns → claims_of always target bus (by_id devfn n)
      ≡ one_if (has_id target devfn n) (function_claim n)
  claims_on_target e n m =
      node_claims target devfn bus n
      ∙ ap₂ (λ (b c : Bool). one_if b (function_claim n) ++ one_if c (bridge_claim n)) (same_test _ _ to from)
      (eq-false_of_not-eq-true no_range)
      ∙ append-nil _
    where
      to : own_bus_claims target devfn bus n ≡ true → has_id target devfn n ≡ true
      to h =
          let (here, rest) = (and-eq-true_iff _ _).0 h in
          (and-eq-true_iff _ _).1 (eq-eqb _ _ (eqb-true _ _ here ∙ e), ((and-eq-true_iff _ _).0 rest).0)

      from : has_id target devfn n ≡ true → own_bus_claims target devfn bus n ≡ true
      from h =
          let (here, same_devfn) = (and-eq-true_iff _ _).0 h in
          let at : n.bus ≡ target = eqb-true _ _ here in
          (and-eq-true_iff _ _).1
          (eq-eqb _ _ (at ∙ sym e), (and-eq-true_iff _ _).1 (same_devfn, (holds_iff (own_bus n) target).1 (omega arith)))

      no_range : leads_toward target bus n ≡ true → ⊥
      no_range h =
          let (at, is_bridge_lem, held) = leads_toward_elim target bus n h in
          let r = all_elim _ ns rise m is_bridge_lem in
          omega (arith, r.own_below, held.from_start)

  -- Off it no function's own bus is the target's.
  claims_off_target : (bus ≡ target → ⊥) → (n : Node) → claims_of always target bus (by_id devfn n)
      ≡ one_if (leads_toward target bus n) (bridge_claim n)
  claims_off_target e n =
      node_claims target devfn bus n
      ∙ ap (λ (b : Bool). one_if b (function_claim n) ++ one_if (leads_toward target bus n) (bridge_claim n))
      (eq-false_of_not-eq-true no_function_lem)
    where
      no_function_lem : own_bus_claims target devfn bus n ≡ true → ⊥
      no_function_lem h =
          let (here, rest) = (and-eq-true_iff _ _).0 h in
          let at : n.bus ≡ bus = eqb-true _ _ here in
          let held = (holds_iff (own_bus n) target).0 ((and-eq-true_iff (eqb n.devfn devfn) _).0 rest).1 in
          e (omega (arith, held.from_start, held.before_stop))

  -- As document 01 words it, and as registers.
  pub tally_by_id_agree : DistinctIds ns → tally_by_id ns target devfn bus ≡ tally_on always (map (by_id devfn) ns) target bus
  unfolding tally_by_id tally_on join
  tally_by_id_agree distinct = go (eqb bus target) refl
    where
      first_is_only : (found : List Node) → AtMostOne found → first_of found ≡ join none (map function_claim found)
      first_is_only found (inl e) = rw e
      first_is_only found (inr (n, e)) = rw e

      go : (b : Bool) → eqb bus target ≡ b
          → cond b (first_of (keep (has_id target devfn) ns)) (join none (map bridge_claim (keep (leads_toward target bus) ns)))
          ≡ join none (claims_on always (map (by_id devfn) ns) target bus)
      go true e =
          let each = all_intro _ ns (claims_on_target (eqb-true _ _ e)) in
          first_is_only _ (keep_few (has_id target devfn) (never_both_ids target devfn) ns distinct)
          ∙ ap (join none) (sym (claims_by_node devfn target bus (has_id target devfn) function_claim ns each))
      go false e =
          let each = all_intro _ ns (λ n _. claims_off_target (eqb-false _ _ e) n) in
          ap (join none) (sym (claims_by_node devfn target bus (leads_toward target bus) bridge_claim ns each))

pub rising_by_id : (ns : List Node) → BridgesRise ns → DistinctIds ns → (target devfn : ℕ) → Rising (tally_by_id ns target devfn)
rising_by_id ns rise distinct target devfn = record { rises = up }
  where
    up : (bus n secondary : ℕ) → tally_by_id ns target devfn bus ≡ one (window n secondary) → (bus < secondary) × (secondary < 256)
    up bus n secondary e =
        (rising_of_bridges always (map (by_id devfn) ns) target (rw by_id_nodes rise)).rises bus n secondary
        (sym (tally_by_id_agree ns rise target devfn bus distinct) ∙ e)
