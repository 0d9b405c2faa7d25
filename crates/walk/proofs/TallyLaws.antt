-- Laws of the tally: what its answers say of the claims, and what a search that stops at the second claim goes by. Assumes nothing.
use Rattle.std.specs.Prelude.{◌≡◌, refl, ◌⊎◌, ◌↔◌, Bool, true, false, ◌&&◌, ℕ, ◌<◌, eqb}
use Rattle.std.proofs.Common.{sym, ap, ◌∙◌, inl, inr, suc-ne-zero, arith, eqb-true, eq-eqb}
use Rattle.std.proofs.Math.Bool.{and-false, and-eq-true_iff}
use mathlib.Core.List.Memᴰ
use mathlib.Core.List.{List, [], ◌∷◌, ◌++◌, flat_map}
use Rattle.lists.specs.Lists.{◌∈◌, Some, AtMostOne, keep}
use Rattle.lists.specs.ListLaws.{all_elim, all_intro, some_of_member}
use Rattle.lists.specs.KeepLaws.{keep_elim, keep_none, keep_few, keep_only, keep_agree}
use Rattle.walk.specs.Ranges.{holds, Holds}
use Rattle.walk.proofs.Ranges.{holds_iff, apart_never_both}
use Rattle.walk.specs.Registers.{Registers, nodes, Item, Claim, bar, window, items}
use Rattle.walk.proofs.RegistersLaws.{BarOf, WindowOf, item_elim, node_mem}
use Rattle.walk.specs.Tally.{Tally, none, one, several, join, claims, claims_in, claims_on, tally_on}
use Rattle.walk.specs.Walk.{Rising}
use Rattle.walk.specs.Good.{BridgesRise, Disjoint, ApartOnBus}
use Rattle.walk.specs.TallyLaws.{Claims}

pub join_several : (cs : List Claim) → join several cs ≡ several
unfolding join
join_several [] = refl
join_several (c ∷ cs) = refl

pub join_append : (t : Tally) (cs ds : List Claim) → join t (cs ++ ds) ≡ join (join t cs) ds
unfolding join
join_append t [] ds = refl
join_append none (c ∷ cs) ds = join_append (one c) cs ds
join_append (one d) (c ∷ cs) ds = sym (join_several ds)
join_append several (c ∷ cs) ds = sym (join_several ds)

pub claims_of_one : (cs : List Claim) (c : Claim) → join none cs ≡ one c → cs ≡ c ∷ []
unfolding join
claims_of_one [] c e = cc
claims_of_one (d ∷ []) c e = cc
claims_of_one (d ∷ d₂ ∷ ds) c e = cc

pub claims_of_none : (cs : List Claim) → join none cs ≡ none → cs ≡ []
unfolding join
claims_of_none [] e = refl
claims_of_none (d ∷ []) e = cc
claims_of_none (d ∷ d₂ ∷ ds) e = cc

few_not_several : (is : List Item) → AtMostOne is → join none (claims_in is) ≡ several → ⊥
unfolding join
few_not_several is (inl few) e = let never : ◌≡◌ {A = Tally} none several = sym (rw few) ∙ e in suc-ne-zero 0 (cc)
few_not_several is (inr few) e = let never : one few.0.claim ≡ several = sym (rw few.1) ∙ e in suc-ne-zero 0 (cc)

pub claims_iff : (enabled : ℕ → Bool) (address bus : ℕ) (i : Item) → (claims enabled address bus i ≡ true) ↔ Claims enabled address bus i
claims_iff enabled address bus i = (to, from)
  where
    to : claims enabled address bus i ≡ true → Claims enabled address bus i
    to e =
        let both = (and-eq-true_iff _ _).0 e in
        let first = (and-eq-true_iff _ _).0 both.0 in
        record { on_bus_lem = eqb-true _ _ first.0; is_enabled = first.1; in_range = (holds_iff _ _).0 both.1 }

    from : Claims enabled address bus i → claims enabled address bus i ≡ true
    from c = (and-eq-true_iff _ _).1 ((and-eq-true_iff _ _).1 (eq-eqb _ _ c.on_bus_lem, c.is_enabled), (holds_iff _ _).1 c.in_range)

-- Who makes the one claim of a bus.
pub record BarClaim (enabled : ℕ → Bool) (fs : List Registers) (address bus number : ℕ) : Type 0 where
  pub owner : Registers
  pub in_sheet : owner ∈ fs
  pub number_is : owner.node.number ≡ number
  pub on_bus_lem : owner.node.bus ≡ bus
  pub is_enabled : enabled owner.node.number ≡ true
  pub bar_holds_lem : Some (λ r. Holds r address) owner.bars

pub record WindowClaim (enabled : ℕ → Bool) (fs : List Registers) (address bus number secondary : ℕ) : Type 0 where
  pub owner : Registers
  pub in_sheet : owner ∈ fs
  pub is_bridge_lem : owner.node.bridge ≡ true
  pub number_is : owner.node.number ≡ number
  pub leads : owner.node.secondary ≡ secondary
  pub on_bus_lem : owner.node.bus ≡ bus
  pub is_enabled : enabled owner.node.number ≡ true
  pub window_holds_lem : Some (λ r. Holds r address) owner.windows

module _ (enabled : ℕ → Bool) (fs : List Registers) (address bus : ℕ) where
  claim_of_one : (c : Claim) → tally_on enabled fs address bus ≡ one c → (i : Item) × (i ∈ items fs) × Claims enabled address bus i
      × (i.claim ≡ c)
  unfolding tally_on
  claim_of_one c e =
      let only : c ∈ claims_on enabled fs address bus = rw (claims_of_one _ c e) (Memᴰ.head refl) in
      let from = Memᴰ.of_map (λ (i : Item). i.claim) (keep (claims enabled address bus) (items fs)) only in
      let passed = keep_elim (claims enabled address bus) (items fs) from.1 in
      (from.0, passed.0, (claims_iff enabled address bus from.0).0 passed.1, from.2)

  pub bar_of_tally : (number : ℕ) → tally_on enabled fs address bus ≡ one (bar number) → BarClaim enabled fs address bus number
  bar_of_tally number e = let (i, m, c, q) = claim_of_one _ e in go i c q (item_elim fs m)
    where
      go : (i : Item) → Claims enabled address bus i → i.claim ≡ bar number → BarOf fs i ⊎ WindowOf fs i
          → BarClaim enabled fs address bus number
      go i c q (inl b) =
          record {
            owner = i.owner;
            in_sheet = b.in_sheet;
            number_is = cc;
            on_bus_lem = c.on_bus_lem;
            is_enabled = c.is_enabled;
            bar_holds_lem = some_of_member _ i.owner.bars b.in_bars c.in_range;
          }
      go i c q (inr w) = absurd (suc-ne-zero 0 (cc))

  pub window_of_tally : (number secondary : ℕ) → tally_on enabled fs address bus ≡ one (window number secondary)
      → WindowClaim enabled fs address bus number secondary
  window_of_tally number secondary e = let (i, m, c, q) = claim_of_one _ e in go i c q (item_elim fs m)
    where
      go : (i : Item) → Claims enabled address bus i → i.claim ≡ window number secondary → BarOf fs i ⊎ WindowOf fs i
          → WindowClaim enabled fs address bus number secondary
      go i c q (inl b) = absurd (suc-ne-zero 0 (cc))
      go i c q (inr w) =
          record {
            owner = i.owner;
            in_sheet = w.in_sheet;
            is_bridge_lem = w.is_bridge_lem;
            number_is = cc;
            leads = cc;
            on_bus_lem = c.on_bus_lem;
            is_enabled = c.is_enabled;
            window_holds_lem = some_of_member _ i.owner.windows w.in_windows c.in_range;
          }

  module _ (disjoint : Disjoint fs) where
    never_both : (i j : Item) → ApartOnBus i j → claims enabled address bus i ≡ true → claims enabled address bus j ≡ true → ⊥
    never_both i j apart p q =
        let ci = (claims_iff enabled address bus i).0 p in
        let cj = (claims_iff enabled address bus j).0 q in
        apart_never_both (apart (ci.on_bus_lem ∙ sym cj.on_bus_lem)) ci.in_range cj.in_range

    pub tally_of_claim : {i : Item} → i ∈ items fs → Claims enabled address bus i → tally_on enabled fs address bus ≡ one i.claim
    unfolding tally_on join
    tally_of_claim {i} m c =
        rw (keep_only (claims enabled address bus) never_both (items fs) disjoint.apart_on_bus m ((claims_iff enabled address bus i).1 c))

    pub tally_not_several : tally_on enabled fs address bus ≡ several → ⊥
    unfolding tally_on
    tally_not_several e = few_not_several _ (keep_few (claims enabled address bus) never_both (items fs) disjoint.apart_on_bus) e

-- where nothing claims
pub tally_quiet : (enabled : ℕ → Bool) (fs : List Registers) (address bus : ℕ)
    → ((i : Item) → i ∈ items fs → ¬ Claims enabled address bus i) → tally_on enabled fs address bus ≡ none
unfolding tally_on join
tally_quiet enabled fs address bus quiet =
    rw (keep_none (claims enabled address bus) (items fs)
    (all_intro _ (items fs) (λ i m. off i m (claims enabled address bus i) refl)))
  where
    off : (i : Item) → i ∈ items fs → (t : Bool) → claims enabled address bus i ≡ t → t ≡ false
    off i m false e = refl
    off i m true e = absurd (quiet i m ((claims_iff enabled address bus i).0 e))

pub tally_nil : (enabled : ℕ → Bool) (address bus : ℕ) → tally_on enabled [] address bus ≡ none
unfolding tally_on join items flat_map keep
tally_nil enabled address bus = refl

-- A command bit matters only where something of its function holds the address.
pub tally_agree : (enabled enabled' : ℕ → Bool) (fs : List Registers) (address : ℕ)
    → ((i : Item) → i ∈ items fs → Holds i.range address → enabled i.owner.node.number ≡ enabled' i.owner.node.number)
    → (bus : ℕ) → tally_on enabled fs address bus ≡ tally_on enabled' fs address bus
unfolding tally_on
tally_agree enabled enabled' fs address h bus =
    ap (λ (is : List Item). join none (claims_in is)) (keep_agree (claims enabled address bus) (claims enabled' address bus) (items fs) same)
  where
    go : (i : Item) → i ∈ items fs → (b : Bool) → holds i.range address ≡ b → claims enabled address bus i
        ≡ claims enabled' address bus i
    go i m true e = ap (λ (on : Bool). eqb i.owner.node.bus bus && on && holds i.range address) (h i m ((holds_iff _ _).0 e))
    go i m false e = simp (e, and-false)

    same : (i : Item) → i ∈ items fs → claims enabled address bus i ≡ claims enabled' address bus i
    same i m = go i m (holds i.range address) refl

-- Where bridges rise (27) the tally leads upwards: what the walk's equation asks.
pub rising_of_bridges : (enabled : ℕ → Bool) (fs : List Registers) (address : ℕ) → BridgesRise (nodes fs)
    → Rising (tally_on enabled fs address)
rising_of_bridges enabled fs address rise = record { rises = up }
  where
    up : (bus n secondary : ℕ) → tally_on enabled fs address bus ≡ one (window n secondary) → (bus < secondary) × (secondary < 256)
    up bus n secondary e =
        let w = window_of_tally enabled fs address bus n secondary e in
        let r = all_elim _ (nodes fs) rise (node_mem w.in_sheet) w.is_bridge_lem in
        (omega (arith, r.own_below, w.on_bus_lem, w.leads), omega (arith, r.range_open, r.last_is_byte, w.leads))
