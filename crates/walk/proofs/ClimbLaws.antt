-- Laws of the climb on any sheet: who may not claim holds nothing, so every claim may be counted; where bus numbers rise at each bridge the
-- bound does not matter; and a walk that starts with bridges crossed is the walk from none, with these added. Assumes nothing.
use Rattle.std.specs.Prelude.{◌≡◌, ◌⊎◌, Bool, not, ◌&&◌, eqb}
use Rattle.std.proofs.Math.Path.{refl, ap}
use Rattle.std.proofs.Common.{sym, ap₂, subst, ◌∙◌, inl, inr, true≢false, suc-ne-zero, arith, eqb-true, eq-eqb}
use Rattle.std.proofs.Math.Bool.{true, false, cond, and-eq-true_iff}
use mathlib.Core.List.Memᴰ
use mathlib.Core.List.{List, [], ◌∷◌}
use Prim.Native.Nat.{ℕ, zero, suc, ◌+◌, ◌<◌}
use Rattle.lists.specs.Lists.{◌∈◌, keep, any}
use Rattle.lists.specs.ListLaws.{all_elim, all_intro, some_of_member}
use Rattle.lists.specs.KeepLaws.{keep_elim, keep_intro, keep_all}
use Rattle.walk.specs.Ranges.{Range, holds, Holds}
use Rattle.walk.proofs.Ranges.{any_holds_iff}
use Rattle.walk.specs.Registers.{Registers, nodes, Item, items, bar, window, NumberedFrom}
use Rattle.walk.proofs.RegistersLaws.{BarOf, WindowOf, item_elim, node_mem, number_ge, number_unique}
use Rattle.walk.specs.Above.{is_above}
use Rattle.walk.specs.Tally.{Tally, none, one, several, join, claims, claims_in, tally_on}
use Rattle.walk.proofs.TallyLaws.{claims_iff}
use Rattle.walk.specs.Walk.{Outcome, delivered, refused, no_owner, settle, walk_over, walk_from, Trail}
use Rattle.walk.proofs.WalkLaws.{trail_unique}
use Rattle.walk.specs.Good.{BridgesRise}
use Rattle.walk.specs.Climb.{Up, to_host, across, halts, not_master, leading_to, bar_holds, window_holds, up_through, up_from}
use Rattle.walk.specs.Climb.{Sent, settle_up, go_up, climb_over, climb_from, climb_beside, is_window_claim, may_claim, tally_beside}
use Rattle.walk.specs.Climb.{CardTrail, from_bus, start_of, start_at}

-- ## The way up

-- the bridge that a way up goes through
pub record Through (master : ℕ → Bool) (fs : List Registers) (address bus number own : ℕ) : Type 0 where
  pub bridge : Registers
  pub in_sheet : bridge ∈ fs
  pub is_bridge_lem : bridge.node.bridge ≡ true
  pub leads : bridge.node.secondary ≡ bus
  pub number_is : bridge.node.number ≡ number
  pub bus_is : bridge.node.bus ≡ own
  pub is_blind : window_holds address bridge ≡ false
  pub is_master : master number ≡ true

module _ (master : ℕ → Bool) (fs : List Registers) (address root bus : ℕ) where
  pub leading_elim : {b : Registers} → b ∈ leading_to bus fs → (b ∈ fs) × (b.node.bridge ≡ true) × (b.node.secondary ≡ bus)
  leading_elim {b} m =
      let (inside, passes) = keep_elim (λ f. is_above bus f.node) fs m in
      let both = (and-eq-true_iff b.node.bridge (eqb b.node.secondary bus)).0 passes in
      (inside, both.0, eqb-true _ _ both.1)

  pub through_elim : (number own : ℕ) → up_from master fs address root bus ≡ across number own → Through master fs address bus number own
  unfolding up_from
  through_elim number own e = go (eqb bus root) (leading_to bus fs) refl e
    where
      step : (b : Registers) → b ∈ leading_to bus fs → (w m : Bool) → window_holds address b ≡ w → master b.node.number ≡ m
          → cond w (halts no_owner) (cond m (across b.node.number b.node.bus) (halts not_master)) ≡ across number own
          → Through master fs address bus number own
      step b there true m p q e = absurd (suc-ne-zero 0 (cc))
      step b there false false p q e = absurd (suc-ne-zero 0 (cc))
      step b there false true p q e =
          let (inside, is_bridge_lem, leads) = leading_elim there in
          let number_is : b.node.number ≡ number = cc in
          let bus_is : b.node.bus ≡ own = cc in
          record {
            bridge = b;
            in_sheet = inside;
            is_bridge_lem = is_bridge_lem;
            leads = leads;
            number_is = number_is;
            bus_is = bus_is;
            is_blind = p;
            is_master = ap master (sym number_is) ∙ q;
          }

      go : (t : Bool) (bs : List Registers) → leading_to bus fs ≡ bs → cond t to_host (up_through master address bs) ≡ across number own
          → Through master fs address bus number own
      go true bs is e = absurd (suc-ne-zero 0 (cc))
      go false [] is e = absurd (suc-ne-zero 0 (cc))
      go false (b ∷ []) is e =
          step b (rw is (Memᴰ.head refl)) (window_holds address b) (master b.node.number) refl refl e
      go false (b ∷ c ∷ bs) is e = absurd (suc-ne-zero 0 (cc))

-- bus numbers fall on a way up
pub record Falling (up : ℕ → Up) : Type 0 where
  pub falls : (bus number own : ℕ) → up bus ≡ across number own → own < bus

-- as check 27 has it
pub falling_of_bridges : (master : ℕ → Bool) (fs : List Registers) (address root : ℕ) → BridgesRise (nodes fs)
    → Falling (up_from master fs address root)
falling_of_bridges master fs address root rise =
    record {
      falls = λ bus number own e.
          let t = through_elim master fs address root bus number own e in
          let r = all_elim _ (nodes fs) rise (node_mem t.in_sheet) t.is_bridge_lem in
          omega (arith, r.own_below, t.leads, t.bus_is);
    }

-- ## The bound

module _ {up : ℕ → Up} (falling : Falling up) (tally : ℕ → Tally) where
  climb_enough : (n m bus crossed : ℕ) → bus < n → bus < m → climb_over tally up n bus crossed ≡ climb_over tally up m bus crossed
  unfolding climb_over
  climb_enough zero m bus crossed h k = absurd (omega arith)
  climb_enough (suc n) zero bus crossed h k = absurd (omega arith)
  climb_enough (suc n) (suc m) bus crossed h k =
      ap (settle_up (tally bus) crossed (λ b. walk_from tally b (crossed + 1))) (go (up bus) refl (λ b. climb_enough n m b (crossed + 1)))
    where
      next : ℕ → ℕ → ℕ → Sent
      next x number b = climb_over tally up x b (crossed + 1)

      go : (u : Up) → up bus ≡ u
          → ((b : ℕ) → b < n → b < m → climb_over tally up n b (crossed + 1) ≡ climb_over tally up m b (crossed + 1))
          → go_up u crossed (next n) ≡ go_up u crossed (next m)
      go to_host e on = refl
      go (halts x) e on = refl
      go (across number b) e on =
          let f = falling.falls bus number b e in on b (omega (arith, f)) (omega (arith, f))

  -- one bus, whatever the bound
  pub climb_step : (bus crossed : ℕ) (t : Tally) (u : Up) → tally bus ≡ t → up bus ≡ u
      → climb_from tally up bus crossed
      ≡ settle_up t crossed (λ b. walk_from tally b (crossed + 1)) (go_up u crossed (λ number b. climb_from tally up b (crossed + 1)))
  unfolding climb_from climb_over
  climb_step bus crossed t u e q =
      rw (e, q) (ap (settle_up t crossed (λ b. walk_from tally b (crossed + 1))) (go u q))
    where
      go : (u : Up) → up bus ≡ u
          → go_up u crossed (λ number b. climb_over tally up bus b (crossed + 1))
          ≡ go_up u crossed (λ number b. climb_over tally up (suc b) b (crossed + 1))
      go to_host e = refl
      go (halts x) e = refl
      go (across number b) e =
          climb_enough bus (suc b) b (crossed + 1) (omega (arith, falling.falls bus number b e)) (omega arith)

-- ## One way

trail_claims : (tally : ℕ → Tally) (bus : ℕ) (downs : List ℕ) (x : ℕ) → Trail tally bus downs x → ¬ (tally bus ≡ none)
unfolding Trail
trail_claims tally bus [] x t e = suc-ne-zero 0 (cc)
trail_claims tally bus (m ∷ ms) x (b, q, t) e = suc-ne-zero 0 (cc)

pub card_trail_unique : (tally : ℕ → Tally) (up : ℕ → Up) (bus : ℕ) (ups ups' downs downs' : List ℕ) (x y : ℕ)
    → CardTrail tally up bus ups downs x → CardTrail tally up bus ups' downs' y → (ups ≡ ups') × (downs ≡ downs') × (x ≡ y)
unfolding CardTrail
card_trail_unique tally up bus [] [] downs downs' x y t u =
    let both = trail_unique tally bus downs downs' x y t u in (refl, both.0, both.1)
card_trail_unique tally up bus [] (m ∷ ups') downs downs' x y t (own, e, q, rest) = absurd (trail_claims tally bus downs x t e)
card_trail_unique tally up bus (n ∷ ups) [] downs downs' x y (own, e, q, rest) u = absurd (trail_claims tally bus downs' y u e)
card_trail_unique tally up bus (n ∷ ups) (m ∷ ups') downs downs' x y (own, e, q, t) (own', e', q', u) =
    let both : across n own ≡ across m own' = sym q ∙ q' in
    let same : n ≡ m = cc in
    let same_bus : own' ≡ own = cc in
    let later =
    card_trail_unique tally up own ups ups' downs downs' x y t (subst (λ (b : ℕ). CardTrail tally up b ups' downs' y) same_bus u) in
    (ap₂ ◌∷◌ same later.0, later.1, later.2)

-- ## Who may not claim holds nothing

module _ (address : ℕ) where
  any_of_held : (rs : List Range) {r : Range} → r ∈ rs → Holds r address → any (λ s. holds s address) rs ≡ true
  any_of_held rs m h = (any_holds_iff address rs).1 (some_of_member _ rs m h)

  pub record Silent (start came : ℕ) (fs : List Registers) : Type 0 where
    pub start_silent : (f : Registers) → f ∈ fs → f.node.number ≡ start → (f.node.bridge ≡ false) × (bar_holds address f ≡ false)
    pub came_silent : (f : Registers) → f ∈ fs → f.node.number ≡ came → window_holds address f ≡ false

  may_claim_lem : (start came : ℕ) (fs : List Registers) → Silent start came fs → (i : Item) → i ∈ items fs → Holds i.range address
      → may_claim start came i ≡ true
  may_claim_lem start came fs silent i m h =
      go (item_elim fs m) (eqb i.owner.node.number start) (eqb i.owner.node.number came) refl refl
    where
      go : BarOf fs i ⊎ WindowOf fs i → (s c : Bool) → eqb i.owner.node.number start ≡ s → eqb i.owner.node.number came ≡ c
          → (not s && not (is_window_claim i.claim && c)) ≡ true
      go (inl b) true c e g =
          absurd (true≢false (sym (any_of_held i.owner.bars b.in_bars h)
          ∙ (silent.start_silent i.owner b.in_sheet (eqb-true _ _ e)).1))
      go (inl b) false c e g = rw b.claim_is
      go (inr w) true c e g =
          absurd (true≢false (sym w.is_bridge_lem ∙ (silent.start_silent i.owner w.in_sheet (eqb-true _ _ e)).0))
      go (inr w) false true e g =
          absurd (true≢false (sym (any_of_held i.owner.windows w.in_windows h)
          ∙ silent.came_silent i.owner w.in_sheet (eqb-true _ _ g)))
      go (inr w) false false e g = rw w.claim_is

  beside_agree : (enabled : ℕ → Bool) (fs : List Registers) (start came : ℕ) → Silent start came fs → (bus : ℕ)
      → tally_beside enabled fs address start came bus ≡ tally_on enabled fs address bus
  unfolding tally_beside tally_on
  beside_agree enabled fs start came silent bus =
      ap (λ (is : List Item). join none (claims_in is))
      (keep_all (may_claim start came) _
      (all_intro _ _ (λ i m. let (inside, passes) = keep_elim (claims enabled address bus) (items fs) m in
      may_claim_lem start came fs silent i inside ((claims_iff enabled address bus i).0 passes).in_range)))

module _ (enabled master : ℕ → Bool) (fs : List Registers) (address root : ℕ) (numbered : NumberedFrom 1 fs) where
  -- as document 02 has it, and with every claim counted: one climb
  climb_agree : (start n came bus crossed : ℕ) → Silent address start came fs
      → climb_beside (tally_on enabled fs address) (up_from master fs address root) (tally_beside enabled fs address start) n came bus crossed
      ≡ climb_over (tally_on enabled fs address) (up_from master fs address root) n bus crossed
  unfolding climb_beside climb_over
  climb_agree start zero came bus crossed silent = refl
  climb_agree start (suc n) came bus crossed silent =
      rw (beside_agree address enabled fs start came silent bus)
      (ap (settle_up (tally bus) crossed (λ b. walk_from tally b (crossed + 1)))
      (go (up_from master fs address root bus) refl (λ c b. climb_agree start n c b (crossed + 1))))
    where
      tally : ℕ → Tally
      tally = tally_on enabled fs address

      up : ℕ → Up
      up = up_from master fs address root

      beside : ℕ → ℕ → Tally
      beside = tally_beside enabled fs address start

      go : (u : Up) → up_from master fs address root bus ≡ u
          → ((c b : ℕ) → Silent address start c fs
          → climb_beside tally up beside n c b (crossed + 1) ≡ climb_over tally up n b (crossed + 1))
          → go_up u crossed (λ number b. climb_beside tally up beside n number b (crossed + 1))
          ≡ go_up u crossed (λ number b. climb_over tally up n b (crossed + 1))
      go to_host e on = refl
      go (halts x) e on = refl
      go (across number b) e on =
          let t = through_elim master fs address root bus number b e in
          on number b
          (record {
            start_silent = silent.start_silent;
            came_silent = λ f mf same.
                rw (number_unique 1 fs f t.bridge numbered mf t.in_sheet (same ∙ sym t.number_is)) t.is_blind;
          })

  -- from a function that is no bridge and whose BARs do not hold the address
  pub from_bus_lem : (f : Registers) → f ∈ fs → f.node.bridge ≡ false → bar_holds address f ≡ false
      → from_bus enabled master fs address root f ≡ climb_from (tally_on enabled fs address) (up_from master fs address root) f.node.bus 0
  unfolding from_bus climb_from
  from_bus_lem f m is_end e =
      climb_agree f.node.number (suc f.node.bus) 0 f.node.bus 0
      (record {
        start_silent = λ g mg same. rw (number_unique 1 fs g f numbered mg m same) (is_end, e);
        came_silent = λ g mg same. absurd (omega (arith, same, number_ge 1 fs g numbered mg));
      })

-- ## The start

-- the function with a number that is there
pub start_is : (fs : List Registers) → NumberedFrom 1 fs → (f : Registers) → f ∈ fs → start_at fs f.node.number ≡ start_of (f ∷ [])
unfolding start_at
start_is fs numbered f m = go (keep (λ g. eqb g.node.number f.node.number) fs) refl
  where
    go : (ks : List Registers) → keep (λ g. eqb g.node.number f.node.number) fs ≡ ks → start_of ks ≡ start_of (f ∷ [])
    go [] e =
        let here = keep_intro (λ g. eqb g.node.number f.node.number) fs m (eq-eqb f.node.number f.node.number refl) in
        absurd (Memᴰ.not-nil (rw e at here))
    go (h ∷ rest) e =
        let there : h ∈ keep (λ g. eqb g.node.number f.node.number) fs = rw e (Memᴰ.head refl) in
        let (inside, same) = keep_elim (λ g. eqb g.node.number f.node.number) fs there in
        rw (number_unique 1 fs h f numbered inside m (eqb-true _ _ same))

-- ## A walk that starts with bridges crossed

abbrev pub further : ℕ → Outcome → Outcome
further k (delivered n c) = delivered n (k + c)
further k (refused x) = refused x

over_shift : (n : ℕ) (tally : ℕ → Tally) (bus crossed k : ℕ) → walk_over n tally bus (k + crossed) ≡ further k (walk_over n tally bus crossed)
unfolding walk_over
over_shift zero tally bus crossed k = refl
over_shift (suc n) tally bus crossed k = go (tally bus) (λ b. over_shift n tally b (crossed + 1) k)
  where
    go : (t : Tally) → ((b : ℕ) → walk_over n tally b (k + (crossed + 1)) ≡ further k (walk_over n tally b (crossed + 1)))
        → settle t (k + crossed) (λ b. walk_over n tally b (k + crossed + 1))
        ≡ further k (settle t crossed (λ b. walk_over n tally b (crossed + 1)))
    go none on = refl
    go several on = refl
    go (one (bar x)) on = refl
    go (one (window x b)) on = let e : k + crossed + 1 ≡ k + (crossed + 1) = omega arith in ap (λ (c : ℕ). walk_over n tally b c) e ∙ on b

pub walk_shift : (tally : ℕ → Tally) (bus k : ℕ) → walk_from tally bus k ≡ further k (walk_from tally bus 0)
unfolding walk_from
walk_shift tally bus k = let e : k ≡ k + 0 = omega arith in ap (λ (c : ℕ). walk_over 256 tally bus c) e ∙ over_shift 256 tally bus 0 k
