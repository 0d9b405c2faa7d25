-- Document 02, E13, "One card's switch", over registers: one function's command word, for a request from the host and for one from a card.
-- Assumes nothing.
use Rattle.std.specs.Prelude.{◌≡◌, ◌⊎◌, Bool, cond, List, [], ◌∷◌, eqb}
use Rattle.std.proofs.Math.Path.{refl, fun_ext}
use Rattle.std.proofs.Common.{sym, ap, ◌∙◌, inl, inr, true≢false, eqb-true}
use Rattle.std.proofs.Math.Bool.{true, false}
use mathlib.Core.List.Memᴰ
use Prim.Native.Nat.{ℕ, zero, suc, ◌+◌}
use Rattle.std.proofs.lemmas.Bool.{eqb-false}
use Rattle.lists.specs.Lists.{◌∈◌}
use Rattle.walk.specs.Registers.{Registers, Item, bar, window, NumberedFrom}
use Rattle.walk.proofs.RegistersLaws.{BarOf, WindowOf, item_elim}
use Rattle.walk.specs.Tally.{Tally, none, one, several, tally_on}
use Rattle.walk.proofs.TallyLaws.{tally_agree}
use Rattle.walk.specs.Walk.{no_owner, walk_from}
use Rattle.walk.specs.Climb.{Up, to_host, across, halts, not_master, leading_to, bar_holds, window_holds, up_through, up_from}
use Rattle.walk.specs.Climb.{Sent, stops, settle_up, go_up, climb_over, climb_from, from_bus, send_from}
use Rattle.walk.proofs.ClimbLaws.{leading_elim, from_bus_lem}
use Rattle.walk.specs.Switch.{Clear, SameBut, gone_up, up_one, ups_from, ups_over}

-- ## From the host: any sheet, good or not

pub tallies_agree : (enabled enabled' : ℕ → Bool) (fs : List Registers) (address k : ℕ) → SameBut fs k enabled enabled'
    → Clear fs address k
    → tally_on enabled fs address ≡ tally_on enabled' fs address
tallies_agree enabled enabled' fs address k same clear =
    fun_ext (tally_agree enabled enabled' fs address (λ i m held. same i.owner (owner_in i (item_elim fs m)) (λ e. clear i m e held)))
  where
    owner_in : (i : Item) → BarOf fs i ⊎ WindowOf fs i → i.owner ∈ fs
    owner_in i (inl b) = b.in_sheet
    owner_in i (inr w) = w.in_sheet

-- ## Where two bus master bits differ

-- two ways up are one, or one of them goes through k
data Differ (k : ℕ) (u u' : Up) : Type 0 where
  alike : u ≡ u' → Differ k u u'
  by_first : (b : ℕ) → u ≡ across k b → Differ k u u'
  by_second : (b : ℕ) → u' ≡ across k b → Differ k u u'

module _ (fs : List Registers) (address root k : ℕ) (master master' : ℕ → Bool) (same : SameBut fs k master master') where
  ups_differ : (bus : ℕ) → Differ k (up_from master fs address root bus) (up_from master' fs address root bus)
  unfolding up_from
  ups_differ bus = go (eqb bus root) (leading_to bus fs) refl
    where
      decide : (n b : ℕ) (m m' : Bool) → n ≡ k → Differ k (cond m (across n b) (halts not_master)) (cond m' (across n b) (halts not_master))
      decide n b true m' e = by_first b (ap (λ (x : ℕ). across x b) e)
      decide n b false true e = by_second b (ap (λ (x : ℕ). across x b) e)
      decide n b false false e = alike refl

      through : (b : Registers) → b ∈ fs → (w t : Bool) → eqb b.node.number k ≡ t
          → Differ k
          (cond w (halts no_owner) (cond (master b.node.number) (across b.node.number b.node.bus) (halts not_master)))
          (cond w (halts no_owner) (cond (master' b.node.number) (across b.node.number b.node.bus) (halts not_master)))
      through b m true t e = alike refl
      through b m false true e =
          decide b.node.number b.node.bus (master b.node.number) (master' b.node.number) (eqb-true _ _ e)
      through b m false false e =
          alike (ap (λ (x : Bool). cond x (across b.node.number b.node.bus) (halts not_master)) (same b m (eqb-false _ _ e)))

      go : (t : Bool) (bs : List Registers) → leading_to bus fs ≡ bs
          → Differ k (cond t to_host (up_through master address bs)) (cond t to_host (up_through master' address bs))
      go true bs is = alike refl
      go false [] is = alike refl
      go false (b ∷ []) is =
          let there : b ∈ leading_to bus fs = rw is (Memᴰ.head refl) in
          through b (leading_elim master fs address root bus there).0 (window_holds address b) (eqb b.node.number k) refl
      go false (b ∷ c ∷ bs) is = alike refl

  -- a bus master bit matters only to requests that go up through its bridge under one or the other
  climbs_agree : (tally : ℕ → Tally) (n bus crossed : ℕ) → ¬ (k ∈ ups_over tally (up_from master fs address root) n bus)
      → ¬ (k ∈ ups_over tally (up_from master' fs address root) n bus)
      → climb_over tally (up_from master fs address root) n bus crossed ≡ climb_over tally (up_from master' fs address root) n bus crossed
  unfolding climb_over ups_over
  climbs_agree tally zero bus crossed h h' = refl
  climbs_agree tally (suc n) bus crossed h h' =
      go (tally bus) (up bus) (up' bus) (ups_differ bus) h h' (λ b. climbs_agree tally n b (crossed + 1))
    where
      up : ℕ → Up
      up = up_from master fs address root

      up' : ℕ → Up
      up' = up_from master' fs address root

      next : ℕ → ℕ → Sent
      next number b = climb_over tally up n b (crossed + 1)

      next' : ℕ → ℕ → Sent
      next' number b = climb_over tally up' n b (crossed + 1)

      Later : Type 0
      Later = (b : ℕ) → ¬ (k ∈ ups_over tally up n b) → ¬ (k ∈ ups_over tally up' n b)
          → climb_over tally up n b (crossed + 1) ≡ climb_over tally up' n b (crossed + 1)

      onward : (u : Up) → ¬ (k ∈ up_one none u (λ b. ups_over tally up n b)) → ¬ (k ∈ up_one none u (λ b. ups_over tally up' n b)) → Later
          → go_up u crossed next ≡ go_up u crossed next'
      onward to_host h h' later = refl
      onward (halts x) h h' later = refl
      onward (across number b) h h' later = later b (λ m. h (Memᴰ.tail m)) (λ m. h' (Memᴰ.tail m))

      go : (t : Tally) (u u' : Up) → Differ k u u' → ¬ (k ∈ up_one t u (λ b. ups_over tally up n b))
          → ¬ (k ∈ up_one t u' (λ b. ups_over tally up' n b)) → Later
          → settle_up t crossed (λ b. walk_from tally b (crossed + 1)) (go_up u crossed next)
          ≡ settle_up t crossed (λ b. walk_from tally b (crossed + 1)) (go_up u' crossed next')
      go several u u' d h h' later = refl
      go (one (bar x)) u u' d h h' later = refl
      go (one (window x s)) u u' d h h' later = refl
      go none u u' (alike e) h h' later =
          let h'' : ¬ (k ∈ up_one none u (λ b. ups_over tally up' n b)) = rw e h' in
          onward u h h'' later ∙ ap (λ (x : Up). go_up x crossed next') e
      go none u u' (by_first b e) h h' later =
          let there : k ∈ up_one none u (λ c. ups_over tally up n c) = rw e (Memᴰ.head refl) in absurd (h there)
      go none u u' (by_second b e) h h' later =
          let there : k ∈ up_one none u' (λ c. ups_over tally up' n c) = rw e (Memᴰ.head refl) in absurd (h' there)

  from_agree : (tally : ℕ → Tally) (bus : ℕ) → ¬ (k ∈ ups_from tally (up_from master fs address root) bus)
      → ¬ (k ∈ ups_from tally (up_from master' fs address root) bus)
      → climb_from tally (up_from master fs address root) bus 0 ≡ climb_from tally (up_from master' fs address root) bus 0
  unfolding climb_from ups_from
  from_agree tally bus h h' = climbs_agree tally (suc bus) bus 0 h h'

-- "For E11, also exclude requests that start at that function or go up through it under either sheet."
pub send_agree : (enabled enabled' master master' : ℕ → Bool) (fs : List Registers) (address root k : ℕ) → NumberedFrom 1 fs
    → SameBut fs k enabled enabled' → SameBut fs k master master' → Clear fs address k
    → (f : Registers) → f ∈ fs → f.node.bridge ≡ false → ¬ (f.node.number ≡ k)
    → ¬ (k ∈ gone_up enabled master fs address root f) → ¬ (k ∈ gone_up enabled' master' fs address root f)
    → send_from enabled master fs address root f ≡ send_from enabled' master' fs address root f
unfolding send_from gone_up
send_agree enabled enabled' master master' fs address root k numbered same same_master clear f m is_end other h h' =
    go (master f.node.number) (master' f.node.number) (same_master f m other) (bar_holds address f) refl h h'
  where
    tally : ℕ → Tally
    tally = tally_on enabled fs address

    tally' : ℕ → Tally
    tally' = tally_on enabled' fs address

    up : ℕ → Up
    up = up_from master fs address root

    up' : ℕ → Up
    up' = up_from master' fs address root

    one_tally : tally ≡ tally'
    one_tally = tallies_agree enabled enabled' fs address k same clear

    go : (t t' : Bool) → t ≡ t' → (b : Bool) → bar_holds address f ≡ b
        → ¬ (k ∈ cond t (cond b [] (ups_from tally up f.node.bus)) [])
        → ¬ (k ∈ cond t' (cond b [] (ups_from tally' up' f.node.bus)) [])
        → cond t (cond b (stops no_owner) (from_bus enabled master fs address root f)) (stops not_master)
        ≡ cond t' (cond b (stops no_owner) (from_bus enabled' master' fs address root f)) (stops not_master)
    go true false e b q h h' = absurd (true≢false e)
    go false true e b q h h' = absurd (true≢false (sym e))
    go false false e b q h h' = refl
    go true true e true q h h' = refl
    go true true e false q h h' =
        from_bus_lem enabled master fs address root numbered f m is_end q
        ∙ from_agree fs address root k master master' same_master tally f.node.bus h (rw (← one_tally) at h')
        ∙ ap (λ (t : ℕ → Tally). climb_from t up' f.node.bus 0) one_tally
        ∙ sym (from_bus_lem enabled' master' fs address root numbered f m is_end q)
