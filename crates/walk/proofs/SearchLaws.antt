-- What a search over records, then slots, then windows goes by: the claims of a sheet record by record, those of a record range by range.
-- Assumes nothing.
use Rattle.std.specs.Prelude.{◌≡◌, Bool, cond, ◌&&◌, ℕ, eqb}
use Rattle.std.proofs.Math.Path.{refl, ap₂}
use Rattle.std.proofs.Common.{ap, ◌∙◌}
use Rattle.std.proofs.Math.Bool.{true, false}
use mathlib.Core.List.{List, [], ◌∷◌, ◌++◌, map, flat_map}
use Rattle.lists.specs.Lists.{keep}
use Rattle.lists.specs.KeepLaws.{keep_nil, keep_yes, keep_no, map_keep_append}
use Rattle.walk.specs.Ranges.{Range, holds}
use Rattle.walk.specs.Registers.{Registers, Item, Claim, bar, window, bar_item, window_item, open_windows, items_of, items}
use Rattle.walk.specs.Tally.{claims, claims_in, claims_of, claims_on, hits_of}

module _ (address : ℕ) (c : Claim) where
  pub hits_nil : hits_of address c [] ≡ []
  unfolding hits_of keep
  hits_nil = refl

  pub hits_hit : (r : Range) (rs : List Range) → holds r address ≡ true → hits_of address c (r ∷ rs) ≡ c ∷ hits_of address c rs
  unfolding hits_of
  hits_hit r rs e = rw (keep_yes (λ s. holds s address) r rs e)

  pub hits_miss : (r : Range) (rs : List Range) → holds r address ≡ false → hits_of address c (r ∷ rs) ≡ hits_of address c rs
  unfolding hits_of
  hits_miss r rs e = rw (keep_no (λ s. holds s address) r rs e)

  pub hits_append : (rs ss : List Range) → hits_of address c (rs ++ ss) ≡ hits_of address c rs ++ hits_of address c ss
  unfolding hits_of
  hits_append rs ss = map_keep_append (λ s. holds s address) (λ (s : Range). c) rs ss

module _ (enabled : ℕ → Bool) (address bus : ℕ) where
  pub claims_nil : claims_on enabled [] address bus ≡ []
  unfolding items flat_map keep
  claims_nil = refl

  pub claims_cons : (f : Registers) (fs : List Registers)
      → claims_on enabled (f ∷ fs) address bus ≡ claims_of enabled address bus f ++ claims_on enabled fs address bus
  unfolding items flat_map
  claims_cons f fs = map_keep_append (claims enabled address bus) (λ (i : Item). i.claim) (items_of f) (flat_map items_of fs)

  -- items that claim just where their range holds the address
  hits_of_items : (make : Range → Item) (c : Claim)
      → ((r : Range) → claims enabled address bus (make r) ≡ holds r address) → ((r : Range) → (make r).claim ≡ c)
      → (rs : List Range) → claims_in (keep (claims enabled address bus) (map make rs)) ≡ hits_of address c rs
  unfolding hits_of keep
  hits_of_items make c test claim_is [] = refl
  hits_of_items make c test claim_is (r ∷ rs) = rw (test r) (go (holds r address) (hits_of_items make c test claim_is rs))
    where
      go : (b : Bool) → claims_in (keep (claims enabled address bus) (map make rs)) ≡ map (λ (s : Range). c) (keep (λ s. holds s address) rs)
          → claims_in (cond b (make r ∷ keep (claims enabled address bus) (map make rs)) (keep (claims enabled address bus) (map make rs)))
          ≡ map (λ (s : Range). c) (cond b (r ∷ keep (λ s. holds s address) rs) (keep (λ s. holds s address) rs))
      go true e = ap₂ ◌∷◌ (claim_is r) e
      go false e = e

  no_items : (make : Range → Item) → ((r : Range) → claims enabled address bus (make r) ≡ false) → (rs : List Range)
      → keep (claims enabled address bus) (map make rs) ≡ []
  no_items make test [] = keep_nil _
  no_items make test (r ∷ rs) = keep_no _ (make r) _ (test r) ∙ no_items make test rs

  -- slots before windows
  claims_of_parts : (f : Registers) (bars windows : List Claim)
      → claims_in (keep (claims enabled address bus) (map (bar_item f) f.bars)) ≡ bars
      → claims_in (keep (claims enabled address bus) (map (window_item f) (open_windows f))) ≡ windows
      → claims_of enabled address bus f ≡ bars ++ windows
  unfolding items_of
  claims_of_parts f bars windows b w =
      map_keep_append (claims enabled address bus) (λ (i : Item). i.claim) (map (bar_item f) f.bars) (map (window_item f) (open_windows f))
      ∙ ap₂ ◌++◌ b w

  -- a function of another bus, or one that is not enabled
  pub claims_of_other : (f : Registers) → (eqb f.node.bus bus && enabled f.node.number) ≡ false
      → claims_of enabled address bus f ≡ []
  claims_of_other f e =
      claims_of_parts f [] []
      (ap claims_in (no_items (bar_item f) (λ r. rw e) f.bars))
      (ap claims_in (no_items (window_item f) (λ r. rw e) (open_windows f)))

  -- an enabled function of this bus
  pub claims_of_here : (f : Registers) → (eqb f.node.bus bus && enabled f.node.number) ≡ true
      → claims_of enabled address bus f
      ≡ hits_of address (bar f.node.number) f.bars ++ hits_of address (window f.node.number f.node.secondary) (open_windows f)
  claims_of_here f e =
      claims_of_parts f _ _
      (hits_of_items (bar_item f) (bar f.node.number) (λ r. rw e) (λ r. refl) f.bars)
      (hits_of_items (window_item f) (window f.node.number f.node.secondary) (λ r. rw e) (λ r. refl) (open_windows f))
