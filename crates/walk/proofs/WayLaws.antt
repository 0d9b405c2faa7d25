-- Ways up from a bus: put one on another, taken apart at a bridge, and the buses that their bridges stand between. Assumes nothing.
use Rattle.std.specs.Prelude.{◌≡◌, ◌⊎◌, true, ℕ, ◌≤◌, ◌<◌}
use Rattle.std.proofs.Math.Path.{refl, ap}
use Rattle.std.proofs.Common.{sym, inl, inr, arith}
use mathlib.Core.List.Memᴰ
use mathlib.Core.List.{List, [], ◌∷◌, ◌++◌}
use Rattle.lists.specs.Lists.{◌∈◌}
use Rattle.lists.specs.ListLaws.{all_elim}
use Rattle.walk.specs.Registers.{Node}
use Rattle.walk.specs.Above.{LeadsTo, Above}
use Rattle.walk.proofs.AboveLaws.{above_le}
use Rattle.walk.specs.Good.{BridgesRise}

module _ (ns : List Node) where
  pub above_append : (top mid bus : ℕ) (us rest : List Node) → Above mid ns bus us → Above top ns mid rest → Above top ns bus (us ++ rest)
  unfolding Above
  above_append top mid bus [] rest a b = rw a b
  above_append top mid bus (u ∷ us) rest (l, a) b = (l, above_append top mid u.bus us rest a b)

  pub above_cons : (top bus : ℕ) (u : Node) (rest : List Node) → LeadsTo bus ns u → Above top ns u.bus rest
      → Above top ns bus (u ∷ rest)
  unfolding Above
  above_cons top bus u rest l a = (l, a)

  -- the way below a bridge and the way above it
  pub record Split (top bus : ℕ) (bs : List Node) (b : Node) : Type 0 where
    pub below : List Node
    pub rest : List Node
    pub is : bs ≡ below ++ (b ∷ rest)
    pub way_below : Above b.secondary ns bus below
    pub way_rest : Above top ns b.bus rest

  pub above_split : (top bus : ℕ) (bs : List Node) (b : Node) → Above top ns bus bs → b ∈ bs → Split top bus bs b
  unfolding Above
  above_split top bus [] b a m = absurd (Memᴰ.not-nil m)
  above_split top bus (c ∷ bs) b (l, a) m = go (Memᴰ.cases_cons m) (λ m. above_split top c.bus bs b a m)
    where
      go : (b ≡ c) ⊎ (b ∈ bs) → (b ∈ bs → Split top c.bus bs b) → Split top bus (c ∷ bs) b
      go (inl same) later =
          record { below = []; rest = bs; is = ap (◌∷ bs) (sym same); way_below = rw same (sym l.leads); way_rest = rw same a }
      go (inr m) later =
          let r = later m in
          record {
            below = c ∷ r.below;
            rest = r.rest;
            is = ap (c ∷◌) r.is;
            way_below = (l, r.way_below);
            way_rest = r.way_rest;
          }

  -- up to a bridge of the way, and that bridge
  pub above_cut : (top bus : ℕ) (us : List Node) (u : Node) (rest : List Node) → Above top ns bus (us ++ (u ∷ rest))
      → (mid : ℕ) × Above mid ns bus us × LeadsTo mid ns u
  unfolding Above
  above_cut top bus [] u rest (l, a) = (bus, refl, l)
  above_cut top bus (c ∷ us) u rest (l, a) = let (mid, up, lead) = above_cut top c.bus us u rest a in (mid, (l, up), lead)

  -- the top of a way from a function's bus is some function's bus
  pub top_is_bus : (top : ℕ) (x : Node) → x ∈ ns → (us : List Node) → Above top ns x.bus us → (y : Node) × (y ∈ ns) × (y.bus ≡ top)
  unfolding Above
  top_is_bus top x m [] a = (x, m, a)
  top_is_bus top x m (u ∷ us) (l, a) = top_is_bus top u l.in_sheet us a

  -- those on a way are bridges of the sheet
  pub way_leads : (top bus : ℕ) (bs : List Node) (b : Node) → Above top ns bus bs → b ∈ bs → (b ∈ ns) × (b.bridge ≡ true)
  unfolding Above
  way_leads top bus [] b a m = absurd (Memᴰ.not-nil m)
  way_leads top bus (c ∷ bs) b (l, a) m = go (Memᴰ.cases_cons m) (λ m. way_leads top c.bus bs b a m)
    where
      go : (b ≡ c) ⊎ (b ∈ bs) → (b ∈ bs → (b ∈ ns) × (b.bridge ≡ true)) → (b ∈ ns) × (b.bridge ≡ true)
      go (inl same) later = rw same (l.in_sheet, l.is_bridge_lem)
      go (inr m) later = later m

  -- they stand between its two buses
  pub above_between : BridgesRise ns → (top bus : ℕ) (bs : List Node) (b : Node) → Above top ns bus bs → b ∈ bs
      → (top ≤ b.bus) × (b.bus < bus)
  above_between rise top bus bs b a m =
      let s = above_split top bus bs b a m in
      let low = above_le ns rise top b.bus s.rest s.way_rest in
      let high = above_le ns rise b.secondary bus s.below s.way_below in
      let (there, bridge) = way_leads top bus bs b a m in
      let r = all_elim _ ns rise there bridge in
      (omega (arith, low), omega (arith, high, r.own_below))
