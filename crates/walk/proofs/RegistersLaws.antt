-- Where an item of a sheet comes from: a BAR or an open window of one of its functions, and each of these is an item. A record number names
-- one function. Assumes nothing.
use Rattle.std.specs.Prelude.{◌≡◌, ◌⊎◌, true, ℕ, ◌+◌, ◌≤◌}
use Rattle.std.proofs.Math.Path.{refl}
use Rattle.std.proofs.Common.{sym, ap, subst, ◌∙◌, arith}
use Rattle.std.proofs.Math.Logic.{inl, inr}
use mathlib.Core.List.Memᴰ
use mathlib.Core.List.{List, [], ◌∷◌, map}
use Rattle.lists.specs.Lists.{◌∈◌}
use Rattle.lists.specs.ListLaws.{mem_cond_elim, flat_intro, flat_elim}
use Rattle.walk.specs.Ranges.{Range}
use Rattle.walk.specs.Registers.{Node, Registers, nodes, NumberedFrom}
use Rattle.walk.specs.Registers.{Item, bar, window, bar_item, window_item, open_windows, items_of, items}

pub record BarOf (fs : List Registers) (i : Item) : Type 0 where
  pub in_sheet : i.owner ∈ fs
  pub in_bars : i.range ∈ i.owner.bars
  pub claim_is : i.claim ≡ bar i.owner.node.number

pub record WindowOf (fs : List Registers) (i : Item) : Type 0 where
  pub in_sheet : i.owner ∈ fs
  pub is_bridge_lem : i.owner.node.bridge ≡ true
  pub in_windows : i.range ∈ i.owner.windows
  pub claim_is : i.claim ≡ window i.owner.node.number i.owner.node.secondary

module _ (fs : List Registers) where
  pub item_of_bar : {f : Registers} {r : Range} → f ∈ fs → r ∈ f.bars → bar_item f r ∈ items fs
  unfolding items items_of
  item_of_bar {f} m h = flat_intro items_of fs m (Memᴰ.append_left (map (window_item f) (open_windows f)) (Memᴰ.map (bar_item f) h))

  pub item_of_window : {f : Registers} {r : Range} → f ∈ fs → f.node.bridge ≡ true → r ∈ f.windows → window_item f r ∈ items fs
  unfolding items items_of
  item_of_window {f} {r} m e h =
      let open_windows_lem : r ∈ open_windows f = rw e h in
      flat_intro items_of fs m (Memᴰ.append_right (map (bar_item f) f.bars) (Memᴰ.map (window_item f) open_windows_lem))

  pub item_elim : {i : Item} → i ∈ items fs → BarOf fs i ⊎ WindowOf fs i
  unfolding items items_of
  item_elim {i} m = let found = flat_elim items_of fs m in go found.0 found.1 (Memᴰ.append_cases _ found.2)
    where
      go : (f : Registers) → f ∈ fs → (i ∈ map (bar_item f) f.bars) ⊎ (i ∈ map (window_item f) (open_windows f)) → BarOf fs i
          ⊎ WindowOf fs i
      go f m (inl h) =
          let from = Memᴰ.of_map (bar_item f) f.bars h in
          inl (subst (BarOf fs) from.2 (record { in_sheet = m; in_bars = from.1; claim_is = refl }))
      go f m (inr h) =
          let from = Memᴰ.of_map (window_item f) (open_windows f) h in
          let opened = mem_cond_elim f.node.bridge f.windows from.1 in
          inr (subst (WindowOf fs) from.2 (record { in_sheet = m; is_bridge_lem = opened.0; in_windows = opened.1; claim_is = refl }))

pub node_mem : {f : Registers} {fs : List Registers} → f ∈ fs → f.node ∈ nodes fs
node_mem m = Memᴰ.map (λ (g : Registers). g.node) m

pub nodes_elim : {n : Node} (fs : List Registers) → n ∈ nodes fs → (f : Registers) × (f ∈ fs) × (f.node ≡ n)
nodes_elim fs m = Memᴰ.of_map (λ (f : Registers). f.node) fs m

pub number_ge : (k : ℕ) (fs : List Registers) (f : Registers) → NumberedFrom k fs → f ∈ fs → k ≤ f.node.number
unfolding NumberedFrom
number_ge k [] f h m = absurd (Memᴰ.not-nil m)
number_ge k (g ∷ gs) f h m = go (Memᴰ.cases_cons m) (number_ge (k + 1) gs f h.1)
  where
    go : (f ≡ g) ⊎ (f ∈ gs) → (f ∈ gs → k + 1 ≤ f.node.number) → k ≤ f.node.number
    go (inl same) later = rw same (omega (arith, h.0))
    go (inr m) later = omega (arith, later m)

-- a record number names one function
pub number_unique : (k : ℕ) (fs : List Registers) (f g : Registers) → NumberedFrom k fs → f ∈ fs → g ∈ fs → f.node.number
    ≡ g.node.number → f ≡ g
unfolding NumberedFrom
number_unique k [] f g h m₁ m₂ e = absurd (Memᴰ.not-nil m₁)
number_unique k (x ∷ xs) f g h m₁ m₂ e =
    go (Memᴰ.cases_cons m₁) (Memᴰ.cases_cons m₂) (λ a b. number_unique (k + 1) xs f g h.1 a b e)
  where
    past : (y z : Registers) → y ≡ x → z ∈ xs → y.node.number ≡ z.node.number → ⊥
    past y z same m e = omega (arith, number_ge (k + 1) xs z h.1 m, h.0, e, ap (λ (w : Registers). w.node.number) same)

    go : (f ≡ x) ⊎ (f ∈ xs) → (g ≡ x) ⊎ (g ∈ xs) → (f ∈ xs → g ∈ xs → f ≡ g) → f ≡ g
    go (inl p) (inl q) later = p ∙ sym q
    go (inl p) (inr b) later = absurd (past f g p b e)
    go (inr a) (inl q) later = absurd (past g f q a (sym e))
    go (inr a) (inr b) later = later a b
