-- Where every function has one way up and bridges rise, no bridge leads to the root bus, and looking at the one bridge that leads to a
-- function's bus is enough: for its buses, its BARs and its windows. Assumes nothing.
use Rattle.std.specs.Prelude.{◌≡◌, true, List, [], ◌∷◌, ℕ, zero, suc, ◌≤◌}
use Rattle.std.proofs.Common.{sym, ap, ◌∙◌, inl, inr, ⊎_elim, arith}
use mathlib.Core.List.Memᴰ
use Rattle.lists.specs.Lists.{◌∈◌, All, Some}
use Rattle.lists.specs.ListLaws.{all_elim, all_intro}
use Rattle.walk.specs.Ranges.{Range, Inside}
use Rattle.walk.specs.Registers.{Node, Registers, nodes, Item, items}
use Rattle.walk.proofs.RegistersLaws.{item_elim, node_mem}
use Rattle.walk.specs.Above.{bridges_to, LeadsTo}
use Rattle.walk.proofs.AboveLaws.{only_bridge_elim, bridges_to_intro}
use Rattle.walk.specs.Good.{BridgesRise, OneWayUp, bus_range, InWindowAbove}

module _ (root : ℕ) (ns : List Node) (rise : BridgesRise ns) (ways : All (OneWayUp root ns) ns) where
  -- bus numbers fall on the way up to the root, so it has the least
  from_root : (n : ℕ) (x : Node) → x ∈ ns → x.bus ≤ n → root ≤ x.bus
  from_root zero x m h = go (all_elim _ ns ways m)
    where
      go : OneWayUp root ns x → root ≤ x.bus
      go (inl e) = omega (arith, e)
      go (inr (b, only)) =
          let l = only_bridge_elim x.bus ns only in
          let r = all_elim _ ns rise l.in_sheet l.is_bridge_lem in
          absurd (omega (arith, r.own_below, l.leads))
  from_root (suc n) x m h = go (all_elim _ ns ways m) (λ b. from_root n b)
    where
      go : OneWayUp root ns x → ((b : Node) → b ∈ ns → b.bus ≤ n → root ≤ b.bus) → root ≤ x.bus
      go (inl e) up = omega (arith, e)
      go (inr (b, only)) up =
          let l = only_bridge_elim x.bus ns only in
          let r = all_elim _ ns rise l.in_sheet l.is_bridge_lem in
          omega (arith, r.own_below, l.leads, up b l.in_sheet (omega (arith, r.own_below, l.leads)))

  pub no_leader_of_root : (b : Node) → LeadsTo root ns b → ⊥
  no_leader_of_root b l =
      let r = all_elim _ ns rise l.in_sheet l.is_bridge_lem in
      omega (arith, r.own_below, l.leads, from_root b.bus b l.in_sheet (omega arith))

  pub only_leader : (x : Node) → x ∈ ns → (b : Node) → LeadsTo x.bus ns b → bridges_to x.bus ns ≡ b ∷ []
  only_leader x m b l = go (all_elim _ ns ways m)
    where
      go : OneWayUp root ns x → bridges_to x.bus ns ≡ b ∷ []
      go (inl e) = absurd (no_leader_of_root b (record { in_sheet = l.in_sheet; is_bridge_lem = l.is_bridge_lem; leads = l.leads ∙ e }))
      go (inr (c, only)) =
          let same : b ≡ c = Memᴰ.eq_of_singleton (rw only at (bridges_to_intro x.bus ns l)) in
          only ∙ ap (λ (d : Node). d ∷ []) (sym same)

  pub in_parent_of_leader : All (λ n. n.bridge ≡ true → (b : Node) → bridges_to n.bus ns ≡ b ∷ [] → Inside (bus_range n) (bus_range b)) ns
      → All (λ b. b.bridge ≡ true → All (λ n. n.bridge ≡ true → n.bus ≡ b.secondary → Inside (bus_range n) (bus_range b)) ns) ns
  in_parent_of_leader h =
      all_intro _ ns (λ b mb bridge. all_intro _ ns (λ n mn is at.
      all_elim _ ns h mn is b (only_leader n mn b (record { in_sheet = mb; is_bridge_lem = bridge; leads = sym at }))))

module _ (root : ℕ) (fs : List Registers) (rise : BridgesRise (nodes fs)) (ways : All (OneWayUp root (nodes fs)) (nodes fs)) where
  pub in_window_of_leader : (Lies : Range → Range → Type 0)
      → All (λ i. (g : Registers) → g ∈ fs → bridges_to i.owner.node.bus (nodes fs) ≡ g.node ∷ []
      → Some (Lies i.range) g.windows) (items fs) → InWindowAbove Lies fs
  in_window_of_leader Lies h =
      all_intro _ fs (λ b mb bridge. all_intro _ (items fs) (λ i mi at.
      all_elim _ (items fs) h mi b mb
      (only_leader root (nodes fs) rise ways i.owner.node (node_mem (owner_in i mi)) b.node
      (record { in_sheet = node_mem mb; is_bridge_lem = bridge; leads = sym at }))))
    where
      owner_in : (i : Item) → i ∈ items fs → i.owner ∈ fs
      owner_in i m = ⊎_elim (λ b. b.in_sheet) (λ w. w.in_sheet) (item_elim fs m)
