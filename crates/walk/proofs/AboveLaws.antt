-- Laws of the bridges above a bus: in a tree every function has one way up to the root, `above` finds it, and each bridge on it lowers the
-- bus number; and a window of the bridge above has what lies below. Assumes nothing.
use Rattle.std.specs.Prelude.{◌≡◌, Bool, length}
use Rattle.std.proofs.Math.Path.{refl, ap₂}
use Rattle.std.proofs.Common.{sym, ap, ◌∙◌, inl, inr}
use Rattle.std.proofs.Math.Bool.{true, false, and-eq-true_iff}
use mathlib.Core.List.Memᴰ
use mathlib.Core.List.{List, [], ◌∷◌, ◌++◌}
use Prim.Native.Nat.{ℕ, zero, suc, ◌+◌, ◌≤◌}
use native.Mathlib.Omega.{arith}
use Rattle.std.proofs.Math.Dec.{eqb}
use borrow.Author.Tests.{eqb-true, eqb-false, eq-eqb}
use Rattle.lists.specs.Lists.{◌∈◌}
use Rattle.lists.specs.ListLaws.{all_elim, member_of_some}
use Rattle.lists.specs.KeepLaws.{keep_elim, keep_intro}
use Rattle.walk.specs.Ranges.{Range}
use Rattle.walk.specs.Registers.{Node, Registers, nodes, Item, items, window, window_item}
use Rattle.walk.proofs.RegistersLaws.{item_of_window, nodes_elim}
use Rattle.walk.specs.Above.{is_above, bridges_to, LeadsTo, Above, upstream, above_over, above}
use Rattle.walk.specs.Good.{Host, BridgesRise, OneWayUp, Tree, InWindowAbove}

module _ (bus : ℕ) (ns : List Node) where
  pub bridges_to_elim : {b : Node} → b ∈ bridges_to bus ns → LeadsTo bus ns b
  bridges_to_elim m =
      let passed = keep_elim (is_above bus) ns m in
      let both = (and-eq-true_iff _ _).0 passed.1 in
      record { in_sheet = passed.0; is_bridge_lem = both.0; leads = eqb-true _ _ both.1 }

  pub bridges_to_intro : {b : Node} → LeadsTo bus ns b → b ∈ bridges_to bus ns
  bridges_to_intro l = keep_intro _ ns l.in_sheet ((and-eq-true_iff _ _).1 (l.is_bridge_lem, eq-eqb _ _ l.leads))

  pub only_bridge_elim : {b : Node} → bridges_to bus ns ≡ b ∷ [] → LeadsTo bus ns b
  only_bridge_elim e = bridges_to_elim (rw e (Memᴰ.head refl))

module _ (ns : List Node) (rise : BridgesRise ns) where
  -- each bridge on the way raises the bus number, so their number is at most the difference
  pub above_le : (top bus : ℕ) (bs : List Node) → Above top ns bus bs → top + length bs ≤ bus
  unfolding Above
  above_le top bus [] a = omega arith
  above_le top bus (b ∷ bs) a =
      let r = all_elim _ ns rise a.0.in_sheet a.0.is_bridge_lem in
      let rest = above_le top b.bus bs a.1 in
      omega (arith, r.own_below, a.0.leads)

  pub above_at_most_255 : (top bus : ℕ) (bs : List Node) → Above top ns bus bs → length bs ≤ 255
  unfolding Above
  above_at_most_255 top bus [] a = omega arith
  above_at_most_255 top bus (b ∷ bs) a =
      let r = all_elim _ ns rise a.0.in_sheet a.0.is_bridge_lem in
      let rest = above_le top b.bus bs a.1 in
      omega (arith, r.own_below, r.range_open, r.last_is_byte)

-- one bridge more at the top
pub above_snoc : (top mid : ℕ) (ns : List Node) (bus : ℕ) (bs : List Node) (b : Node)
    → Above mid ns bus bs → LeadsTo mid ns b → b.bus ≡ top → Above top ns bus (bs ++ (b ∷ []))
unfolding Above
above_snoc top mid ns bus [] b a l e = (record { in_sheet = l.in_sheet; is_bridge_lem = l.is_bridge_lem; leads = l.leads ∙ sym a }, e)
above_snoc top mid ns bus (c ∷ bs) b a l e = (a.0, above_snoc top mid ns c.bus bs b a.1 l e)

module _ {host : Host} {ns : List Node} (rise : BridgesRise ns) (tree : Tree host ns) where
  above_over_lem : (n : ℕ) (x : Node) → x ∈ ns → x.bus ≤ n → Above host.first ns x.bus (above_over n host.first ns x.bus)
  unfolding Above above_over
  above_over_lem zero x m h = go (all_elim _ ns tree.one_way_up m)
    where
      go : OneWayUp host.first ns x → x.bus ≡ host.first
      go (inl e) = e
      go (inr (b, e)) =
          let l = only_bridge_elim x.bus ns e in
          let r = all_elim _ ns rise l.in_sheet l.is_bridge_lem in
          absurd (omega (arith, r.own_below, l.leads))
  above_over_lem (suc n) x m h = go (eqb x.bus host.first) refl (all_elim _ ns tree.one_way_up m) (λ b. above_over_lem n b)
    where
      go : (t : Bool) → eqb x.bus host.first ≡ t → OneWayUp host.first ns x
          → ((b : Node) → b ∈ ns → b.bus ≤ n → Above host.first ns b.bus (above_over n host.first ns b.bus))
          → Above host.first ns x.bus (upstream t (bridges_to x.bus ns) (λ b. above_over n host.first ns b))
      go true e one up = eqb-true _ _ e
      go false e (inl root) up = absurd (eqb-false _ _ e root)
      go false e (inr (b, only)) up =
          let l = only_bridge_elim x.bus ns only in
          let r = all_elim _ ns rise l.in_sheet l.is_bridge_lem in
          rw only (l, up b l.in_sheet (omega (arith, r.own_below, l.leads)))

  -- the way that `above` finds is a way up
  pub above_is : (x : Node) → x ∈ ns → Above host.first ns x.bus (above host.first ns x.bus)
  unfolding above
  above_is x m = above_over_lem x.bus x m (omega arith)

  pub root_le : (x : Node) → x ∈ ns → host.first ≤ x.bus
  root_le x m = omega (arith, above_le ns rise host.first x.bus _ (above_is x m))

  pub leads_unique : (x : Node) → x ∈ ns → {b c : Node} → LeadsTo x.bus ns b → LeadsTo x.bus ns c → b ≡ c
  leads_unique x m {b} {c} lb lc = go (all_elim _ ns tree.one_way_up m)
    where
      go : OneWayUp host.first ns x → b ≡ c
      go (inl e) =
          let r = all_elim _ ns rise lb.in_sheet lb.is_bridge_lem in
          absurd (omega (arith, r.own_below, lb.leads, root_le b lb.in_sheet))
      go (inr (p, e)) =
          let is_p : (d : Node) → LeadsTo x.bus ns d → d
          ≡ p = λ d l. Memᴰ.eq_of_singleton (rw e at (bridges_to_intro x.bus ns l)) in
          is_p b lb ∙ sym (is_p c lc)

  -- and the only one
  pub above_unique : (x : Node) → x ∈ ns → (bs cs : List Node) → Above host.first ns x.bus bs
      → Above host.first ns x.bus cs → bs ≡ cs
  unfolding Above
  above_unique x m [] [] a b = refl
  above_unique x m [] (c ∷ cs) a b =
      let r = all_elim _ ns rise b.0.in_sheet b.0.is_bridge_lem in
      absurd (omega (arith, r.own_below, b.0.leads, root_le c b.0.in_sheet))
  above_unique x m (b ∷ bs) [] a c =
      let r = all_elim _ ns rise a.0.in_sheet a.0.is_bridge_lem in
      absurd (omega (arith, r.own_below, a.0.leads, root_le b a.0.in_sheet))
  above_unique x m (b ∷ bs) (c ∷ cs) a d =
      let same : b ≡ c = leads_unique x m a.0 d.0 in
      ap₂ ◌∷◌ same (above_unique b a.0.in_sheet bs cs a.1 (rw (← same) at d.1))

  -- so any way up is what `above` finds
  pub above_of_way_up : (x : Node) → x ∈ ns → (bs : List Node) → Above host.first ns x.bus bs → above host.first ns x.bus ≡ bs
  above_of_way_up x m bs a = above_unique x m _ bs (above_is x m) a

  pub above_root : (x : Node) → x ∈ ns → x.bus ≡ host.first → above host.first ns x.bus ≡ []
  unfolding Above
  above_root x m e = above_of_way_up x m [] e

  pub above_bridge : (x : Node) → x ∈ ns → (b : Node) → LeadsTo x.bus ns b → above host.first ns x.bus
      ≡ b ∷ above host.first ns b.bus
  unfolding Above
  above_bridge x m b l = above_of_way_up x m (b ∷ above host.first ns b.bus) (l, above_is b l.in_sheet)

-- what is on the bus below a bridge lies in one of the bridge's windows
pub window_above : (Lies : Range → Range → Type 0) (fs : List Registers) → InWindowAbove Lies fs → (i : Item) → i ∈ items fs → (b : Node)
    → LeadsTo i.owner.node.bus (nodes fs) b
    → (w : Item) × (w ∈ items fs) × Lies i.range w.range × (w.owner.node ≡ b) × (w.claim ≡ window b.number b.secondary)
window_above Lies fs in_windows i m b l =
    let (g, in_fs, is_b) = nodes_elim fs l.in_sheet in
    let bridge : g.node.bridge ≡ true = ap (λ (n : Node). n.bridge) is_b ∙ l.is_bridge_lem in
    let below : i.owner.node.bus ≡ g.node.secondary = sym (ap (λ (n : Node). n.secondary) is_b ∙ l.leads) in
    let (r, in_window, inside) = member_of_some _ g.windows (all_elim _ (items fs) (all_elim _ fs in_windows in_fs bridge) m below) in (
      window_item g r,
      item_of_window fs in_fs bridge in_window,
      inside,
      is_b,
      ap (λ (n : Node). window n.number n.secondary) is_b,
    )
