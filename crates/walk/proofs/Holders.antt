-- What holds an address on a sound sheet: on a bus one item at most; every bridge above an item that does has a window that does; and a
-- bridge of which a window does is above whoever has a BAR there. Assumes nothing.
use Rattle.std.specs.Prelude.{◌≡◌, refl, ◌⊎◌, true, ℕ}
use Rattle.std.proofs.Math.Path.{sym}
use Rattle.std.proofs.Common.{ap, subst, ◌∙◌, suc-ne-zero}
use Rattle.std.proofs.Math.Logic.{inl, inr}
use mathlib.Core.List.Memᴰ
use mathlib.Core.List.{List, [], ◌∷◌}
use Rattle.lists.specs.Lists.{◌∈◌, Some}
use Rattle.lists.specs.ListLaws.{some_of_member, member_of_some, pairwise_members}
use Rattle.walk.specs.Ranges.{Holds, Within}
use Rattle.walk.proofs.Ranges.{holds_of_within, apart_never_both}
use Rattle.walk.specs.Registers.{Node, Registers, nodes, Item, items, bar, window, bar_item, window_item}
use Rattle.walk.proofs.RegistersLaws.{BarOf, WindowOf, item_elim, item_of_bar, item_of_window}
use Rattle.walk.specs.Above.{LeadsTo, Above}
use Rattle.walk.proofs.AboveLaws.{window_above}
use Rattle.walk.proofs.WayLaws.{above_split}
use Rattle.walk.specs.Good.{Host, ApartOnBus, Sound}
use Rattle.walk.proofs.Delivery.{bridges_above, way_of}

-- a window over the address
pub record Over (fs : List Registers) (address : ℕ) (x : Item) : Type 0 where
  pub in_items : x ∈ items fs
  pub is_window_lem : x.claim ≡ window x.owner.node.number x.owner.node.secondary
  pub over : Holds x.range address

-- a BAR of g over it
pub record Under (fs : List Registers) (address : ℕ) (g : Registers) (y : Item) : Type 0 where
  pub in_items : y ∈ items fs
  pub is_own_lem : y.owner ≡ g
  pub is_bar_lem : y.claim ≡ bar g.node.number
  pub over : Holds y.range address

module _ (fs : List Registers) (address : ℕ) where
  pub under_of_bar : (g : Registers) → g ∈ fs → Some (λ r. Holds r address) g.bars → (y : Item) × Under fs address g y
  under_of_bar g mg h =
      let (r, in_bars, held) = member_of_some _ g.bars h in
      (bar_item g r, record { in_items = item_of_bar fs mg in_bars; is_own_lem = refl; is_bar_lem = refl; over = held })

  pub over_of_window : (f : Registers) → f ∈ fs → f.node.bridge ≡ true → Some (λ r. Holds r address) f.windows
      → (x : Item) × Over fs address x × (x.owner ≡ f)
  over_of_window f mf bridge h =
      let (r, in_windows, held) = member_of_some _ f.windows h in
      (window_item f r, record { in_items = item_of_window fs mf bridge in_windows; is_window_lem = refl; over = held }, refl)

  pub window_of_over : (x : Item) → Over fs address x
      → (x.owner ∈ fs) × (x.owner.node.bridge ≡ true) × Some (λ r. Holds r address) x.owner.windows
  window_of_over x o = go (item_elim fs o.in_items)
    where
      go : BarOf fs x ⊎ WindowOf fs x
          → (x.owner ∈ fs) × (x.owner.node.bridge ≡ true) × Some (λ r. Holds r address) x.owner.windows
      go (inl b) =
          let e : window x.owner.node.number x.owner.node.secondary ≡ bar x.owner.node.number =
          sym o.is_window_lem ∙ b.claim_is in
          absurd (suc-ne-zero 0 (cc))
      go (inr w) = (w.in_sheet, w.is_bridge_lem, some_of_member _ x.owner.windows w.in_windows o.over)

module _ {host : Host} {fs : List Registers} (sound : Sound host fs) (address : ℕ) where
  pub one_item : (i j : Item) → i ∈ items fs → j ∈ items fs → i.owner.node.bus ≡ j.owner.node.bus
      → Holds i.range address → Holds j.range address → i ≡ j
  one_item i j mi mj same h k = go (pairwise_members ApartOnBus (items fs) sound.disjoint.apart_on_bus mi mj)
    where
      go : (i ≡ j) ⊎ (ApartOnBus i j ⊎ ApartOnBus j i) → i ≡ j
      go (inl e) = e
      go (inr (inl a)) = absurd (apart_never_both (a same) h k)
      go (inr (inr a)) = absurd (apart_never_both (a (sym same)) k h)

  -- the window of the bridge above an item
  up_one : (i : Item) → i ∈ items fs → Holds i.range address → (b : Node) → LeadsTo i.owner.node.bus (nodes fs) b
      → (w : Item) × Over fs address w × (w.owner.node ≡ b)
  up_one i m h b l =
      let (w, mw, inside, is_b, claim_is) = window_above Within fs sound.in_window_above i m b l in (
        w,
        record {
          in_items = mw;
          is_window_lem = claim_is ∙ sym (ap (λ (n : Node). window n.number n.secondary) is_b);
          over = holds_of_within inside h;
        },
        is_b,
      )

  -- what holds the address on a bus above y is y itself or a window of a bridge between
  meet_on_bus : (top : ℕ) (x : Item) → x ∈ items fs → x.owner.node.bus ≡ top → Holds x.range address
      → (ys : List Node) (y : Item) → y ∈ items fs → Holds y.range address → Above top (nodes fs) y.owner.node.bus ys
      → (x ≡ y) ⊎ (x.owner.node ∈ ys)
  unfolding Above
  meet_on_bus top x mx at hx [] y my hy a = inl (one_item x y mx my (at ∙ sym a) hx hy)
  meet_on_bus top x mx at hx (v ∷ ys) y my hy (l, a) =
      let (w, o, is_v) = up_one y my hy v l in
      go w is_v (meet_on_bus top x mx at hx ys w o.in_items o.over (rw is_v a))
    where
      go : (w : Item) → w.owner.node ≡ v → (x ≡ w) ⊎ (x.owner.node ∈ ys) → (x ≡ y) ⊎ (x.owner.node ∈ v ∷ ys)
      go w is_v (inl same) = inr (Memᴰ.head (ap (λ (i : Item). i.owner.node) same ∙ is_v))
      go w is_v (inr m) = inr (Memᴰ.tail m)

  -- every bridge above an item that holds the address has a window that does
  pub held_above : (top : ℕ) (vs : List Node) (y : Item) → y ∈ items fs → Holds y.range address
      → Above top (nodes fs) y.owner.node.bus vs → (v : Node) → v ∈ vs → (w : Item) × Over fs address w × (w.owner.node ≡ v)
  unfolding Above
  held_above top [] y my hy a v m = absurd (Memᴰ.not-nil m)
  held_above top (u ∷ vs) y my hy (l, a) v m =
      let (w, o, is_u) = up_one y my hy u l in
      go w o is_u (Memᴰ.cases_cons m) (λ n. held_above top vs w o.in_items o.over (rw is_u a) v n)
    where
      go : (w : Item) → Over fs address w → w.owner.node ≡ u → (v ≡ u) ⊎ (v ∈ vs)
          → (v ∈ vs → (w : Item) × Over fs address w × (w.owner.node ≡ v)) → (w : Item) × Over fs address w × (w.owner.node ≡ v)
      go w o is_u (inl same) later = (w, o, is_u ∙ sym same)
      go w o is_u (inr n) later = later n

  -- an item of the bus `top` holds what an item below it holds
  item_on_top : (top : ℕ) (ds : List Node) (y : Item) → y ∈ items fs → Holds y.range address
      → Above top (nodes fs) y.owner.node.bus ds → (x : Item) × (x ∈ items fs) × (x.owner.node.bus ≡ top) × Holds x.range address
  unfolding Above
  item_on_top top [] y my hy a = (y, my, a, hy)
  item_on_top top (d ∷ ds) y my hy (l, a) =
      let (w, o, is_d) = up_one y my hy d l in
      item_on_top top ds w o.in_items o.over (subst (λ (n : Node). Above top (nodes fs) n.bus ds) (sym is_d) a)

  module _ (g : Registers) (mg : g ∈ fs) (y : Item) (under : Under fs address g y) where
    at_top : (x : Item) → Over fs address x → (top : ℕ) (ys : List Node) → x.owner.node.bus ≡ top
        → Above top (nodes fs) g.node.bus ys → x.owner.node ∈ ys
    at_top x o top ys at way =
        pick (meet_on_bus top x o.in_items at o.over ys y under.in_items under.over
        (subst (λ (z : Registers). Above top (nodes fs) z.node.bus ys) (sym under.is_own_lem) way))
      where
        pick : (x ≡ y) ⊎ (x.owner.node ∈ ys) → x.owner.node ∈ ys
        pick (inl same) =
            let e : window x.owner.node.number x.owner.node.secondary ≡ bar g.node.number =
            sym o.is_window_lem ∙ ap (λ (i : Item). i.claim) same ∙ under.is_bar_lem in
            absurd (suc-ne-zero 0 (cc))
        pick (inr m) = m

    below : (x : Item) → Over fs address x → (u : Node) → LeadsTo x.owner.node.bus (nodes fs) u → u ∈ bridges_above host fs g
        → x.owner.node ∈ bridges_above host fs g
    below x o u l m =
        let s = above_split (nodes fs) host.first g.node.bus (bridges_above host fs g) u (way_of sound g mg) m in
        subst (λ (l : List Node). x.owner.node ∈ l) (sym s.is)
        (Memᴰ.append_left (u ∷ s.rest) (at_top x o u.secondary s.below (sym l.leads) s.way_below))

    -- a bridge of which a window holds the address is above whoever has a BAR there
    holder_from : (us : List Node) (x : Item) → Over fs address x → Above host.first (nodes fs) x.owner.node.bus us
        → x.owner.node ∈ bridges_above host fs g
    unfolding Above
    holder_from [] x o a = at_top x o host.first (bridges_above host fs g) a (way_of sound g mg)
    holder_from (u ∷ us) x o (l, a) =
        let (w, over, is_u) = up_one x o.in_items o.over u l in
        below x o u l
        (subst (λ (n : Node). n ∈ bridges_above host fs g) is_u
        (holder_from us w over (subst (λ (n : Node). Above host.first (nodes fs) n.bus us) (sym is_u) a)))

    pub holder_above : (x : Item) → Over fs address x → x.owner.node ∈ bridges_above host fs g
    holder_above x o =
        holder_from _ x o (way_of sound x.owner (window_of_over fs address x o).0)

  -- document 02, E10: what a window holds and no item of the bus below it does, nobody has
  pub nobody_in_spare_room : (b : Registers) → b ∈ fs → b.node.bridge ≡ true → Some (λ r. Holds r address) b.windows
      → ((x : Item) → x ∈ items fs → x.owner.node.bus ≡ b.node.secondary → Holds x.range address → ⊥)
      → (g : Registers) → g ∈ fs → Some (λ r. Holds r address) g.bars → ⊥
  nobody_in_spare_room b mb is_bridge_lem over spare g mg held =
      let (y, under) = under_of_bar fs address g mg held in
      let (x, o, is_b) = over_of_window fs address b mb is_bridge_lem over in
      let in_g : b.node ∈ bridges_above host fs g =
      subst (λ (f : Registers). f.node ∈ bridges_above host fs g) is_b (holder_above g mg y under x o) in
      let s = above_split (nodes fs) host.first g.node.bus (bridges_above host fs g) b.node (way_of sound g mg) in_g in
      let (z, mz, at, hz) = item_on_top b.node.secondary s.below y under.in_items under.over
      (subst (λ (f : Registers). Above b.node.secondary (nodes fs) f.node.bus s.below) (sym under.is_own_lem) s.way_below) in
      spare z mz at hz
