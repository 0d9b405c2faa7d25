-- Where the way up from one function and the way down to another meet on a sound sheet: the bridges above the one that are not above the
-- other. Assumes nothing.
use Rattle.std.specs.Prelude.{◌≡◌, ◌⊎◌, Bool, cond, not, ℕ, suc, ◌≤◌, eqb, length}
use Rattle.std.proofs.Math.Path.{refl}
use Rattle.std.proofs.Common.{sym, ap, subst, ◌∙◌, inl, inr, arith, eqb-true, eq-eqb}
use Rattle.std.proofs.Math.Bool.{true, false, true≢false}
use mathlib.Core.List.Memᴰ
use mathlib.Core.List.{List, [], ◌∷◌, ◌++◌}
use Rattle.lists.specs.Lists.{◌∈◌, All, keep, any}
use Rattle.lists.specs.ListLaws.{all_elim, all_intro, some_of_member, member_of_some}
use Rattle.lists.specs.KeepLaws.{any_of_some, some_of_any}
use Rattle.walk.specs.Registers.{Node, Registers, nodes, NumberedFrom}
use Rattle.walk.proofs.RegistersLaws.{node_mem, nodes_elim, number_unique}
use Rattle.walk.specs.Above.{Above}
use Rattle.walk.proofs.AboveLaws.{above_of_way_up}
use Rattle.walk.proofs.WayLaws.{above_append, above_split, above_between, way_leads}
use Rattle.walk.specs.Good.{Host, Sound}
use Rattle.walk.proofs.Reach.{numbers_of}
use Rattle.walk.proofs.Delivery.{bridges_above, way_of}
use Rattle.walk.specs.Cards.{without}

-- ## Among numbers

any_number : (n : ℕ) (ns : List ℕ) → n ∈ ns → any (eqb n) ns ≡ true
any_number n ns m = any_of_some (eqb n) ns (some_of_member _ ns m (eq-eqb n n refl))

number_any : (n : ℕ) (ns : List ℕ) → any (eqb n) ns ≡ true → n ∈ ns
number_any n ns e =
    let (m, there, same) = member_of_some _ ns (some_of_any (eqb n) ns e) in
    subst (λ (k : ℕ). k ∈ ns) (sym (eqb-true n m same)) there

-- those before are not among the others, those after are
without_split : (others : List ℕ) (us rest : List Node) → All (λ u. any (eqb u.number) others ≡ false) us
    → All (λ r. any (eqb r.number) others ≡ true) rest → without others (numbers_of (us ++ rest)) ≡ numbers_of us
unfolding without keep
without_split others [] [] h k = refl
without_split others [] (r ∷ rest) h k = rw k.0 (without_split others [] rest tt k.1)
without_split others (u ∷ us) rest h k = rw h.0 (ap (u.number ∷◌) (without_split others us rest h.1 k))

pub without_le : (others ns : List ℕ) → length (without others ns) ≤ length ns
unfolding without keep
without_le others [] = omega arith
without_le others (n ∷ ns) = go (not (any (eqb n) others)) (without_le others ns)
  where
    go : (b : Bool) → length (keep (λ m. not (any (eqb m) others)) ns) ≤ length ns
        → length (cond b (n ∷ keep (λ m. not (any (eqb m) others)) ns) (keep (λ m. not (any (eqb m) others)) ns)) ≤ suc (length ns)
    go true h = omega arith
    go false h = omega arith

module _ {host : Host} {fs : List Registers} (sound : Sound host fs) (numbered : NumberedFrom 1 fs) where
  pub node_same : (u v : Node) → u ∈ nodes fs → v ∈ nodes fs → u.number ≡ v.number → u ≡ v
  node_same u v mu mv e =
      let (f, mf, is_u) = nodes_elim fs mu in
      let (h, mh, is_v) = nodes_elim fs mv in
      let numbers : f.node.number ≡ h.node.number = ap (λ (n : Node). n.number) is_u ∙ e ∙ sym (ap (λ (n : Node). n.number) is_v) in
      sym is_u ∙ ap (λ (z : Registers). z.node) (number_unique 1 fs f h numbered mf mh numbers) ∙ is_v

  -- a way's bridges by their numbers
  in_way : (top bus : ℕ) (bs : List Node) → Above top (nodes fs) bus bs → (u : Node) → u ∈ nodes fs
      → any (eqb u.number) (numbers_of bs) ≡ true → u ∈ bs
  in_way top bus bs a u mu e =
      let (v, mv, same) = Memᴰ.of_map (λ (n : Node). n.number) bs (number_any u.number _ e) in
      subst (λ (n : Node). n ∈ bs) (node_same v u (way_leads (nodes fs) top bus bs v a mv).0 mu same) mv

  not_in_way : (bs : List Node) (u : Node) → ¬ (any (eqb u.number) (numbers_of bs) ≡ true) → any (eqb u.number) (numbers_of bs) ≡ false
  not_in_way bs u h = go (any (eqb u.number) (numbers_of bs)) refl
    where
      go : (t : Bool) → any (eqb u.number) (numbers_of bs) ≡ t → t ≡ false
      go true e = absurd (h e)
      go false e = refl

  -- ## Where the two ways meet

  -- up from a bus across `us`, none of them above g, to a bus from which g is reached across `down`
  pub record Meeting (bus : ℕ) (g : Registers) : Type 0 where
    pub us : List Node
    pub rest : List Node
    pub down : List Node
    pub top : ℕ
    pub up_way : Above top (nodes fs) bus us
    pub down_way : Above top (nodes fs) g.node.bus down
    pub rest_way : Above host.first (nodes fs) top rest
    pub us_other : All (λ u. ¬ (u ∈ bridges_above host fs g)) us

  meeting_from : (g : Registers) → g ∈ fs → (ups : List Node) (bus : ℕ) → Above host.first (nodes fs) bus ups → Meeting bus g
  unfolding Above
  meeting_from g mg [] bus a =
      record {
        us = [];
        rest = [];
        down = bridges_above host fs g;
        top = host.first;
        up_way = a;
        down_way = way_of sound g mg;
        rest_way = refl;
        us_other = tt;
      }
  meeting_from g mg (u ∷ ups) bus (l, a) =
      go (any (eqb u.number) (numbers_of (bridges_above host fs g))) refl (meeting_from g mg ups u.bus a)
    where
      go : (t : Bool) → any (eqb u.number) (numbers_of (bridges_above host fs g)) ≡ t → Meeting u.bus g → Meeting bus g
      go true e later =
          let there = in_way host.first g.node.bus (bridges_above host fs g) (way_of sound g mg) u l.in_sheet e in
          let s = above_split (nodes fs) host.first g.node.bus (bridges_above host fs g) u (way_of sound g mg) there in
          record {
            us = [];
            rest = u ∷ ups;
            down = s.below;
            top = bus;
            up_way = refl;
            down_way = rw (← l.leads) s.way_below;
            rest_way = (l, a);
            us_other = tt;
          }
      go false e later =
          record {
            us = u ∷ later.us;
            rest = later.rest;
            down = later.down;
            top = later.top;
            up_way = (l, later.up_way);
            down_way = later.down_way;
            rest_way = later.rest_way;
            us_other = (
              λ m. true≢false (sym (any_number u.number _ (Memᴰ.map (λ (n : Node). n.number) m)) ∙ e),
              later.us_other,
            );
          }

  pub meeting : (s g : Registers) → s ∈ fs → g ∈ fs → Meeting s.node.bus g
  meeting s g ms mg = meeting_from g mg (bridges_above host fs s) s.node.bus (way_of sound s ms)

  -- ## What the lists without each other come to

  module _ (s g : Registers) (ms : s ∈ fs) (mg : g ∈ fs) (m : Meeting s.node.bus g) where
    above_s : bridges_above host fs s ≡ m.us ++ m.rest
    above_s =
        above_of_way_up sound.bridges_rise sound.tree s.node (node_mem ms) (m.us ++ m.rest)
        (above_append (nodes fs) host.first m.top s.node.bus m.us m.rest m.up_way m.rest_way)

    above_g : bridges_above host fs g ≡ m.down ++ m.rest
    above_g =
        above_of_way_up sound.bridges_rise sound.tree g.node (node_mem mg) (m.down ++ m.rest)
        (above_append (nodes fs) host.first m.top g.node.bus m.down m.rest m.down_way m.rest_way)

    down_other : (d : Node) → d ∈ m.down → ¬ (d ∈ bridges_above host fs s)
    down_other d md n = go (Memᴰ.append_cases m.us (subst (λ (l : List Node). d ∈ l) above_s n))
      where
        go : (d ∈ m.us) ⊎ (d ∈ m.rest) → ⊥
        go (inl n) =
            all_elim _ m.us m.us_other n (subst (λ (l : List Node). d ∈ l) (sym above_g) (Memᴰ.append_left m.rest md))
        go (inr n) =
            omega (
              arith,
              (above_between (nodes fs) sound.bridges_rise m.top g.node.bus m.down d m.down_way md).0,
              (above_between (nodes fs) sound.bridges_rise host.first m.top m.rest d m.rest_way n).1,
            )

    -- those of a way that are not on another, where the rest of it is
    module _ (x y : Registers) (mx : x ∈ fs) (my : y ∈ fs) (us : List Node) (way : Above m.top (nodes fs) x.node.bus us)
        (above_x : bridges_above host fs x ≡ us ++ m.rest) (apart : (u : Node) → u ∈ us → ¬ (u ∈ bridges_above host fs y))
        (shared : (r : Node) → r ∈ m.rest → r ∈ bridges_above host fs y) where
      only_is : without (numbers_of (bridges_above host fs y)) (numbers_of (bridges_above host fs x)) ≡ numbers_of us
      only_is =
          ap (λ (l : List Node). without (numbers_of (bridges_above host fs y)) (numbers_of l)) above_x
          ∙ without_split (numbers_of (bridges_above host fs y)) us m.rest (all_intro _ us (λ u n. off u n))
          (all_intro _ m.rest (λ r n. any_number r.number _ (Memᴰ.map (λ (n : Node). n.number) (shared r n))))
        where
          off : (u : Node) → u ∈ us → any (eqb u.number) (numbers_of (bridges_above host fs y)) ≡ false
          off u n =
              not_in_way (bridges_above host fs y) u (λ e. apart u n
              (in_way host.first y.node.bus (bridges_above host fs y) (way_of sound y my) u
              (way_leads (nodes fs) m.top x.node.bus us u way n).0 e))

    pub up_is : without (numbers_of (bridges_above host fs g)) (numbers_of (bridges_above host fs s)) ≡ numbers_of m.us
    up_is =
        only_is s g ms mg m.us m.up_way above_s (λ u n. all_elim _ m.us m.us_other n)
        (λ r n. subst (λ (l : List Node). r ∈ l) (sym above_g) (Memᴰ.append_right m.down n))

    pub down_is : without (numbers_of (bridges_above host fs s)) (numbers_of (bridges_above host fs g)) ≡ numbers_of m.down
    down_is =
        only_is g s mg ms m.down m.down_way above_g down_other
        (λ r n. subst (λ (l : List Node). r ∈ l) (sym above_s) (Memᴰ.append_right m.us n))
