-- The owners by address answer as the walk does, on a sound sheet under any command words. Assumes nothing.
use Rattle.std.specs.Prelude.{◌≡◌, refl, ◌⊎◌, Bool, List, [], ◌∷◌, map, ℕ}
use Rattle.std.proofs.Common.{sym, ap, subst, ◌∙◌, inl, inr, arith}
use Rattle.std.proofs.Math.Bool.{true, and-eq-true_iff}
use mathlib.Core.List.Memᴰ
use Rattle.lists.specs.Lists.{◌∈◌, All}
use Rattle.lists.specs.ListLaws.{member_of_some, some_of_member, mem_cond_elim, flat_intro, flat_elim, pairwise_members}
use Rattle.walk.specs.Ranges.{Range, Holds}
use Rattle.walk.proofs.Ranges.{apart_never_both}
use Rattle.walk.specs.Registers.{Node, Registers, nodes, Item, bar_item, items, NumberedFrom}
use Rattle.walk.proofs.RegistersLaws.{item_of_bar}
use Rattle.walk.specs.Above.{above}
use Rattle.walk.specs.Walk.{delivered, refused, no_owner}
use Rattle.walk.specs.Good.{Host, Sound, ApartOnBus}
use Rattle.walk.proofs.Delivery.{Owns, outcome_of, delivered_of_owner, otherwise_nobody, holder_unique}
use Rattle.sheet_above.specs.Bridges.{all_enabled}
use Rattle.index_rule.specs.Owners.{Owner, Over, is_live, bar_owner, owners_on, owned}
use Rattle.index_rule.proofs.Answered.{Answered}

all_enabled_elim : (enabled : ℕ → Bool) (bs : List Node) → all_enabled enabled bs ≡ true → All (λ b. enabled b.number ≡ true) bs
unfolding all_enabled
all_enabled_elim enabled [] e = tt
all_enabled_elim enabled (b ∷ bs) e = let both = (and-eq-true_iff _ _).0 e in (both.0, all_enabled_elim enabled bs both.1)

all_enabled_intro : (enabled : ℕ → Bool) (bs : List Node) → All (λ b. enabled b.number ≡ true) bs → all_enabled enabled bs ≡ true
unfolding all_enabled
all_enabled_intro enabled [] h = refl
all_enabled_intro enabled (b ∷ bs) h = (and-eq-true_iff _ _).1 (h.0, all_enabled_intro enabled bs h.1)

-- ## Who owns: a BAR of a function that is enabled with all bridges above

module _ (top : ℕ) (ns : List Node) (enabled : ℕ → Bool) (fs : List Registers) where
  pub record Comes (x : Owner) : Type 0 where
    pub function : Registers
    pub range : Range
    pub in_sheet : function ∈ fs
    pub in_bars : range ∈ function.bars
    pub is_enabled : enabled function.node.number ≡ true
    pub bridges_enabled : All (λ b. enabled b.number ≡ true) (above top ns function.node.bus)
    pub owner_is : bar_owner top ns function.node range ≡ x

  pub owned_elim : (x : Owner) → x ∈ owned top ns enabled fs → Comes x
  unfolding owned
  owned_elim x m =
      let (f, in_fs, in_part) = flat_elim (owners_on top ns enabled) fs m in
      let (live, in_owners) = mem_cond_elim (is_live top ns enabled f.node) (map (bar_owner top ns f.node) f.bars) in_part in
      let (r, in_bars, is_x) = Memᴰ.of_map (bar_owner top ns f.node) f.bars in_owners in
      let both = (and-eq-true_iff _ _).0 live in
      record {
        function = f;
        range = r;
        in_sheet = in_fs;
        in_bars = in_bars;
        is_enabled = both.0;
        bridges_enabled = all_enabled_elim enabled (above top ns f.node.bus) both.1;
        owner_is = is_x;
      }

  owned_intro : (f : Registers) (r : Range) → f ∈ fs → r ∈ f.bars → enabled f.node.number ≡ true
      → All (λ b. enabled b.number ≡ true) (above top ns f.node.bus) → bar_owner top ns f.node r ∈ owned top ns enabled fs
  unfolding owned
  owned_intro f r m h on bridges =
      let live : is_live top ns enabled f.node ≡ true =
      (and-eq-true_iff _ _).1 (on, all_enabled_intro enabled (above top ns f.node.bus) bridges) in
      let here : bar_owner top ns f.node r ∈ owners_on top ns enabled f = rw live (Memᴰ.map (bar_owner top ns f.node) h) in
      flat_intro (owners_on top ns enabled) fs m here

-- ## They answer as the walk does

module _ {host : Host} {fs : List Registers} (sound : Sound host fs) (numbered : NumberedFrom 1 fs) (enabled : ℕ → Bool) where
  abbrev those : List Owner
  those = owned host.first (nodes fs) enabled fs

  abbrev From : Owner → Type 0
  From x = Comes host.first (nodes fs) enabled fs x

  holds_of_over : (a : ℕ) (x : Owner) (c : From x) → Over x a → Holds c.range a
  holds_of_over a x c o =
      record {
        from_start = omega (arith, ap (λ (y : Owner). y.start) c.owner_is, o.from_start);
        before_stop = omega (arith, ap (λ (y : Owner). y.stop) c.owner_is, o.before_stop);
      }

  owns_of_over : (a : ℕ) (x : Owner) (c : From x) → Over x a → Owns host enabled fs a c.function
  owns_of_over a x c o =
      record {
        in_sheet = c.in_sheet;
        bar_holds_lem = some_of_member _ c.function.bars c.in_bars (holds_of_over a x c o);
        is_enabled = c.is_enabled;
        bridges_enabled = c.bridges_enabled;
      }

  -- two BARs of one function over one address are one
  same_bar : (a : ℕ) (f : Registers) (r s : Range) → Holds r a → Holds s a
      → (bar_item f r ≡ bar_item f s) ⊎ (ApartOnBus (bar_item f r) (bar_item f s) ⊎ ApartOnBus (bar_item f s) (bar_item f r)) → r ≡ s
  same_bar a f r s hr hs (inl e) = ap (λ (i : Item). i.range) e
  same_bar a f r s hr hs (inr (inl apart)) = absurd (apart_never_both (apart refl) hr hs)
  same_bar a f r s hr hs (inr (inr apart)) = absurd (apart_never_both (apart refl) hs hr)

  owner_unique : (a : ℕ) (x y : Owner) → x ∈ those → y ∈ those → Over x a → Over y a → x ≡ y
  owner_unique a x y mx my ox oy =
      let cx = owned_elim host.first (nodes fs) enabled fs x mx in
      let cy = owned_elim host.first (nodes fs) enabled fs y my in
      let wx = owns_of_over a x cx ox in
      let wy = owns_of_over a y cy oy in
      let same : cx.function ≡ cy.function =
      holder_unique sound numbered a cx.function cy.function cx.in_sheet cy.in_sheet wx.bar_holds_lem wy.bar_holds_lem in
      let in_bars : cy.range ∈ cx.function.bars = subst (λ (f : Registers). cy.range ∈ f.bars) (sym same) cy.in_bars in
      let ranges : cx.range ≡ cy.range =
      same_bar a cx.function cx.range cy.range (holds_of_over a x cx ox) (holds_of_over a y cy oy)
      (pairwise_members ApartOnBus (items fs) sound.disjoint.apart_on_bus (item_of_bar fs cx.in_sheet cx.in_bars)
      (item_of_bar fs cx.in_sheet in_bars)) in
      sym cx.owner_is
      ∙ ap (bar_owner host.first (nodes fs) cx.function.node) ranges
      ∙ ap (λ (f : Registers). bar_owner host.first (nodes fs) f.node cy.range) same
      ∙ cy.owner_is

  pub owned_answered : Answered those (outcome_of host enabled fs)
  owned_answered = record { of_owner = hit; of_none = none; unique = owner_unique }
    where
      hit : (a : ℕ) (x : Owner) → x ∈ those → Over x a → outcome_of host enabled fs a ≡ delivered x.number x.bridges
      hit a x m o =
          let c = owned_elim host.first (nodes fs) enabled fs x m in
          delivered_of_owner sound enabled a c.function (owns_of_over a x c o)
          ∙ ap (λ (y : Owner). delivered y.number y.bridges) c.owner_is

      none : (a : ℕ) → ((x : Owner) → x ∈ those → Over x a → ⊥) → outcome_of host enabled fs a ≡ refused no_owner
      none a nothing = otherwise_nobody sound enabled a (λ f o. absurd (unowned f o))
        where
          unowned : (f : Registers) → Owns host enabled fs a f → ⊥
          unowned f o =
              let (r, in_bars, held) = member_of_some _ f.bars o.bar_holds_lem in
              nothing _
              (owned_intro host.first (nodes fs) enabled fs f r o.in_sheet in_bars o.is_enabled o.bridges_enabled)
              (record { from_start = held.from_start; before_stop = held.before_stop })
