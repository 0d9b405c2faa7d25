-- A function is reached from a bus where one of its BARs holds the address and it and each bridge between are enabled. On a sound sheet the
-- walk from that bus comes to the functions that are reached, across just those bridges, and to no other. Assumes nothing.
use Rattle.std.specs.Prelude.{◌≡◌, refl, Bool, true, ℕ, length}
use Rattle.std.proofs.Math.Path.{ap}
use Rattle.std.proofs.Common.{ap₂, ◌∙◌}
use mathlib.Core.List.{List, [], ◌∷◌, ◌++◌, map, map-append, reverse, reverse_aux, reverse-append}
use Rattle.std.proofs.lemmas.List.{length-reverse, length-map}
use Rattle.lists.specs.Lists.{◌∈◌, All, Some}
use Rattle.lists.specs.ListLaws.{all_append, member_of_some}
use Rattle.walk.specs.Ranges.{Holds, Within}
use Rattle.walk.proofs.Ranges.{holds_of_within}
use Rattle.walk.specs.Registers.{Node, Registers, nodes, Item, items, bar_item}
use Rattle.walk.proofs.RegistersLaws.{item_of_bar, node_mem}
use Rattle.walk.specs.Tally.{one, tally_on}
use Rattle.walk.specs.TallyLaws.{Claims}
use Rattle.walk.proofs.TallyLaws.{BarClaim, WindowClaim, bar_of_tally, window_of_tally, tally_of_claim}
use Rattle.walk.specs.Walk.{Trail}
use Rattle.walk.specs.Above.{LeadsTo, Above}
use Rattle.walk.proofs.AboveLaws.{above_snoc, window_above}
use Rattle.walk.specs.Good.{Host, Sound}

-- The function is reached from the bus `top` across these bridges, the nearest to the function first.
pub record Reaches (enabled : ℕ → Bool) (fs : List Registers) (address top : ℕ) (f : Registers) (crossed : List Node) : Type 0 where
  pub in_sheet : f ∈ fs
  pub bar_holds_lem : Some (λ r. Holds r address) f.bars
  pub is_enabled : enabled f.node.number ≡ true
  pub way_up : Above top (nodes fs) f.node.bus crossed
  pub bridges_enabled : All (λ b. enabled b.number ≡ true) crossed

-- The record numbers of bridges that are listed upwards, downwards as a walk crosses them.
abbrev pub numbers_of : List Node → List ℕ
numbers_of bs = map (λ (b : Node). b.number) bs

abbrev pub downward : List Node → List ℕ
downward bs = reverse (numbers_of bs)

pub length_downward : (bs : List Node) → length (downward bs) ≡ length bs
length_downward bs = length-reverse (numbers_of bs) ∙ length-map bs (λ (b : Node). b.number)

downward_snoc : (bs : List Node) (b : Node) → downward (bs ++ (b ∷ [])) ≡ b.number ∷ downward bs
downward_snoc bs b = ap reverse (map-append (λ (n : Node). n.number) bs (b ∷ [])) ∙ reverse-append (numbers_of bs) (b.number ∷ [])

-- A trail ends only at what is reached, across the bridges that it names, on any sheet.
pub record Ends (enabled : ℕ → Bool) (fs : List Registers) (address top : ℕ) (trail : List ℕ) (number : ℕ) : Type 0 where
  pub owner : Registers
  pub crossed : List Node
  pub reaches : Reaches enabled fs address top owner crossed
  pub number_is : owner.node.number ≡ number
  pub trail_is : downward crossed ≡ trail

module _ (enabled : ℕ → Bool) (fs : List Registers) (address : ℕ) where
  ends_at_bar : (bus number : ℕ) → BarClaim enabled fs address bus number → Ends enabled fs address bus [] number
  unfolding Above
  ends_at_bar bus number b =
      record {
        owner = b.owner;
        crossed = [];
        reaches = record {
          in_sheet = b.in_sheet;
          bar_holds_lem = b.bar_holds_lem;
          is_enabled = b.is_enabled;
          way_up = b.on_bus_lem;
          bridges_enabled = tt;
        };
        number_is = b.number_is;
        trail_is = refl;
      }

  ends_past_window : (bus n secondary : ℕ) (trail : List ℕ) (number : ℕ) → WindowClaim enabled fs address bus n secondary
      → Ends enabled fs address secondary trail number → Ends enabled fs address bus (n ∷ trail) number
  ends_past_window bus n secondary trail number w e =
      let b = w.owner.node in
      let leads : LeadsTo secondary (nodes fs) b =
      record { in_sheet = node_mem w.in_sheet; is_bridge_lem = w.is_bridge_lem; leads = w.leads } in
      let r = e.reaches in
      record {
        owner = e.owner;
        crossed = e.crossed ++ (b ∷ []);
        reaches =
            record {
              in_sheet = r.in_sheet;
              bar_holds_lem = r.bar_holds_lem;
              is_enabled = r.is_enabled;
              way_up = above_snoc bus secondary (nodes fs) _ e.crossed b r.way_up leads w.on_bus_lem;
              bridges_enabled = all_append _ e.crossed (b ∷ []) r.bridges_enabled (w.is_enabled, tt);
            };
        number_is = e.number_is;
        trail_is = downward_snoc e.crossed b ∙ ap₂ ◌∷◌ w.number_is e.trail_is;
      }

  pub ends_of_trail : (bus : ℕ) (trail : List ℕ) (number : ℕ) → Trail (tally_on enabled fs address) bus trail number
      → Ends enabled fs address bus trail number
  unfolding Trail
  ends_of_trail bus [] number t = ends_at_bar bus number (bar_of_tally enabled fs address bus number t)
  ends_of_trail bus (n ∷ ns) number (b, e, t) =
      ends_past_window bus n b ns number (window_of_tally enabled fs address bus n b e) (ends_of_trail b ns number t)

module _ {host : Host} {fs : List Registers} (sound : Sound host fs) (enabled : ℕ → Bool) (address : ℕ) where
  -- From above an item that holds the address the trail comes down to its bus.
  trail_down : (i : Item) → i ∈ items fs → Holds i.range address → (top : ℕ) (bs : List Node)
      → Above top (nodes fs) i.owner.node.bus bs
      → All (λ b. enabled b.number ≡ true) bs
      → (ns : List ℕ) (number : ℕ) → Trail (tally_on enabled fs address) i.owner.node.bus ns number
      → Trail (tally_on enabled fs address) top (reverse_aux (numbers_of bs) ns) number
  unfolding Above Trail
  trail_down i m h top [] a on ns number t = rw a at t
  trail_down i m h top (b ∷ bs) (l, a) on ns number t =
      let (w, in_items, inside, is_b, claim_is) = window_above Within fs sound.in_window_above i m b l in
      let holds_it = holds_of_within inside h in
      let same_bus : w.owner.node.bus ≡ b.bus = ap (λ (n : Node). n.bus) is_b in
      let claims_it : Claims enabled address w.owner.node.bus w =
      record { on_bus_lem = refl; is_enabled = ap (λ (n : Node). enabled n.number) is_b ∙ on.0; in_range = holds_it } in
      let tally_is = tally_of_claim enabled fs address w.owner.node.bus sound.disjoint in_items claims_it ∙ ap one claim_is in
      trail_down w in_items holds_it top bs (rw (← same_bus) at a) on.1 (b.number ∷ ns) number (b.secondary, tally_is, rw l.leads t)

  pub trail_of_reaches : (top : ℕ) (f : Registers) (bs : List Node) → Reaches enabled fs address top f bs
      → Trail (tally_on enabled fs address) top (downward bs) f.node.number
  unfolding Trail
  trail_of_reaches top f bs reaches =
      let (r, in_bars, holds_it) = member_of_some _ f.bars reaches.bar_holds_lem in
      let in_items : bar_item f r ∈ items fs = item_of_bar fs reaches.in_sheet in_bars in
      let claims_it : Claims enabled address f.node.bus (bar_item f r) =
      record { on_bus_lem = refl; is_enabled = reaches.is_enabled; in_range = holds_it } in
      trail_down (bar_item f r) in_items holds_it top bs reaches.way_up reaches.bridges_enabled [] f.node.number
      (tally_of_claim enabled fs address f.node.bus sound.disjoint in_items claims_it)
