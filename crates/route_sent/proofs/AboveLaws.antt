-- The way up from a bus through the bridge that leads to it, in the words of the code. Assumes nothing.
use Rattle.std.specs.Prelude.{◌≡◌, refl, Bool, true, false, ◌&&◌, List, [], ◌∷◌, map, ℕ, ◌+◌, ◌/◌, ◌≤◌, ◌<◌, leb, length}
use Rattle.std.proofs.Common.{sym, subst, ◌∙◌, arith, eq-eqb, ne_eqb}
use Rattle.std.proofs.Math.Path.{ap}
use Rattle.lists.specs.KeepLaws.{map_keep}
use Rattle.pools.specs.declared.Space.TheVariants.{Memory}
use Rattle.records.specs.Limits.{most_functions}
use Rattle.walk.specs.Ranges.{buses}
use Rattle.walk.proofs.Ranges.{holds_last}
use Rattle.walk.specs.Registers.{Registers}
use Rattle.walk.specs.Walk.{no_owner, contested}
use Rattle.walk.specs.Above.{is_above, bridges_to}
use Rattle.walk.specs.Climb.{Up, to_host, across, halts, leading_to}
use Rattle.climb_ids.specs.ById.{up_past, up_unless, buses_hold}
use Rattle.sheet_record.specs.Places.{record_size}
use Rattle.sheet_record.specs.Entry.{Entry, entry_of, header_of, is_bridge, bus_of, secondary_of, subordinate_of}
use Rattle.sheet_record.specs.Spaces.{node_of}
use Rattle.sheet.specs.Sheet.{entries_of, part_at, sheet_length}
use Rattle.sheet.specs.Spaces.{registers_of, nodes_of}
use Rattle.sheet.proofs.IndexLaws.{length_part, record_fits}
use Rattle.sheet.proofs.SheetLaws.{Checked, nodes_functions}
use Rattle.sheet_above.specs.declared.Parent.{Parent}
use Rattle.sheet_above.specs.declared.Parent.TheVariants.{Host, Bridge, Nothing, Several}
use Rattle.sheet_above.specs.Table.{BridgeAt, IsParent}
use Rattle.sheet_above.specs.FunctionsLaws.{FunctionsAbove, functions_above}
use Rattle.route_sent.specs.declared.climb.Going.{Going}
use Rattle.route_sent.specs.declared.climb.Going.TheVariants.{ById, OnlyUp}
use Rattle.route_sent.specs.Going.{stays_going, up_going, node_in}

-- ## r stands above the bus

module _ (s : List ℕ) (c : Checked s) (going : Going) (top bus : ℕ) (r : Parent) (above : IsParent s top bus r) where
  told : (q : Parent) → r ≡ q → FunctionsAbove Memory s top bus q
  told q e = subst (FunctionsAbove Memory s top bus) e (functions_above Memory s top bus c.framed r above)

  pub up_host : r ≡ Host → to_host ≡ up_going going s top bus
  unfolding up_unless
  up_host e = rw (eq-eqb bus top (told Host e))

  -- the functions that lead to a bus, as nodes
  leading : (fs : List Registers) → leading_to bus (registers_of Memory s) ≡ fs
      → map (λ (f : Registers). f.node) fs ≡ bridges_to bus (nodes_of s)
  leading fs is =
      ap (map (λ (f : Registers). f.node)) (sym is)
      ∙ map_keep (is_above bus) (λ (f : Registers). f.node) (registers_of Memory s)
      ∙ ap (bridges_to bus) (nodes_functions Memory 1 (entries_of s))

  below : ¬ (bus ≡ top) → (fs : List Registers) → leading_to bus (registers_of Memory s) ≡ fs
      → up_past (stays_going going) (map (λ (f : Registers). f.node) fs) ≡ up_going going s top bus
  unfolding up_unless
  below other fs is = rw (ne_eqb bus top other) (ap (up_past (stays_going going)) (leading fs is))

  pub up_none : r ≡ Nothing → halts no_owner ≡ up_going going s top bus
  up_none e = let (other, is) = told Nothing e in below other [] is

  pub up_several : r ≡ Several → halts contested ≡ up_going going s top bus
  up_several e =
      let (other, two) = told Several e in
      let (b, d, bs, is) = two in
      below other (b ∷ d ∷ bs) is

  -- the bridge of record k, from 0
  pub up_one : (k : ℕ) → r ≡ Bridge k → (u : Up) → u ≡ up_past (stays_going going) (node_in s k ∷ []) → u ≡ up_going going s top bus
  up_one k e u q = let (other, is) = told (Bridge k) e in q ∙ below other _ is

  pub leads_here : (k : ℕ) → r ≡ Bridge k → BridgeAt s k
  leads_here k e = above.whole k e

-- ## Through one bridge

-- whatever its number
any_number : (going : Going) (e : Entry) (n : ℕ) → stays_going going (node_of n e) ≡ stays_going going (node_of 0 e)
any_number (ById id) e n = refl
any_number OnlyUp e n = refl

module _ (s : List ℕ) (c : Checked s) (k : ℕ) (r : BridgeAt s k) where
  pub number_fits : k < most_functions
  number_fits = omega (arith, r.inside, c.count)

  pub part_fits : sheet_length (k + 1) ≤ length s
  part_fits = record_fits s c.framed k r.inside

  -- p is the part of the bridge, w the test of what it lets past
  module _ (going : Going) (p : List ℕ) (e : p ≡ part_at s k) where
    pub sized : length p ≡ record_size
    sized = ap length e ∙ length_part s k part_fits

    pub bridge_here : is_bridge (header_of p) ≡ true
    bridge_here = ap (λ (q : List ℕ). is_bridge (header_of q)) e ∙ r.is_bridge_lem

    module _ (w : Bool) (t : w ≡ stays_going going (node_of 0 (entry_of p))) where
      stays_is : stays_going going (node_in s k) ≡ w
      stays_is = ap (λ (q : List ℕ). stays_going going (node_of (k + 1) (entry_of q))) (sym e) ∙ any_number going (entry_of p) (k + 1) ∙ sym t

      pub through_held : w ≡ true → halts no_owner ≡ up_past (stays_going going) (node_in s k ∷ [])
      through_held y = rw (stays_is ∙ y)

      pub through_past : w ≡ false → (own : ℕ) → own ≡ bus_of p → across (k + 1) own ≡ up_past (stays_going going) (node_in s k ∷ [])
      unfolding entry_of
      through_past n own o = rw (stays_is ∙ n) (ap (across (k + 1)) (o ∙ ap bus_of e))

-- ## A bridge's buses

pub holds_bus : (p : List ℕ) → is_bridge (header_of p) ≡ true → (id target : ℕ) → target ≡ id / 256
    → (leb (secondary_of p) target && leb target (subordinate_of p)) ≡ buses_hold (id / 256) (node_of 0 (entry_of p))
unfolding entry_of
holds_bus p bridge id target e = rw (← e, bridge) (sym (holds_last buses (secondary_of p) (subordinate_of p) target))
