-- The bridges above a bus in the words of the code: those met so far and those above the bus reached are all. Assumes nothing.
use Rattle.std.specs.Prelude.{◌≡◌, refl, Bool, true, ◌&&◌, ℕ, ◌+◌, ◌/◌, ◌≤◌, ◌<◌, eqb}
use Rattle.std.proofs.Math.Path.{sym, ap}
use Rattle.std.proofs.Common.{ap₂, ◌∙◌, inl, inr, arith, eqb-true}
use Rattle.std.proofs.Math.Bool.{and-true, and_assoc, and-eq-true_iff}
use mathlib.Core.List.{List, [], ◌∷◌}
use Rattle.std.proofs.Math.ListN.{length}
use Rattle.lists.specs.ListLaws.{all_elim}
use Rattle.pools.specs.declared.Space.{Space}
use Rattle.pools.specs.declared.Space.TheVariants.{Memory, Io}
use Rattle.walk.specs.Registers.{Node}
use Rattle.walk.specs.Above.{bridges_to, LeadsTo, above}
use Rattle.walk.proofs.AboveLaws.{above_is, above_root, above_bridge, above_at_most_255}
use Rattle.walk.specs.Good.{OneWayUp}
use Rattle.sheet_record.specs.Places.{record_size}
use Rattle.sheet_record.specs.Entry.{Entry, entry_of, bus_of, command_of, bridges}
use Rattle.sheet_record.specs.Spaces.{node_of, enables}
use Rattle.sheet.specs.Sheet.{Framed, entries_of, part_at}
use Rattle.sheet.proofs.IndexLaws.{enabled_index, record_fits, length_part}
use Rattle.sheet.specs.Spaces.{nodes_of, enabled_of}
use Rattle.sheet_above.specs.Parents as rule
use Rattle.sheet_above.specs.Parents.{parent_of}
use Rattle.sheet_above.specs.ParentsLaws.{Stands, at_root, below, nowhere, stands, NotLed}
use Rattle.sheet_above.specs.declared.Parent.{Parent}
use Rattle.sheet_above.specs.declared.Parent.TheVariants.{Host as UnderHost, Bridge, Nothing, Several}
use Rattle.sheet_above.specs.Table.{IsParent}
use Rattle.sheet_above.specs.ToldLaws.{leads_of_parent}
use Rattle.sheet_above.specs.FunctionsLaws.{node_index}
use Rattle.sheet_above.specs.Bridges.{all_enabled, bridges_over, BusTree, OnBus}

-- ## The record of an index

pub part_sized : (s : List ℕ) → Framed 1 s → (k : ℕ) → k < length (entries_of s) → (p : List ℕ) → p ≡ part_at s k → length p ≡ record_size
part_sized s f k h p e = ap length e ∙ length_part s k (record_fits s f k h)

pub bus_of_part : (p : List ℕ) → bus_of p ≡ (entry_of p).id / 256
unfolding entry_of
bus_of_part p = refl

-- a function's bus is one on which a function stands
pub on_bus_index : (s : List ℕ) → Framed 1 s → (k : ℕ) → k < length (entries_of s) → (p : List ℕ) → p ≡ part_at s k
    → (bus : ℕ) → bus ≡ bus_of p → OnBus s bus
on_bus_index s f k h p e bus is =
    (node_of (k + 1) (entry_of (part_at s k)), node_index s f k h, sym (is ∙ ap bus_of e ∙ bus_of_part (part_at s k)))

-- ## The way up

-- the bridges met below this bus, joined with those above it, are all that are above the bus where the way up began
pub record CountedTo (s : List ℕ) (root bus at count : ℕ) (memory io : Bool) : Type 0 where
  pub on : OnBus s at
  pub few : length (above root (nodes_of s) bus) ≤ 255
  pub counted : count + length (above root (nodes_of s) at) ≡ length (above root (nodes_of s) bus)
  pub all_memory : (memory && all_enabled (enabled_of Memory s) (above root (nodes_of s) at))
      ≡ all_enabled (enabled_of Memory s) (above root (nodes_of s) bus)
  pub all_io : (io && all_enabled (enabled_of Io s) (above root (nodes_of s) at)) ≡ all_enabled (enabled_of Io s) (above root (nodes_of s) bus)

module _ (s table : List ℕ) (root : ℕ) (c : BusTree s table root) where
  abbrev ns : List Node
  ns = nodes_of s

  above_on : (at : ℕ) (x : Node) → x.bus ≡ at → above root ns at ≡ above c.host.first ns x.bus
  above_on at x e = ap₂ (λ (r b : ℕ). above r ns b) (sym c.root_is) (sym e)

  pub up_start : (bus : ℕ) → OnBus s bus → CountedTo s root bus bus 0 true true
  up_start bus (x, m, e) =
      let few = above_at_most_255 ns c.rise c.host.first x.bus _ (above_is c.rise c.tree x m) in
      record {
        on = (x, m, e);
        few = omega (arith, ap length (above_on bus x e), few);
        counted = omega arith;
        all_memory = refl;
        all_io = refl;
      }

  module _ (bus at count : ℕ) (memory io : Bool) (r : CountedTo s root bus at count memory io) where
    up_done : above root ns at ≡ [] → bridges_over s root bus ≡ record { count = count; memory = memory; io = io }
    unfolding all_enabled
    up_done none =
        let counted : length (above root ns bus) ≡ count = omega (arith, r.counted, ap length none) in
        let in_memory : all_enabled (enabled_of Memory s) (above root ns bus) ≡ memory =
        sym r.all_memory ∙ ap (λ (bs : List Node). memory && all_enabled (enabled_of Memory s) bs) none ∙ and-true memory in
        let in_io : all_enabled (enabled_of Io s) (above root ns bus) ≡ io =
        sym r.all_io ∙ ap (λ (bs : List Node). io && all_enabled (enabled_of Io s) bs) none ∙ and-true io in
        λ i. record { count = counted i; memory = in_memory i; io = in_io i }

    module _ (q : Parent) (told : IsParent s root at q) where
      pub up_host : q ≡ UnderHost → record { count = count; memory = memory; io = io } ≡ bridges_over s root bus
      up_host e = sym (up_done (go (stands root 1 (entries_of s) at)))
        where
          is : parent_of root (entries_of s) at ≡ rule.under_host
          is = told.same ∙ rw e

          go : Stands root 1 (entries_of s) at → above root ns at ≡ []
          go (at_root on p) =
              above_on at r.on.0 r.on.2
              ∙ above_root c.rise c.tree r.on.0 r.on.1 (r.on.2 ∙ on ∙ sym c.root_is)
          go (below off b led p) = absurd (let z : ◌≡◌ {A = ℕ} 0 1 = cc (is, p) in omega arith)
          go (nowhere off unled (inl p)) = absurd (let z : ◌≡◌ {A = ℕ} 0 1 = cc (is, p) in omega arith)
          go (nowhere off unled (inr p)) = absurd (let z : ◌≡◌ {A = ℕ} 0 1 = cc (is, p) in omega arith)

      -- a function's bus is led to by one bridge
      led : (parent_of root (entries_of s) at ≡ rule.under_host → ⊥)
          → ((b : Entry) → parent_of root (entries_of s) at ≡ rule.under_bridge b → ⊥) → ⊥
      led no_host_lem no_bridge = go (stands root 1 (entries_of s) at)
        where
          way : NotLed 1 (entries_of s) at → (at ≡ root → ⊥) → OneWayUp c.host.first ns r.on.0 → ⊥
          way unled off (inl on) = off (sym r.on.2 ∙ on ∙ c.root_is)
          way unled off (inr (b, only)) = unled b (ap (λ (n : ℕ). bridges_to n ns) (sym r.on.2) ∙ only)

          go : Stands root 1 (entries_of s) at → ⊥
          go (at_root on p) = no_host_lem p
          go (below off b led p) = no_bridge b p
          go (nowhere off unled p) = way unled off (all_elim _ ns c.tree.one_way_up r.on.1)

      pub up_none : q ≡ Nothing → ⊥
      up_none e =
          let is : parent_of root (entries_of s) at ≡ rule.under_none = told.same ∙ rw e in
          led (λ p. let z : ◌≡◌ {A = ℕ} 0 1 = cc (is, p) in omega arith) (λ b p. let z : ◌≡◌ {A = ℕ} 0 1 = cc (is, p) in omega arith)

      pub up_several : q ≡ Several → ⊥
      up_several e =
          let is : parent_of root (entries_of s) at ≡ rule.under_several = told.same ∙ rw e in
          led (λ p. let z : ◌≡◌ {A = ℕ} 0 1 = cc (is, p) in omega arith) (λ b p. let z : ◌≡◌ {A = ℕ} 0 1 = cc (is, p) in omega arith)

      pub up_end : ((k : ℕ) → q ≡ Bridge k → ⊥) → record { count = count; memory = memory; io = io } ≡ bridges_over s root bus
      up_end none = go q refl
        where
          go : (p : Parent) → q ≡ p → record { count = count; memory = memory; io = io } ≡ bridges_over s root bus
          go UnderHost e = up_host e
          go (Bridge k) e = absurd (none k e)
          go Nothing e = absurd (up_none e)
          go Several e = absurd (up_several e)

      -- the bridge's record
      module _ (k : ℕ) (is_k : q ≡ Bridge k) where
        pub bridge_inside : k < length (entries_of s)
        bridge_inside = (told.whole k is_k).inside

        abbrev b : Node
        b = node_of (k + 1) (entry_of (part_at s k))

        leads_here : LeadsTo at ns b
        leads_here =
            let e = entry_of (part_at s k) in
            let leads = leads_of_parent root (entries_of s) at e (told.same ∙ rw is_k) in
            let both = (and-eq-true_iff (bridges e) (eqb e.secondary at)).0 leads in
            record {
              in_sheet = node_index s c.checked.framed k bridge_inside;
              is_bridge_lem = both.0;
              leads = eqb-true e.secondary at both.1;
            }

        step : above root ns at ≡ b ∷ above root ns b.bus
        step =
            above_on at r.on.0 r.on.2
            ∙ above_bridge c.rise c.tree r.on.0 r.on.1 b (rw r.on.2 leads_here)
            ∙ ap (λ (n : ℕ). b ∷ above n ns b.bus) c.root_is

        bus_below : b.bus < at
        bus_below =
            let l = leads_here in
            let rises = all_elim _ ns c.rise l.in_sheet l.is_bridge_lem in
            omega (arith, rises.own_below, l.leads)

        pub up_few : count < 255
        up_few = omega (arith, r.few, r.counted, ap length step)

        module _ (p : List ℕ) (is_p : p ≡ part_at s k) where
          bus_is : (next : ℕ) → next ≡ bus_of p → next ≡ b.bus
          bus_is next e = e ∙ ap bus_of is_p ∙ bus_of_part (part_at s k)

          pub up_less : (next : ℕ) → next ≡ bus_of p → next < at
          up_less next e = omega (arith, bus_is next e, bus_below)

          -- the bridge's own bit, and those above
          enabled_step : (space : Space) (t on : Bool) → on ≡ enables space (command_of p)
              → (t && all_enabled (enabled_of space s) (above root ns at))
              ≡ ((t && on) && all_enabled (enabled_of space s) (above root ns b.bus))
          unfolding all_enabled
          enabled_step space t on e =
              let bit : enabled_of space s (k + 1) ≡ on =
              enabled_index s c.checked.framed space k bridge_inside
              ∙ ap (λ (n : List ℕ). enables space (command_of n)) (sym is_p)
              ∙ sym e in
              ap (λ (bs : List Node). t && all_enabled (enabled_of space s) bs) step
              ∙ ap (λ (o : Bool). t && (o && all_enabled (enabled_of space s) (above root ns b.bus))) bit
              ∙ sym (and_assoc t on (all_enabled (enabled_of space s) (above root ns b.bus)))

          pub up_bridge : (next : ℕ) → next ≡ bus_of p → (m i : Bool) → m ≡ enables Memory (command_of p) → i ≡ enables Io (command_of p)
              → CountedTo s root bus next (count + 1) (memory && m) (io && i)
          up_bridge next e m i em ei =
              rw (bus_is next e)
              (record {
                on = (b, leads_here.in_sheet, refl);
                few = r.few;
                counted = omega (arith, r.counted, ap length step);
                all_memory = sym (enabled_step Memory memory m em) ∙ r.all_memory;
                all_io = sym (enabled_step Io io i ei) ∙ r.all_io;
              })
