-- A good sheet, told by bus numbers and register values alone, beyond checks 20 to 29: bus ranges, then BARs and open windows, lie within
-- their parent's, and siblings are apart. Command words do not appear. Each part is a record of its own, named by the number that document
-- 02 gives its refusal. Assumes nothing.
use Rattle.std.specs.Prelude.{◌≡◌, ◌⊎◌, true, List, [], ◌∷◌, ℕ, suc, ◌≤◌, ◌<◌}
use Rattle.lists.specs.Lists.{All, Some, Pairwise}
use Rattle.walk.specs.Ranges.{Range, buses, Inside, Within, Apart}
use Rattle.walk.specs.Registers.{Node, Registers, nodes, Item, items}
use Rattle.walk.specs.Above.{bridges_to}

-- The host: its bus numbers, the first of which is the root bus, and its open pools.
pub record Host : Type 0 where
  pub first : ℕ
  pub last : ℕ
  pub pools : List Range

abbrev pub host_buses : Host → Range
host_buses h = record { pool = buses; start = h.first; stop = suc h.last }

-- Check 27, of a bridge: the buses that it leads to come after its own.
pub record Rises (n : Node) : Type 0 where
  pub own_below : n.bus < n.secondary
  pub range_open : n.secondary ≤ n.subordinate
  pub last_is_byte : n.subordinate < 256

abbrev pub BridgesRise : List Node → Type 0
BridgesRise ns = All (λ n. n.bridge ≡ true → Rises n) ns

abbrev pub bus_range : Node → Range
bus_range n = record { pool = buses; start = n.secondary; stop = suc n.subordinate }

abbrev pub FirstOn : ℕ → List Node → Type 0
FirstOn root [] = Unit {0}
FirstOn root (n ∷ ns) = n.bus ≡ root

-- On the root bus, or on the secondary bus of exactly one bridge.
abbrev pub OneWayUp : ℕ → List Node → Node → Type 0
OneWayUp root ns n = (n.bus ≡ root) ⊎ ((b : Node) × (bridges_to n.bus ns ≡ b ∷ []))

abbrev pub SiblingsApart : Node → Node → Type 0
SiblingsApart n m = n.bridge ≡ true → m.bridge ≡ true → n.bus ≡ m.bus → Apart (bus_range n) (bus_range m)

-- Refusal 50.
pub record Tree (host : Host) (ns : List Node) : Type 0 where
  pub first_on_root : FirstOn host.first ns
  pub one_way_up : All (OneWayUp host.first ns) ns
  pub in_host : All (λ n. n.bridge ≡ true → Inside (bus_range n) (host_buses host)) ns
  pub in_parent : All (λ b. b.bridge ≡ true → All (λ n. n.bridge ≡ true → n.bus ≡ b.secondary → Inside (bus_range n) (bus_range b)) ns) ns
  pub siblings_apart : Pairwise SiblingsApart ns

-- What is on the bus below a bridge lies in one of the bridge's windows: of its own pool where Lies is Inside, of any where it is Within.
abbrev pub InWindowOf : (Range → Range → Type 0) → Registers → Item → Type 0
InWindowOf Lies b i = i.owner.node.bus ≡ b.node.secondary → Some (Lies i.range) b.windows

abbrev pub InWindowAbove : (Range → Range → Type 0) → List Registers → Type 0
InWindowAbove Lies fs = All (λ b. b.node.bridge ≡ true → All (InWindowOf Lies b) (items fs)) fs

pub record NestedBy (Lies : Range → Range → Type 0) (host : Host) (fs : List Registers) : Type 0 where
  pub in_pool_lem : All (λ i. i.owner.node.bus ≡ host.first → Some (Lies i.range) host.pools) (items fs)
  pub in_window_above : InWindowAbove Lies fs

-- Refusal 51.
abbrev pub Nested : Host → List Registers → Type 0
Nested = NestedBy Inside

abbrev pub ApartOnBus : Item → Item → Type 0
ApartOnBus i j = i.owner.node.bus ≡ j.owner.node.bus → Apart i.range j.range

-- Refusal 52.
pub record Disjoint (fs : List Registers) : Type 0 where
  pub apart_on_bus : Pairwise ApartOnBus (items fs)

pub record Good (host : Host) (fs : List Registers) : Type 0 where
  pub bridges_rise : BridgesRise (nodes fs)
  pub tree : Tree host (nodes fs)
  pub nested : Nested host fs
  pub disjoint : Disjoint fs

-- What delivery needs of it: all but the pools. So it also covers the walk by ID, whose ranges are of bus numbers, and sheets whose
-- memory BARs lie in a memory window of another kind.
pub record Sound (host : Host) (fs : List Registers) : Type 0 where
  pub bridges_rise : BridgesRise (nodes fs)
  pub tree : Tree host (nodes fs)
  pub in_window_above : InWindowAbove Within fs
  pub disjoint : Disjoint fs
