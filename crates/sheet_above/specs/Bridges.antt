-- What a packet's delivery takes of the bridges above a bus: how many there are, and whether all of them are enabled. Assumes nothing.
use Rattle.std.specs.Prelude.{◌≡◌, Bool, true, ◌&&◌, List, [], ◌∷◌, ℕ, length}
use Rattle.lists.specs.Lists.{◌∈◌}
use Rattle.pools.specs.declared.Space.TheVariants.{Memory, Io}
use Rattle.walk.specs.Registers.{Node}
use Rattle.walk.specs.Above.{above}
use Rattle.walk.specs.Good.{Host, BridgesRise, Tree}
use Rattle.sheet.specs.Sheet.{entries_of}
use Rattle.sheet.proofs.SheetLaws.{Checked}
use Rattle.sheet.specs.Spaces.{nodes_of, enabled_of}
use Rattle.sheet_above.specs.Table.{Leads}
use Rattle.sheet_above.specs.declared.Bridges.{Bridges}

unfoldable pub all_enabled : (ℕ → Bool) → List Node → Bool
all_enabled enabled [] = true
all_enabled enabled (b ∷ bs) = enabled b.number && all_enabled enabled bs

abbrev pub bridges_in : List ℕ → List Node → Bridges
bridges_in s bs = record { count = length bs; memory = all_enabled (enabled_of Memory s) bs; io = all_enabled (enabled_of Io s) bs }

abbrev pub bridges_over : List ℕ → ℕ → ℕ → Bridges
bridges_over s root bus = bridges_in s (above root (nodes_of s) bus)

-- a sheet whose buses are a tree below the root bus, with the table of its leaders
pub record BusTree (s table : List ℕ) (root : ℕ) : Type 0 where
  pub checked : Checked s
  pub rise : BridgesRise (nodes_of s)
  pub leads : Leads (entries_of s) table
  pub host : Host
  pub root_is : host.first ≡ root
  pub tree : Tree host (nodes_of s)

abbrev pub OnBus : List ℕ → ℕ → Type 0
OnBus s bus = (x : Node) × (x ∈ nodes_of s) × (x.bus ≡ bus)
