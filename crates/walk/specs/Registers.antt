-- What the walk reads of a sheet in one address space, in record order: where each function stands, its BARs and its open windows. The
-- command words are kept apart, as a function from a record's number to the space's bit: what is said of the registers then holds whatever
-- the command words say. Assumes nothing.
use Rattle.std.specs.Prelude.{Bool, false, cond, ◌≡◌, ℕ, pred, ◌+◌, get_or}
use mathlib.Core.List.{List, [], ◌∷◌, ◌++◌, map, flat_map}
use Rattle.walk.specs.Ranges.{Range}

-- Where a function stands on the buses, the same in every address space: the record's number, from 1; the function's ID, as its bus and its
-- device/function byte; and the buses that a bridge leads to.
pub record Node : Type 0 where
  pub number : ℕ
  pub bus : ℕ
  pub devfn : ℕ
  pub bridge : Bool
  pub secondary : ℕ
  pub subordinate : ℕ

-- One function in one address space: its BARs in slot order, and its open windows (low before high). Only a bridge's windows count.
pub record Registers : Type 0 where
  pub node : Node
  pub bars : List Range
  pub windows : List Range

abbrev pub nodes : List Registers → List Node
nodes fs = map (λ (f : Registers). f.node) fs

-- the windows that a function has: none where it is no bridge
abbrev pub open_windows : Registers → List Range
open_windows f = cond f.node.bridge f.windows []

-- What one claim says: a BAR of the record with this number, or a window of that record, to this secondary bus.
pub data Claim : Type 0 where
  bar : ℕ → Claim
  window : ℕ → ℕ → Claim

-- A BAR or an open window with its function and with what it claims.
pub record Item : Type 0 where
  pub owner : Registers
  pub range : Range
  pub claim : Claim

abbrev pub bar_item : Registers → Range → Item
bar_item f r = record { owner = f; range = r; claim = bar f.node.number }

abbrev pub window_item : Registers → Range → Item
window_item f r = record { owner = f; range = r; claim = window f.node.number f.node.secondary }

-- slots before windows
unfoldable pub items_of : Registers → List Item
items_of f = map (bar_item f) f.bars ++ map (window_item f) (open_windows f)

unfoldable pub items : List Registers → List Item
items fs = flat_map items_of fs

-- The walk starts on the bus of the first record.
abbrev pub root_of : List Node → ℕ
root_of [] = 0
root_of (n ∷ ns) = n.bus

-- Command bits in record order, by the record's number.
unfoldable pub enabled_in : List Bool → ℕ → Bool
enabled_in bits number = get_or bits (pred number) false

-- Record numbers count up along the sheet.
unfoldable pub NumberedFrom : ℕ → List Registers → Type 0
NumberedFrom k [] = Unit {0}
NumberedFrom k (f ∷ fs) = (f.node.number ≡ k) × NumberedFrom (k + 1) fs
