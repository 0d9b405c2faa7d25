-- What is answered of the bridge above a bus, by its record; and the bridges above all buses as a table by number. Assumes nothing.
use Rattle.std.specs.Prelude.{◌≡◌, true, cond, List, ℕ, ◌-◌, ◌<◌, eqb, length, get_or, set}
use Rattle.sheet_record.specs.Entry.{Entry, entry_of, header_of, is_bridge, bridges}
use Rattle.sheet.specs.Sheet.{entries_of, part_at}
use Rattle.sheet.proofs.SheetLaws.{Checked}
use Rattle.sheet_above.specs.Parents as rule
use Rattle.sheet_above.specs.Parents.{several, joined, leader_of, parent_of}
use Rattle.sheet_above.specs.declared.Parent.{Parent}
use Rattle.sheet_above.specs.declared.Parent.TheVariants.{Host, Bridge, Nothing, Several}

-- ## Who stands above, by the bridge's record, from 0

abbrev pub parent_in : List ℕ → Parent → rule.Parent
parent_in s Host = rule.under_host
parent_in s (Bridge k) = rule.under_bridge (entry_of (part_at s k))
parent_in s Nothing = rule.under_none
parent_in s Several = rule.under_several

pub record BridgeAt (s : List ℕ) (k : ℕ) : Type 0 where
  pub inside : k < length (entries_of s)
  pub is_bridge_lem : is_bridge (header_of (part_at s k)) ≡ true

-- both ways to it answer this
pub record IsParent (s : List ℕ) (root bus : ℕ) (r : Parent) : Type 0 where
  pub same : parent_of root (entries_of s) bus ≡ parent_in s r
  pub whole : (k : ℕ) → r ≡ Bridge k → BridgeAt s k

-- what a bus's number says below the root bus
abbrev pub told_by : ℕ → Parent
told_by n = cond (eqb n 0) Nothing (cond (eqb n several) Several (Bridge (n - 1)))

-- ## The table

abbrev pub buses : ℕ
buses = 256

-- every bus has its leader's number
pub record Leads (es : List Entry) (table : List ℕ) : Type 0 where
  pub size : length table ≡ buses
  pub leader : (bus : ℕ) → bus < buses → get_or table bus 0 ≡ leader_of es bus

-- with one record more
unfoldable pub with_record : ℕ → Entry → List ℕ → List ℕ
with_record number e table = cond (bridges e) (set table e.secondary (joined (get_or table e.secondary 0) number)) table

-- of every checked sheet whose table it is
abbrev pub Tells : List ℕ → ℕ → ℕ → Parent → Type 0
Tells table root bus r = (s : List ℕ) → Checked s → Leads (entries_of s) table → IsParent s root bus r
