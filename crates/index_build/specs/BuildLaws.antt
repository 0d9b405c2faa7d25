-- The build in the words of the code: one law for each answer, whichever verdict was asked. Assumes nothing.
use Rattle.std.specs.Prelude.{List, ℕ}
use Rattle.sheet.specs.Sheet.{entries_of}
use Rattle.sheet.proofs.SheetLaws.{Checked}
use Rattle.sheet_above.specs.Table.{Leads}
use Rattle.sheet_above.specs.Bridges.{BusTree}

-- a checked sheet whose buses are a tree below the root bus
pub record Rooted (s : List ℕ) (root : ℕ) : Type 0 where
  pub checked : Checked s
  pub tree : (table : List ℕ) → Leads (entries_of s) table → BusTree s table root
