-- The walk over a sheet's own registers. Assumes nothing.
use Rattle.std.specs.Prelude.{List, ℕ}
use Rattle.pools.specs.declared.Space.{Space}
use Rattle.walk.specs.Registers.{root_of}
use Rattle.walk.specs.Tally.{tally_on}
use Rattle.walk.specs.Walk.{Outcome, walk_from}
use Rattle.sheet.specs.Spaces.{registers_of, nodes_of, enabled_of}

-- what a request with this start address comes to on a sheet: the walk starts on the bus of the first record
abbrev pub sheet_outcome : Space → List ℕ → ℕ → Outcome
sheet_outcome space s address = walk_from (tally_on (enabled_of space s) (registers_of space s) address) (root_of (nodes_of s)) 0
