-- Document 01, "The walk": the tally of a packet's claims on a bus of a sheet, by its start address or by ID. Assumes nothing.
use Rattle.std.specs.Prelude.{Bool, true, false, List, ℕ, ◌/◌, ◌%◌}
use Rattle.walk.specs.Registers as registers
use Rattle.walk.specs.Tally as tallies
use Rattle.walk.specs.Tally.{tally_on}
use Rattle.walk.specs.Ids.{tally_by_id}
use Rattle.sheet.specs.Spaces.{registers_of, nodes_of, enabled_of}
use Rattle.claims.specs.declared.Aim.{Aim}
use Rattle.claims.specs.declared.Aim.TheVariants.{Address, Id}
use Rattle.claims.specs.declared.Claim.{Claim}
use Rattle.claims.specs.declared.Claim.TheVariants.{Bar, Window}
use Rattle.claims.specs.declared.Tally.{Tally}
use Rattle.claims.specs.declared.Tally.TheVariants.{Nothing, One, Several}

-- what the code counts, as the walk has it
abbrev pub claim_of : Claim → registers.Claim
claim_of (Bar n) = registers.bar n
claim_of (Window n secondary) = registers.window n secondary

abbrev pub tally_of : Tally → tallies.Tally
tally_of Nothing = tallies.none
tally_of (One c) = tallies.one (claim_of c)
tally_of Several = tallies.several

-- The tally of each bus. An ID is bus 8, device/function 8.
abbrev pub tally_for : Aim → List ℕ → ℕ → tallies.Tally
tally_for (Address space address) s = tally_on (enabled_of space s) (registers_of space s) address
tally_for (Id id) s = tally_by_id (nodes_of s) (id / 256) (id % 256)

abbrev pub is_several : Tally → Bool
is_several Nothing = false
is_several (One c) = false
is_several Several = true
