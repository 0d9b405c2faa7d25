-- What a search by address asks of one record, by the record's part. Assumes nothing.
use Rattle.std.specs.Prelude.{Bool, ◌&&◌, List, ℕ, eqb}
use Rattle.pools.specs.declared.Pool.{Pool}
use Rattle.pools.specs.declared.Space.{Space}
use Rattle.walk.specs.Registers.{window, Claim, open_windows}
use Rattle.walk.specs.Tally.{hits_of}
use Rattle.sheet_record.specs.Spaces.{function_of, enables, open_range}
use Rattle.sheet_record.specs.Entry.{bus_of, command_of, entry_of, secondary_of, window_of}
use Rattle.pools.specs.declared.Pool.{Pool}

-- a function of this bus whose space is enabled
abbrev pub is_live : Space → ℕ → List ℕ → Bool
is_live space bus p = eqb (bus_of p) bus && enables space (command_of p)

-- the claim of one window of the bridge with this number, if it holds the address
abbrev pub window_claim : Pool → ℕ → ℕ → List ℕ → List Claim
window_claim q address k p = hits_of address (window k (secondary_of p)) (open_range q (window_of q p))

-- the claims of all windows of the function with this number
abbrev pub window_claims : Space → ℕ → ℕ → List ℕ → List Claim
window_claims space address k p = hits_of address (window k (entry_of p).secondary) (open_windows (function_of space k (entry_of p)))
