-- The places of a record that a finding names, and nobody. A BAR slot is its own number, 0 to 5. Assumes nothing.
use Rattle.std.specs.Prelude.{Bool, cond, ℕ, Option, Some, None, eqb}
use Rattle.pools.specs.declared.Pool.{Pool}
use Rattle.pools.specs.declared.Pool.TheVariants.{Low, High, Io}
use Rattle.finding.specs.declared.Party.{Party}
use Rattle.finding.specs.declared.Parties.{Parties}
use Rattle.finding.specs.declared.Wrong.{Wrong}

-- the low, the high and the I/O window
abbrev pub window_place : Pool → ℕ
window_place Low = 6
window_place High = 7
window_place Io = 8

abbrev pub bus_registers : ℕ
bus_registers = 9

-- the ID, and so the function as a whole
abbrev pub function_id : ℕ
function_id = 10

abbrev pub nobody : Party
nobody = record { number = 0; place = 0 }

abbrev pub nobodies : Parties
nobodies = record { party = nobody; other = nobody }

-- a place of the record with this number, and nobody where the number is 0
abbrev pub party_at : ℕ → ℕ → Party
party_at number place = cond (eqb number 0) nobody (record { number = number; place = place })

-- what a check says of one record: nothing where it is right
abbrev pub Spot : Type 0
Spot = Option Wrong

abbrev pub right : Spot
right = None

abbrev pub wrong_at : ℕ → Party → Spot
wrong_at place other = Some (record { place = place; other = other })

-- wrong at a place, and nobody else has to do with it
abbrev pub wrong_if : Bool → ℕ → Spot
wrong_if b place = cond b (wrong_at place nobody) right
