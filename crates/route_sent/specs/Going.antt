-- How a packet goes that starts at a function and is no request: by ID, or only up; and where the search ends, as the walk has it. Assumes
-- nothing.
use Rattle.std.specs.Prelude.{Bool, List, ℕ, ◌+◌, ◌/◌}
use Rattle.walk.specs.Registers.{Node}
use Rattle.walk.specs.Tally.{Tally}
use Rattle.walk.specs.Climb as climb
use Rattle.walk.specs.Climb.{Sent, climb_from}
use Rattle.climb_ids.specs.ById.{up_unless, buses_hold, never, nothing}
use Rattle.climb_ids.proofs.ByIdLaws as ids
use Rattle.sheet_record.specs.Entry.{entry_of}
use Rattle.sheet_record.specs.Spaces.{node_of}
use Rattle.sheet.specs.Sheet.{part_at}
use Rattle.sheet.specs.Spaces.{nodes_of}
use Rattle.claims.specs.declared.Aim.TheVariants.{Id}
use Rattle.claims.specs.Claims.{tally_for}
-- where a search ends, as for card to card
pub use Rattle.route_cards.specs.Search.{up_of, sent_of}
use Rattle.route_sent.specs.declared.climb.Going.{Going}
use Rattle.route_sent.specs.declared.climb.Going.TheVariants.{ById, OnlyUp}

-- ## How it goes

abbrev pub tally_going : Going → List ℕ → ℕ → Tally
tally_going (ById id) s = tally_for (Id id) s
tally_going OnlyUp s = nothing

-- the bridges that do not let it past on its way up
abbrev pub stays_going : Going → Node → Bool
stays_going (ById id) = buses_hold (id / 256)
stays_going OnlyUp = never

abbrev pub up_going : Going → List ℕ → ℕ → ℕ → climb.Up
up_going going s top = up_unless (stays_going going) (nodes_of s) top

-- from a bus on, with so many bridges crossed
abbrev pub climbed : Going → List ℕ → ℕ → ℕ → ℕ → Sent
climbed going s top bus crossed = climb_from (tally_going going s) (up_going going s top) bus crossed

-- ## Records, from 0

abbrev pub node_in : List ℕ → ℕ → Node
node_in s k = node_of (k + 1) (entry_of (part_at s k))

-- the function with this record number is in the sheet and has this ID
abbrev pub IsSender : List ℕ → ℕ → ℕ → Type 0
IsSender s number own = ids.Sender (nodes_of s) number own
