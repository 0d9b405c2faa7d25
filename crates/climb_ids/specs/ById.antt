-- Document 03, E15: a packet that starts at a function and goes by ID, a completion or a message 010; and a message that only travels up,
-- 000 or 101. It is document 02's climb (`climb_beside` of walk) with another tally of each bus and another way up. Assumes nothing.
use Rattle.std.specs.Prelude.{Bool, false, cond, not, ◌&&◌, List, [], ◌∷◌, ◌++◌, map, ℕ, suc, ◌/◌, ◌%◌, eqb}
use Rattle.lists.specs.Lists.{keep}
use Rattle.walk.specs.Ranges.{holds}
use Rattle.walk.specs.Registers.{Node}
use Rattle.walk.specs.Tally.{Tally, none, join}
use Rattle.walk.specs.Walk.{no_owner, contested}
use Rattle.walk.specs.Above.{bridges_to}
use Rattle.walk.specs.Good.{bus_range}
use Rattle.walk.specs.Ids.{has_id, leads_toward, function_claim, bridge_claim, tally_by_id}
use Rattle.walk.specs.Climb.{Up, to_host, across, halts, Sent, stops, climb_from, climb_beside}

-- ## Who may claim, on each bus from the sender's on

-- "another function with that ID on that bus claims it": one with another record number than the sender's
abbrev pub function_may_claim : ℕ → ℕ → ℕ → ℕ → Node → Bool
function_may_claim target devfn start bus n = eqb n.bus bus && (has_id target devfn n && not (eqb n.number start))

-- "or a bridge other than the one just come through whose buses (secondary to subordinate) hold the ID's bus"
abbrev pub bridge_may_claim : ℕ → ℕ → ℕ → Node → Bool
bridge_may_claim target came bus n = leads_toward target bus n && not (eqb n.number came)

-- "Two claims on one bus are 41.": all of them counted. "Arriving on the bus above, the bridge come through may claim by its own ID."
unfoldable pub tally_beside_by_id : List Node → ℕ → ℕ → ℕ → ℕ → ℕ → Tally
tally_beside_by_id ns target devfn start came bus =
    join none (map function_claim (keep (function_may_claim target devfn start bus) ns) ++ map bridge_claim
    (keep (bridge_may_claim target came bus) ns))

-- ## The way up

-- "With no claim it goes up through the bridge above (none 40, two 41), unless ..; then 40."
abbrev pub up_past : (Node → Bool) → List Node → Up
up_past stays [] = halts no_owner
up_past stays (b ∷ []) = cond (stays b) (halts no_owner) (across b.number b.bus)
up_past stays (b ∷ c ∷ bs) = halts contested

-- "From the root bus it goes to the host."
unfoldable pub up_unless : (Node → Bool) → List Node → ℕ → ℕ → Up
up_unless stays ns root bus = cond (eqb bus root) to_host (up_past stays (bridges_to bus ns))

-- ".. unless that bridge's buses hold the ID's bus"
abbrev pub buses_hold : ℕ → Node → Bool
buses_hold target b = holds (bus_range b) target

abbrev pub never : Node → Bool
never b = false

-- ## From the function with this record number and this ID. "An ID is bus 8, device 5, function 3 bits."

-- by ID, "from a bridge's claim on, document 01's walk decides"
unfoldable pub climb_by_id : List Node → ℕ → ℕ → ℕ → ℕ → Sent
climb_by_id ns root number own id =
    climb_beside (tally_by_id ns (id / 256) (id % 256)) (up_unless (buses_hold (id / 256)) ns root)
    (tally_beside_by_id ns (id / 256) (id % 256) number) (suc (own / 256)) 0 (own / 256) 0

-- "For the sender's own ID they are 40. Else on each bus from the sender's on, .."
unfoldable pub sent_to_other : List Node → ℕ → ℕ → ℕ → ℕ → Sent
sent_to_other ns root number own id = cond (eqb id own) (stops no_owner) (climb_by_id ns root number own id)

-- on no bus does anything claim
abbrev pub nothing : ℕ → Tally
nothing bus = none

-- "Messages 000 and 101 go up to the host, .., past all bridges above the sender (a bus with no bridge above 40, with two 41)"
unfoldable pub sent_up : List Node → ℕ → ℕ → Sent
sent_up ns root own = climb_from nothing (up_unless never ns root) (own / 256) 0

-- "A completion, and a message 010, go by ID. For the host's own ID they go up to the host as 000 does.", whoever else has that ID
unfoldable pub sent_by_id : ℕ → List Node → ℕ → ℕ → ℕ → ℕ → Sent
sent_by_id host_id ns root number own id = cond (eqb id host_id) (sent_up ns root own) (sent_to_other ns root number own id)
