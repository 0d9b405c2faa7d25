-- Document 01, "The walk", in its order: 40 where there are no functions, 42, and then what a packet is looked for by. With document 02,
-- E1: 43 where 42 is, and the messages that go to every function or end at the port. Over any number of functions, root bus and outcome
-- by what the packet is looked for by: one definition for all who route. Assumes nothing.
use Rattle.std.specs.Prelude.{ℕ, ◌≡◌, cond, eqb}
use Rattle.packet.specs.declared.Packet.{Packet}
use Rattle.walk.specs.Walk.{Outcome, delivered, refused, no_owner}
use Rattle.claims.specs.declared.Aim.{Aim}
use Rattle.route_arrival.specs.declared.Heading.{Heading}
use Rattle.route_arrival.specs.declared.Heading.TheVariants.{Aimed, Up, Every, Port as ToPort}
use Rattle.route_arrival.specs.Arrival.{heading_of, type_wrong, arrived}
use Rattle.route_answer.specs.declared.Delivery.{Delivery}
use Rattle.route_answer.specs.declared.Routing.{Routing}
use Rattle.route_answer.specs.declared.Routing.TheVariants.{Delivered, Broadcast, Port, Refused}
use Rattle.route_answer.specs.declared.Next.{Next}
use Rattle.route_answer.specs.declared.Next.TheVariants.{Aimed as LookedFor, Answered}

-- document 01's number of a routing
abbrev pub number_of : Routing → ℕ
number_of (Delivered d) = 0
number_of (Broadcast functions p) = 0
number_of (Port p) = 0
number_of (Refused n) = n

abbrev pub wrong_type : ℕ
wrong_type = 42

-- a message that only travels up
abbrev pub only_up : ℕ
only_up = 43

-- ## Looked for

-- the packet at the function with this record number, after so many bridges
abbrev pub arrives : Packet → ℕ → ℕ → Delivery
arrives p number crossed = record { owner = number; bridges = crossed; packet = arrived p }

abbrev pub answer : Packet → Outcome → Routing
answer p (delivered number crossed) = Delivered (arrives p number crossed)
answer p (refused n) = Refused n

-- ## The checks before it

-- 43, the outcome, every function, or the port
abbrev pub headed_over : ℕ → (Aim → Outcome) → Heading → Packet → Routing
headed_over functions outcome (Aimed aim) p = answer p (outcome aim)
headed_over functions outcome Up p = Refused only_up
headed_over functions outcome Every p = Broadcast functions p
headed_over functions outcome ToPort p = Port p

-- 42 before the outcome; 43 at the same place: no packet can get both
abbrev pub typed_over : ℕ → ℕ → (Aim → Outcome) → Packet → Routing
typed_over functions bus outcome p = cond (type_wrong bus p) (Refused wrong_type) (headed_over functions outcome (heading_of p) p)

-- 40 where there are no functions before 42
abbrev pub route_over : ℕ → ℕ → (Aim → Outcome) → Packet → Routing
route_over functions bus outcome p = cond (eqb functions 0) (Refused no_owner) (typed_over functions bus outcome p)

-- ## What is left of a packet after the checks

abbrev pub answer_by : (Aim → Outcome) → Packet → Next → Routing
answer_by outcome p (LookedFor aim) = answer p (outcome aim)
answer_by outcome p (Answered r) = r

-- whatever it is looked for in
abbrev pub Goes : Packet → ℕ → ℕ → Next → Type 0
Goes p functions bus o = (outcome : Aim → Outcome) → answer_by outcome p o ≡ route_over functions bus outcome p
