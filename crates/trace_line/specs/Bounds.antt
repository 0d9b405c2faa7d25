-- Every number that stands in a label is small, by either finder: a refusal has at most three digits, a record number two bytes. Assumes
-- nothing.
use Rattle.std.specs.Prelude.{ℕ, ◌<◌, List, length}
use Rattle.std.proofs.Common.{arith}
use Rattle.refusals.specs.Refusals.{IsRefusal}
use Rattle.packet.specs.declared.Packet.{Packet}
use Rattle.sheet.proofs.SheetLaws.{Checked}
use Rattle.sheet.specs.Spaces.{nodes_of}
use Rattle.walk.specs.Walk.{Outcome, delivered, refused}
use Rattle.walk.proofs.NumberLaws.{walk_elim}
use Rattle.claims.specs.declared.Aim.{Aim}
use Rattle.claims.specs.Claims.{tally_for}
use Rattle.claims.specs.RecordLaws.{claim_in_sheet}
use Rattle.route_answer.specs.declared.Routing.{Routing}
use Rattle.route_answer.specs.declared.Routing.TheVariants.{Delivered, Broadcast, Port, Refused}
use Rattle.route_answer.specs.Routing.{answer, route_over}
use Rattle.route_answer.proofs.NumberLaws.{over_elim}
use Rattle.route.specs.Route.{walked, root, from42, route_packet}
use Rattle.route.proofs.NumberLaws.{route_elim}
use Rattle.index_search.specs.Search.{functions_in, root_in, outcome_over, search_packet}
use Rattle.index_search.specs.NumberLaws.{outcome_elim, search_elim}
use Rattle.trace_line.specs.declared.Finder.{Finder}
use Rattle.trace_line.specs.declared.Finder.TheVariants.{Sheet, Index}
use Rattle.trace_line.specs.Finder.{routing_by}

abbrev pub Small : ℕ → Type 0
Small n = n < 1000

small_refusal : (n : ℕ) → IsRefusal n → Small n
small_refusal n h = omega (arith, h.1)

-- ## Where a packet is looked for

abbrev SmallOutcome : Outcome → Type 0
SmallOutcome (delivered number crossed) = number < 65536
SmallOutcome (refused n) = Small n

abbrev pub SmallRouting : Routing → Type 0
SmallRouting (Delivered d) = d.owner < 65536
SmallRouting (Broadcast functions p) = Unit {0}
SmallRouting (Port p) = Unit {0}
SmallRouting (Refused n) = Small n

small_answer : (p : Packet) (o : Outcome) → SmallOutcome o → SmallRouting (answer p o)
small_answer p (delivered number crossed) h = h
small_answer p (refused n) h = h

small_over : (functions bus : ℕ) (outcome : Aim → Outcome) → ((aim : Aim) → SmallOutcome (outcome aim)) → (p : Packet)
    → SmallRouting (route_over functions bus outcome p)
small_over functions bus outcome small p =
    over_elim SmallRouting functions bus outcome p small_refusal tt tt (λ aim. small_answer p (outcome aim) (small aim))

-- ## Either finder

small_walk : (s : List ℕ) → Checked s → (aim : Aim) → SmallOutcome (walked aim s (root s) 0)
small_walk s c aim =
    walk_elim SmallOutcome (tally_for aim s) (omega arith) (omega arith)
    (λ bus number crossed e. omega (arith, claim_in_sheet s aim bus number e, c.count)) (root s) 0

small_packet : (s : List ℕ) → Checked s → (p : Packet) → SmallRouting (route_packet p s)
unfolding route_packet from42
small_packet s c p = small_over (length (nodes_of s)) (root s) (λ aim. walked aim s (root s) 0) (small_walk s c) p

small_by_index : (ix : List ℕ) (p : Packet) → SmallRouting (search_packet p ix)
unfolding search_packet
small_by_index ix p =
    let n = functions_in ix in
    small_over n (root_in ix) (λ aim. outcome_over ix n aim) (outcome_elim SmallOutcome ix n (omega arith) (λ word. omega arith)) p

pub small_routing : (finder : Finder) (bytes header : List ℕ) → SmallRouting (routing_by finder bytes header)
unfolding routing_by
small_routing (Sheet number) bytes header = route_elim SmallRouting header bytes small_refusal (λ p c. small_packet bytes c p)
small_routing Index bytes header = search_elim SmallRouting header bytes small_refusal (small_by_index bytes)
