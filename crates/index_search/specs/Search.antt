-- Document 02, E8: what becomes of a header by an index, on any bytes: the router's answers in the router's order, with the index's number
-- of functions, its root bus and what its slots say in place of the sheet's. Nothing of an index is checked but its length. Assumes
-- nothing.
use Rattle.std.specs.Prelude.{ℕ, cond, List, length, get_or, eqb, ltb}
use Rattle.endian.specs.Endian.{le}
use Rattle.packet.specs.declared.Packet.{Packet}
use Rattle.tlp.specs.declared.Reading.{Reading}
use Rattle.tlp.specs.declared.Reading.TheVariants.{Accepted, Refused as NotRead}
use Rattle.tlp.specs.Reading.{read_of}
use Rattle.walk.specs.Walk.{Outcome, delivered, refused, no_owner}
use Rattle.claims.specs.declared.Aim.{Aim}
use Rattle.route_answer.specs.declared.Routing.{Routing}
use Rattle.route_answer.specs.declared.Routing.TheVariants.{Refused}
use Rattle.route_answer.specs.Routing.{route_over}
use Rattle.index_rule.specs.Owners.{key_of, in_reach}
use Rattle.index_rule.specs.Search.{answer_at}
use Rattle.index_layout.specs.Places.{index_size, functions_place, root_place}
use Rattle.index_layout.specs.Keys.{segment_of}
use Rattle.index_layout.specs.Words.{record_in, bridges_in}
use Rattle.index_slots.specs.Slots.{key_at, word_at}
use Rattle.index_table.specs.Search.{found_at}

-- ## An index's first bytes

-- a slice shorter than it says has no functions
unfoldable pub functions_in : List ℕ → ℕ
functions_in ix = cond (ltb (length ix) (index_size (le 2 ix functions_place))) 0 (le 2 ix functions_place)

abbrev pub root_in : List ℕ → ℕ
root_in ix = get_or ix root_place 0

-- ## Its slots, n functions' worth

-- what the slot at the position found says of a key
unfoldable pub answer_over : List ℕ → ℕ → ℕ → Outcome
answer_over ix n key = let p = found_at ix n (segment_of key) key in answer_at (key_at ix n p) (word_at ix n p) key

-- what a slot's word says: without a record it is nobody's
abbrev pub outcome_by : ℕ → Outcome
outcome_by word = cond (eqb (record_in word) 0) (refused no_owner) (delivered (record_in word) (bridges_in word))

-- an address that no owner can have is not looked for
unfoldable pub outcome_over : List ℕ → ℕ → Aim → Outcome
outcome_over ix n aim = cond (in_reach aim) (answer_over ix n (key_of aim)) (refused no_owner)

abbrev pub outcome_in : List ℕ → Aim → Outcome
outcome_in ix aim = outcome_over ix (functions_in ix) aim

-- ## A packet, and a header

unfoldable pub search_packet : Packet → List ℕ → Routing
search_packet p ix = route_over (functions_in ix) (root_in ix) (λ aim. outcome_in ix aim) p

-- only a header that was accepted is taken further
abbrev pub from_reading : Reading → List ℕ → Routing
from_reading (Accepted p) ix = search_packet p ix
from_reading (NotRead n) ix = Refused n

unfoldable pub search_of : List ℕ → List ℕ → Routing
search_of header ix = from_reading (read_of header) ix
