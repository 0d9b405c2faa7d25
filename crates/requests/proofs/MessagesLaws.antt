-- E1's sentences are proved, from where the router takes a message to be headed. Assumes nothing.
use Rattle.std.specs.Prelude.{◌≡◌, ◌⊎◌, ◌↔◌, Bool, true, false, cond, List, ℕ, ◌+◌, ◌/◌, ◌^◌, ◌<◌, ◌≤◌, eqb, length, get_or, take, drop}
use Rattle.std.proofs.Math.Path.{refl}
use Rattle.std.proofs.Common.{sym, ap, ◌∙◌, inl, inr, ⊎_elim, suc-ne-zero, arith, take_at, drop_at, le-ltb, lt-ltb}
use Rattle.arith.specs.Order.{eq_or_ne}
use Rattle.pairs.specs.declared.MessageRouting.{MessageRouting}
use Rattle.pairs.specs.declared.MessageRouting.TheVariants.{ToRoot, ByAddress, ById, Broadcast, Local, Gathered}
use Rattle.pairs.specs.Pairs.{table, first, find_pair, pair_of}
use Rattle.packet.specs.declared.Packet.{Packet}
use Rattle.packet.specs.declared.Packet.TheVariants.{Memory, Io, Config, Completion, Message}
use Rattle.packet.proofs.RulesLaws.{rule_number_message}
use Rattle.tlp.specs.declared.Reading.TheVariants.{Accepted, Refused as NotRead}
use Rattle.tlp.specs.Reading.{read_of}
use Rattle.pools.specs.declared.Space.TheVariants.{Memory as memory_space}
use Rattle.walk.specs.Walk.{Outcome, delivered, refused as walk_refused}
use Rattle.sheet.specs.Sheet.{sheet_number}
use Rattle.sheet.specs.Spaces.{nodes_of}
use Rattle.claims.specs.declared.Aim.{Aim}
use Rattle.claims.specs.declared.Aim.TheVariants.{Address, Id}
use Rattle.route_list.specs.CountedLaws.{length_counted, get_d_counted}
use Rattle.route_arrival.specs.declared.Heading.{Heading}
use Rattle.route_arrival.specs.declared.Heading.TheVariants.{Aimed, Up, Every, Port as ToPort}
use Rattle.route_arrival.specs.Arrival.{message_heading, heading_of, type_wrong}
use Rattle.route.specs.Route.{walked, root, on_heading, from42, route_packet, from_sheet, route_of}
use Rattle.route.specs.Listed.{list_of, list_after}
use Rattle.route.proofs.ListedLaws.{list_counted, broadcast_counts}
use Rattle.route_answer.specs.declared.Routing.{Routing}
use Rattle.route_answer.specs.declared.Routing.TheVariants.{Delivered, Broadcast as ToEvery, Port, Refused}
use Rattle.route_answer.specs.Routing.{number_of, answer}
use Rattle.route_answer.specs.Listed.{on_room}
use Rattle.route.proofs.OrderLaws.{route_no_functions, route_wrong_type, route_headed, goes_to_every, goes_to_port, goes_up_iff}
use Rattle.demands.specs.Demand3.{route_number}
use Rattle.requests.specs.Messages.{IsMessage, IsMemoryRequest, IsCompletionFor, ReservedRouting}
use Rattle.requests.specs.Messages.{Place, function, every_function, port}
use Rattle.requests.specs.Messages.{refused, place_of, Populated, Messages}

-- ## Where a packet is headed

heading_of_message : (p : Packet) (routing : MessageRouting) (tail : ℕ) → IsMessage p routing tail
    → (heading_of p ≡ message_heading routing tail) × ((top : ℕ) → type_wrong top p ≡ false)
heading_of_message (Memory k h e a) routing tail is = absurd is
heading_of_message (Io k h e a) routing tail is = absurd is
heading_of_message (Config k h e t) routing tail is = absurd is
heading_of_message (Completion k h o) routing tail is = absurd is
heading_of_message (Message k h r code x) routing tail (same, carried) = (rw (same, carried), λ top. refl)

heading_of_memory : (p : Packet) (address : ℕ) → IsMemoryRequest p address
    → (heading_of p ≡ Aimed (Address memory_space address)) × ((top : ℕ) → type_wrong top p ≡ false)
heading_of_memory (Memory k h e a) address is = (rw is, λ top. refl)
heading_of_memory (Io k h e a) address is = absurd is
heading_of_memory (Config k h e t) address is = absurd is
heading_of_memory (Completion k h o) address is = absurd is
heading_of_memory (Message k h r code x) address is = absurd is

heading_of_completion : (p : Packet) (id : ℕ) → IsCompletionFor p id
    → (heading_of p ≡ Aimed (Id id)) × ((top : ℕ) → type_wrong top p ≡ false)
heading_of_completion (Memory k h e a) id is = absurd is
heading_of_completion (Io k h e a) id is = absurd is
heading_of_completion (Config k h e t) id is = absurd is
heading_of_completion (Completion k h o) id is = (rw is, λ top. refl)
heading_of_completion (Message k h r code x) id is = absurd is

-- ## Two packets with one aim

module _ (header other s : List ℕ) (p q : Packet) (aim : Aim) (read : read_of header ≡ Accepted p) (read_other : read_of other ≡ Accepted q)
    (to : (heading_of p ≡ Aimed aim) × ((top : ℕ) → type_wrong top p ≡ false))
    (to_other : (heading_of q ≡ Aimed aim) × ((top : ℕ) → type_wrong top q ≡ false)) where
  same_place : place_of (route_of header s) ≡ place_of (route_of other s)
  unfolding route_of from_sheet route_packet from42
  same_place =
      rw (read, read_other, to.1 (root s), to_other.1 (root s), to.0, to_other.0)
      (go (eqb (sheet_number s) 0) (eqb (length (nodes_of s)) 0) (walked aim s (root s) 0))
    where
      answered : (o : Outcome) → place_of (answer p o) ≡ place_of (answer q o)
      answered (delivered n bridges) = refl
      answered (walk_refused n) = refl

      go : (passes none : Bool) (o : Outcome)
          → place_of (cond passes (cond none (Refused 40) (answer p o)) (Refused (sheet_number s)))
          ≡ place_of (cond passes (cond none (Refused 40) (answer q o)) (Refused (sheet_number s)))
      go true true o = refl
      go true false o = answered o
      go false none o = refl

-- ## 110 and 111

reserved : (s : List ℕ) → 12 ≤ length s → ReservedRouting (get_or s 0 0) → read_of s ≡ NotRead 2
unfolding read_of pair_of find_pair first table
reserved s long (inl (inl e)) = rw (le-ltb (length s) 12 long, e)
reserved s long (inl (inr e)) = rw (le-ltb (length s) 12 long, e)
reserved s long (inr (inl e)) = rw (le-ltb (length s) 12 long, e)
reserved s long (inr (inr e)) = rw (le-ltb (length s) 12 long, e)

-- ## The list

lists : (s : List ℕ) → (length (list_of s) ≡ length (nodes_of s)) × ((i : ℕ) → i < length (nodes_of s) → get_or (list_of s) i 0 ≡ i + 1)
lists s =
    let n = length (nodes_of s) in
    (rw (list_counted s) (length_counted 1 n), λ i below. rw (list_counted s) (get_d_counted 1 n i below ∙ omega arith))

short_room_lem : (header s list : List ℕ) (n : ℕ) (p : Packet) → route_of header s ≡ ToEvery n p → length list < n
    → let r = on_room (route_of header s) (length list) in (r ≡ Refused 11) × (list_after r s list ≡ list)
short_room_lem header s list n p e below = (rw (e, lt-ltb (length list) n below), rw (e, lt-ltb (length list) n below))

list_starts : (header s list : List ℕ) (n : ℕ) (p : Packet) → route_of header s ≡ ToEvery n p → n ≤ length list
    → let r = on_room (route_of header s) (length list) in
    (r ≡ ToEvery n p) × (take n (list_after r s list) ≡ list_of s) × (drop n (list_after r s list) ≡ drop n list)
list_starts header s list n p e room =
    let size : length (list_of s) ≡ n = (lists s).0 ∙ sym (broadcast_counts header s n p e) in (
      rw (e, le-ltb (length list) n room),
      rw (e, le-ltb (length list) n room) (take_at (list_of s) (drop n list) n size),
      rw (e, le-ltb (length list) n room) (drop_at (list_of s) (drop n list) n size),
    )

-- ## The port, and what only travels up

local_of_heading : (p : Packet) → heading_of p ≡ ToPort → (tail : ℕ) × IsMessage p Local tail
local_of_heading (Memory k h e a) f = absurd (suc-ne-zero 0 (cc))
local_of_heading (Io k h e a) f = absurd (suc-ne-zero 0 (cc))
local_of_heading (Config k h e t) f = absurd (suc-ne-zero 0 (cc))
local_of_heading (Completion k h o) f = absurd (suc-ne-zero 0 (cc))
local_of_heading (Message k h ToRoot code tail) f = absurd (suc-ne-zero 0 (cc))
local_of_heading (Message k h ByAddress code tail) f = absurd (suc-ne-zero 0 (cc))
local_of_heading (Message k h ById code tail) f = absurd (suc-ne-zero 0 (cc))
local_of_heading (Message k h Broadcast code tail) f = absurd (suc-ne-zero 0 (cc))
local_of_heading (Message k h Local code tail) f = (tail, (refl, refl))
local_of_heading (Message k h Gathered code tail) f = absurd (suc-ne-zero 0 (cc))

up_of_heading : (p : Packet) → heading_of p ≡ Up → (tail : ℕ) × (IsMessage p ToRoot tail ⊎ IsMessage p Gathered tail)
up_of_heading (Memory k h e a) f = absurd (suc-ne-zero 0 (cc))
up_of_heading (Io k h e a) f = absurd (suc-ne-zero 0 (cc))
up_of_heading (Config k h e t) f = absurd (suc-ne-zero 0 (cc))
up_of_heading (Completion k h o) f = absurd (suc-ne-zero 0 (cc))
up_of_heading (Message k h ToRoot code tail) f = (tail, inl (refl, refl))
up_of_heading (Message k h ByAddress code tail) f = absurd (suc-ne-zero 0 (cc))
up_of_heading (Message k h ById code tail) f = absurd (suc-ne-zero 0 (cc))
up_of_heading (Message k h Broadcast code tail) f = absurd (suc-ne-zero 0 (cc))
up_of_heading (Message k h Local code tail) f = absurd (suc-ne-zero 0 (cc))
up_of_heading (Message k h Gathered code tail) f = (tail, inr (refl, refl))

module _ (header s : List ℕ) (p : Packet) (read : read_of header ≡ Accepted p) (passes : sheet_number s ≡ 0) where
  -- a sheet without functions is no port
  some_of_port : place_of (route_of header s) ≡ port → ¬ (length (nodes_of s) ≡ 0)
  some_of_port e empty =
      let f : refused 40 ≡ port = sym (ap place_of (route_no_functions header s p read passes empty)) ∙ e in
      suc-ne-zero 0 (cc)

  port_of_answer : place_of (route_of header s) ≡ port → heading_of p ≡ ToPort
  port_of_answer e = by_type (type_wrong (root s) p) refl
    where
      some : ¬ (length (nodes_of s) ≡ 0)
      some = some_of_port e

      by_outcome : (o : Outcome) → ¬ (place_of (answer p o) ≡ port)
      by_outcome (delivered n bridges) f = suc-ne-zero 0 (cc)
      by_outcome (walk_refused n) f = suc-ne-zero 0 (cc)

      by_heading : (h : Heading) → heading_of p ≡ h → place_of (on_heading h p s) ≡ port → heading_of p ≡ ToPort
      by_heading (Aimed aim) f g = absurd (by_outcome (walked aim s (root s) 0) g)
      by_heading Up f g = absurd (suc-ne-zero 0 (cc))
      by_heading Every f g = absurd (suc-ne-zero 0 (cc))
      by_heading ToPort f g = f

      by_type : (b : Bool) → type_wrong (root s) p ≡ b → heading_of p ≡ ToPort
      by_type true wrong =
          let f : refused 42 ≡ port = sym (ap place_of (route_wrong_type header s p read passes some wrong)) ∙ e in
          absurd (suc-ne-zero 0 (cc))
      by_type false right =
          by_heading (heading_of p) refl (sym (ap place_of (route_headed header s p read passes some right)) ∙ e)

  port_iff : (q : Packet) → (route_of header s ≡ Port q) ↔ ((q ≡ p) × ((tail : ℕ) × IsMessage p Local tail) × Populated s)
  port_iff q = (to, λ (same, (tail, is), populated). there populated.some (heading_of_message p Local tail is).0 ∙ ap Port (sym same))
    where
      there : ¬ (length (nodes_of s) ≡ 0) → heading_of p ≡ ToPort → route_of header s ≡ Port p
      there some heading = goes_to_port header s p read passes some heading

      to : route_of header s ≡ Port q → (q ≡ p) × ((tail : ℕ) × IsMessage p Local tail) × Populated s
      to e =
          let at_port = ap place_of e in
          let heading = port_of_answer at_port in
          let here : Port q ≡ Port p = sym e ∙ there (some_of_port at_port) heading in
          (cc, local_of_heading p heading, record { passes = passes; some = some_of_port at_port })

  up_iff : (route_number header s ≡ 43) ↔ (((tail : ℕ) × (IsMessage p ToRoot tail ⊎ IsMessage p Gathered tail)) × Populated s)
  up_iff = (
    λ e. let (up, some) = (goes_up_iff header s p read passes).0 e in (up_of_heading p up, record { passes = passes; some = some }),
    λ ((tail, is), populated).
        let up = ⊎_elim (λ x. (heading_of_message p ToRoot tail x).0) (λ x. (heading_of_message p Gathered tail x).0) is in
        (goes_up_iff header s p read passes).1 (up, populated.some),
  )

-- ## The request

pub messages : Messages
messages =
    record {
      rules_4_and_5 = rule_number_message;
      reserved_get_2 = reserved;
      by_address =
          λ header request s p q address read read_other is is_other_lem.
          same_place header request s p q (Address memory_space address) read read_other
          (heading_of_message p ByAddress address is) (heading_of_memory q address is_other_lem);
      by_id_lem =
          λ header completion s p q tail read read_other is is_other_lem.
          same_place header completion s p q (Id (tail / 2 ^ 48)) read read_other
          (heading_of_message p ById tail is) (heading_of_completion q (tail / 2 ^ 48) is_other_lem);
      no_functions_40 = λ header s p read passes empty. ap number_of (route_no_functions header s p read passes empty);
      to_every_function =
          λ header s p tail read populated is.
          goes_to_every header s p read populated.passes populated.some (heading_of_message p Broadcast tail is).0;
      lists_once = lists;
      short_room_11 = short_room_lem;
      list_starts_room = list_starts;
      port_exactly = λ header s p q read passes. port_iff header s p read passes q;
      up_exactly = up_iff;
    }
