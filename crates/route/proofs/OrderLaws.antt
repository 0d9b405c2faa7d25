-- What becomes of any accepted packet over a sheet that passes its checks: 40 where the sheet has no functions, 42 by the packet's type,
-- and else by where the packet is headed: 43, what the walk makes of it, every function, or the port. Assumes nothing.
use Rattle.std.specs.Prelude.{◌≡◌, refl, ◌↔◌, Bool, true, false, List, ℕ, ◌≤◌, length}
use Rattle.std.proofs.Common.{sym, ap, ◌∙◌, arith}
use borrow.Author.Tests.{eq-eqb, ne_eqb}
use Rattle.packet.specs.declared.Packet.{Packet}
use Rattle.tlp.specs.declared.Reading.TheVariants.{Accepted}
use Rattle.tlp.specs.Reading.{read_of}
use Rattle.walk.specs.Walk.{Outcome, no_owner, contested}
use Rattle.walk.proofs.NumberLaws.{walk_elim}
use Rattle.sheet.specs.Sheet.{sheet_number}
use Rattle.sheet.specs.Spaces.{nodes_of}
use Rattle.claims.specs.declared.Aim.{Aim}
use Rattle.claims.specs.Claims.{tally_for}
use Rattle.route_arrival.specs.declared.Heading.{Heading}
use Rattle.route_arrival.specs.declared.Heading.TheVariants.{Aimed, Up, Every, Port as ToPort}
use Rattle.route_arrival.specs.Arrival.{heading_of, type_wrong}
use Rattle.route_arrival.specs.ArrivalLaws.{right_of_not_by_id, not_by_id_of_up, not_by_id_of_every, not_by_id_of_port}
use Rattle.route_answer.specs.declared.Routing.TheVariants.{Broadcast, Port, Refused}
use Rattle.route_answer.specs.Routing.{number_of, wrong_type, only_up, answer}
use Rattle.route.specs.Route.{walked, root, on_heading, from42, route_packet, from_sheet, route_of}

-- ## The walk's numbers

-- a walk is refused with 40 or 41
number_walked : (p : Packet) (aim : Aim) (s : List ℕ) (bus : ℕ) → number_of (answer p (walked aim s bus 0)) ≤ contested
number_walked p aim s bus =
    walk_elim (λ (o : Outcome). number_of (answer p o) ≤ contested) (tally_for aim s) (omega arith) (omega arith)
    (λ bus number crossed e. omega arith) bus 0

-- ## The order

module _ (header s : List ℕ) (p : Packet) (read : read_of header ≡ Accepted p) (passes : sheet_number s ≡ 0) where
  pub route_no_functions : length (nodes_of s) ≡ 0 → route_of header s ≡ Refused no_owner
  unfolding route_of from_sheet route_packet
  route_no_functions empty = rw (read, eq-eqb (sheet_number s) 0 passes, eq-eqb (length (nodes_of s)) 0 empty)

  module _ (some : ¬ (length (nodes_of s) ≡ 0)) where
    pub route_wrong_type : type_wrong (root s) p ≡ true → route_of header s ≡ Refused wrong_type
    unfolding route_of from_sheet route_packet from42
    route_wrong_type wrong = rw (read, eq-eqb (sheet_number s) 0 passes, ne_eqb (length (nodes_of s)) 0 some, wrong)

    pub route_headed : type_wrong (root s) p ≡ false → route_of header s ≡ on_heading (heading_of p) p s
    unfolding route_of from_sheet route_packet from42
    route_headed right = rw (read, eq-eqb (sheet_number s) 0 passes, ne_eqb (length (nodes_of s)) 0 some, right)

    headed_as : (h : Heading) → heading_of p ≡ h → type_wrong (root s) p ≡ false → route_of header s ≡ on_heading h p s
    headed_as h e right = route_headed right ∙ ap (λ (x : Heading). on_heading x p s) e

    pub goes_by_aim : (aim : Aim) → heading_of p ≡ Aimed aim → type_wrong (root s) p ≡ false
        → route_of header s ≡ answer p (walked aim s (root s) 0)
    goes_by_aim aim e right = headed_as (Aimed aim) e right

    -- the others are messages, whose type is never wrong
    pub goes_up : heading_of p ≡ Up → route_of header s ≡ Refused only_up
    goes_up e = headed_as Up e (right_of_not_by_id p (not_by_id_of_up p e) (root s))

    pub goes_to_every : heading_of p ≡ Every → route_of header s ≡ Broadcast (length (nodes_of s)) p
    goes_to_every e = headed_as Every e (right_of_not_by_id p (not_by_id_of_every p e) (root s))

    pub goes_to_port : heading_of p ≡ ToPort → route_of header s ≡ Port p
    goes_to_port e = headed_as ToPort e (right_of_not_by_id p (not_by_id_of_port p e) (root s))

    -- 43 comes from the heading alone
    up_of_43 : number_of (route_of header s) ≡ only_up → heading_of p ≡ Up
    up_of_43 e = by_type (type_wrong (root s) p) refl
      where
        by_heading : (h : Heading) → heading_of p ≡ h → number_of (on_heading h p s) ≡ only_up → heading_of p ≡ Up
        by_heading (Aimed aim) f g = absurd (omega (arith, number_walked p aim s (root s)))
        by_heading Up f g = f
        by_heading Every f g = absurd (omega arith)
        by_heading ToPort f g = absurd (omega arith)

        by_type : (b : Bool) → type_wrong (root s) p ≡ b → heading_of p ≡ Up
        by_type true wrong = absurd (omega (arith, ap number_of (route_wrong_type wrong)))
        by_type false right = by_heading (heading_of p) refl (sym (ap number_of (route_headed right)) ∙ e)

  -- 43 exactly for what only travels up, over a sheet with functions
  pub goes_up_iff : (number_of (route_of header s) ≡ only_up) ↔ ((heading_of p ≡ Up) × ¬ (length (nodes_of s) ≡ 0))
  goes_up_iff = (to, λ (up, some). ap number_of (goes_up some up))
    where
      to : number_of (route_of header s) ≡ only_up → (heading_of p ≡ Up) × ¬ (length (nodes_of s) ≡ 0)
      to e =
          let some : ¬ (length (nodes_of s) ≡ 0) = λ empty. omega (arith, ap number_of (route_no_functions empty)) in
          (up_of_43 some e, some)
