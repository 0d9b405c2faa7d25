-- A packet that goes by address, a memory or I/O request or a message, over a sheet that passes its checks comes to what the walk makes of
-- it, and arrives unchanged. Assumes nothing.
use Rattle.std.specs.Prelude.{◌≡◌, ◌↔◌, Bool, cond, ℕ, length, eqb}
use Rattle.std.proofs.Math.Path.{refl, sym}
use Rattle.std.proofs.Common.{ap, ◌∙◌, suc-ne-zero}
use Rattle.std.proofs.Math.Bool.{true, false}
use mathlib.Core.List.{List, [], ◌∷◌}
use borrow.Author.Tests.{eq-eqb, eqb-true}
use Rattle.packet.specs.declared.Packet.{Packet}
use Rattle.tlp.specs.declared.Reading.TheVariants.{Accepted}
use Rattle.tlp.specs.Reading.{read_of}
use Rattle.pools.specs.declared.Space.{Space}
use Rattle.walk.specs.Walk.{Outcome, delivered, refused, no_owner}
use Rattle.walk.proofs.WalkLaws.{walk_none}
use Rattle.walk.proofs.TallyLaws.{tally_nil}
use Rattle.walk.specs.Tally.{tally_on}
use Rattle.sheet_record.specs.Entry.{Entry}
use Rattle.sheet.specs.Sheet.{entries_of, sheet_number}
use Rattle.sheet.specs.Spaces.{functions_from, nodes_from, nodes_of, enabled_of}
use Rattle.claims.specs.declared.Aim.TheVariants.{Address}
use Rattle.route_arrival.specs.declared.Heading.TheVariants.{Aimed}
use Rattle.route_arrival.specs.Arrival.{heading_of, arrived}
use Rattle.route_arrival.specs.ArrivalLaws.{right_of_not_by_id, unchanged_of_not_by_id, not_by_id_of_address}
use Rattle.route_answer.specs.declared.Delivery.{Delivery}
use Rattle.route_answer.specs.declared.Routing.TheVariants.{Delivered, Refused}
use Rattle.route_answer.specs.Routing.{arrives, answer}
use Rattle.route.specs.Route.{walked, root, from42, route_packet, from_sheet, route_of}

module _ (space : Space) (address : ℕ) where
  pub arrives_unchanged : (p : Packet) → heading_of p ≡ Aimed (Address space address) → arrived p ≡ p
  arrives_unchanged p aim = unchanged_of_not_by_id p (not_by_id_of_address p space address aim)

  -- what the walk over a sheet comes to
  abbrev pub comes_to : List ℕ → Outcome
  comes_to s = walked (Address space address) s (root s) 0

  -- over no functions the walk has no owner either
  walk_nobody : (s : List ℕ) (es : List Entry) → entries_of s ≡ es → length (nodes_from 1 es) ≡ 0 → comes_to s ≡ refused no_owner
  unfolding nodes_from functions_from
  walk_nobody s [] e z =
      walk_none _ (root s) 0
      (ap (λ (es : List Entry). tally_on (enabled_of space s) (functions_from space 1 es) address (root s)) e
      ∙ tally_nil (enabled_of space s) address (root s))
  walk_nobody s (x ∷ es) e z = absurd (suc-ne-zero _ z)

  module _ (header s : List ℕ) (p : Packet) (read : read_of header ≡ Accepted p) (aim : heading_of p ≡ Aimed (Address space address))
      (passes : sheet_number s ≡ 0) where
    request_from_40 : (b : Bool) → eqb (length (nodes_of s)) 0 ≡ b → cond b (Refused no_owner) (from42 p s) ≡ answer p (comes_to s)
    unfolding from42
    request_from_40 true e = sym (ap (answer p) (walk_nobody s (entries_of s) refl (eqb-true (length (nodes_of s)) 0 e)))
    request_from_40 false e = rw (right_of_not_by_id p (not_by_id_of_address p space address aim) (root s), aim)

    pub route_request : route_of header s ≡ answer p (comes_to s)
    unfolding route_of from_sheet route_packet
    route_request = rw (read, eq-eqb (sheet_number s) 0 passes) (request_from_40 (eqb (length (nodes_of s)) 0) refl)

    -- delivered just where the walk delivers, with its record and its count, and unchanged
    pub request_delivered_iff : (d : Delivery)
        → (route_of header s ≡ Delivered d) ↔ ((comes_to s ≡ delivered d.owner d.bridges) × (d.packet ≡ p))
    request_delivered_iff d = (λ e. to (comes_to s) (sym route_request ∙ e), from)
      where
        to : (o : Outcome) → answer p o ≡ Delivered d → (o ≡ delivered d.owner d.bridges) × (d.packet ≡ p)
        to (delivered number crossed) e =
            let same : arrives p number crossed ≡ d = cc in (
              ap (λ (x : Delivery). delivered x.owner x.bridges) same,
              sym (ap (λ (x : Delivery). x.packet) same) ∙ arrives_unchanged p aim,
            )
        to (refused n) e = absurd (suc-ne-zero 0 (cc))

        from : (comes_to s ≡ delivered d.owner d.bridges) × (d.packet ≡ p) → route_of header s ≡ Delivered d
        from (e, same) =
            let with : Packet → Delivery = λ q. record { owner = d.owner; bridges = d.bridges; packet = q } in
            route_request ∙ ap (answer p) e ∙ ap (λ (q : Packet). Delivered (with q)) (arrives_unchanged p aim ∙ sym same)

    pub request_refused_iff : (number : ℕ) → (route_of header s ≡ Refused number) ↔ (comes_to s ≡ refused number)
    request_refused_iff number = (λ e. to (comes_to s) (sym route_request ∙ e), λ e. route_request ∙ ap (answer p) e)
      where
        to : (o : Outcome) → answer p o ≡ Refused number → o ≡ refused number
        to (delivered n k) e = absurd (suc-ne-zero 0 (cc))
        to (refused n) e = cc
