-- Document 02's E14 holds: the write script. Assumes nothing.
use Rattle.std.specs.Prelude.{◌≡◌, refl, ◌⊎◌, Bool, true, false, cond, List, ℕ, eqb, length}
use Rattle.std.proofs.Common.{sym, ap, ◌∙◌, inl, inr}
use Rattle.packet.specs.declared.Packet.{Packet}
use Rattle.tlp.specs.declared.Reading.TheVariants.{Accepted}
use Rattle.tlp.specs.Reading.{read_of}
use Rattle.pools.specs.declared.Space.{Space}
use Rattle.records.specs.Records.{Parts}
use Rattle.walk.specs.Walk.{refused, no_owner}
use Rattle.sheet.specs.Sheet.{full_sheet, sheet_number}
use Rattle.sheet.specs.Spaces.{nodes_of}
use Rattle.plan_sheet.specs.Delivery.{sheet_outcome}
use Rattle.plan_sheet.proofs.Delivery.{planned_sheet_of_board}
use Rattle.plan_sheet.proofs.Answer.{planned_of_answer}
use Rattle.claims.specs.declared.Aim.TheVariants.{Address}
use Rattle.route_arrival.specs.declared.Heading.TheVariants.{Aimed}
use Rattle.route_arrival.specs.Arrival.{heading_of}
use Rattle.route_arrival.specs.ArrivalLaws.{right_of_not_by_id, not_by_id_of_address}
use Rattle.route_answer.specs.declared.Routing.TheVariants.{Refused}
use Rattle.route_answer.specs.Routing.{answer}
use Rattle.route.specs.Route.{root, from42, route_packet, route_of}
use Rattle.route.proofs.RequestLaws.{route_request}
use Rattle.scripter.specs.Scripting.{planned_sheet, board_writes, boot_of}
use Rattle.scripter.specs.AnswerLaws.{refused_as_planned, short_room_lem, else_written, refused_keeps_room, script_starts_room}
use Rattle.scripter.specs.LongestLaws.{script_length_le}
use Rattle.script_run.proofs.RunLaws.{parts_of_script, length_parts, taken_in_place, ends_as_planned, owner_or_none_after}
use Rattle.script_run.specs.Run.{state_after}
use Rattle.demands.specs.Demand3.{IsRequest}
use Rattle.demands.proofs.RoutedLaws.{aim_of_request}
use Rattle.requests.specs.WriteScript.{IsPlanned, IsBoot, WriteScript}

-- ## A request while the script runs

-- with the sheet's checks left out a request comes to what the walk makes of it, or there are no functions
request_or_none : (s : List ℕ) (p : Packet) (sp : Space) (address : ℕ) → heading_of p ≡ Aimed (Address sp address)
    → (route_packet p s ≡ Refused 40) ⊎ (route_packet p s ≡ answer p (sheet_outcome sp s address))
unfolding route_packet from42
request_or_none s p sp address aim = go (eqb (length (nodes_of s)) 0)
  where
    go : (none : Bool) → (cond none (Refused 40) (from42 p s) ≡ Refused 40)
        ⊎ (cond none (Refused 40) (from42 p s) ≡ answer p (sheet_outcome sp s address))
    go true = inl refl
    go false = inr (rw (right_of_not_by_id p (not_by_id_of_address p sp address aim) (root s), aim))

module _ (b : List ℕ) (requester tag : ℕ) (planned : IsPlanned b) (boot : IsBoot requester tag) (j : ℕ) where
  abbrev state : List ℕ
  state = state_after b requester tag j

  abbrev final : List ℕ
  final = planned_sheet b

  outcomes : (sp : Space) (address : ℕ)
      → (sheet_outcome sp (state_after b requester tag j) address ≡ sheet_outcome sp (planned_sheet b) address)
      ⊎ (sheet_outcome sp (state_after b requester tag j) address ≡ refused no_owner)
  outcomes =
      owner_or_none_after b planned.size requester tag planned.bytes planned.planned boot.requester_fits boot.tag_fits j

  passes : sheet_number final ≡ 0
  passes =
      let a = planned_of_answer b full_sheet planned.size planned.planned in
      (planned_sheet_of_board b planned.bytes a.accepted a.not_refused final
      (record { same_length = refl; same_bytes = λ i c. refl })).passes

  routed_or_none : (header : List ℕ) (p : Packet) → read_of header ≡ Accepted p → (sp : Space) (address : ℕ) → IsRequest p sp address
      → (route_packet p (state_after b requester tag j) ≡ route_of header (planned_sheet b))
      ⊎ (route_packet p (state_after b requester tag j) ≡ Refused 40)
  routed_or_none header p read sp address is = go (request_or_none state p sp address aim) (outcomes sp address)
    where
      aim : heading_of p ≡ Aimed (Address sp address)
      aim = aim_of_request p sp address is

      go : (route_packet p state ≡ Refused 40) ⊎ (route_packet p state ≡ answer p (sheet_outcome sp state address))
          → (sheet_outcome sp state address ≡ sheet_outcome sp final address) ⊎ (sheet_outcome sp state address ≡ refused no_owner)
          → (route_packet p state ≡ route_of header final) ⊎ (route_packet p state ≡ Refused 40)
      go (inl e) o = inr e
      go (inr e) (inl o) = inl (e ∙ ap (answer p) o ∙ sym (route_request sp address header final p read aim passes))
      go (inr e) (inr o) = inr (e ∙ ap (answer p) o)

-- ## The request

pub write_script : WriteScript
write_script =
    record {
      refused_as_planned = refused_as_planned;
      short_room_lem = λ b room p. short_room_lem b room p.size p.planned;
      else_written = λ b room p. else_written b room p.size p.planned;
      refused_keeps_room = refused_keeps_room;
      script_starts_room = script_starts_room;
      longest = λ b p. script_length_le b p.size p.bytes p.planned;
      one_record_a_write = λ b requester tag.
          let ps = parts_of_script (boot_of b requester) tag (board_writes b) in (
            ap (λ (p : Parts). p.whole) ps,
            ap (λ (p : Parts). length p.parts) ps ∙ length_parts (boot_of b requester) tag (board_writes b),
          );
      taken_in_place = λ b requester tag p boot.
          taken_in_place b p.size requester tag p.bytes p.planned boot.requester_fits boot.tag_fits;
      ends_as_planned = λ b requester tag p boot.
          ends_as_planned b p.size requester tag p.bytes p.planned boot.requester_fits boot.tag_fits;
      owner_or_none = outcomes;
      routed_or_none = routed_or_none;
    }
