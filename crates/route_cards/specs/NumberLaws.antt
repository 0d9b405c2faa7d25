-- A request from a card that is refused has a number from 1 to 99. Assumes nothing.
use Rattle.std.specs.Prelude.{refl, Option, Some, None, List, ℕ}
use Rattle.refusals.specs.Refusals.{IsRefusal}
use Rattle.refusals.specs.RefusalsLaws.{refusal, unless_zero}
use Rattle.packet.specs.declared.Packet.{Packet}
use Rattle.tlp.specs.declared.Reading.{Reading}
use Rattle.tlp.specs.declared.Reading.TheVariants.{Accepted, Refused as NotRead}
use Rattle.tlp.specs.Reading.{read_of}
use Rattle.tlp.specs.NumberLaws.{NumberedReading, numbered_read}
use Rattle.pools.specs.declared.Space.{Space}
use Rattle.walk.specs.Climb.{Sent, arrives, leaves, stops, Start, starts, nowhere, start_at, send_from}
use Rattle.walk.proofs.NumberLaws.{NumberedSent, numbered_send}
use Rattle.sheet.specs.Sheet.{sheet_number}
use Rattle.sheet.proofs.NumberLaws.{sheet_number_lem}
use Rattle.sheet.specs.Spaces.{registers_of, enabled_of, master_of}
use Rattle.route.specs.Route.{root}
use Rattle.route_cards.specs.declared.Sending.{Sending}
use Rattle.route_cards.specs.declared.Sending.TheVariants.{Delivered, Host, Refused}
use Rattle.route_cards.specs.Sending.{request_of, answer, send_request, on_request, send_packet, from_sheet, from_reading}
use Rattle.route_cards.specs.Sending.{sending_of}

abbrev pub Numbered : Sending → Type 0
Numbered (Delivered d) = Unit {0}
Numbered (Host bridges p) = Unit {0}
Numbered (Refused n) = IsRefusal n

numbered_answer : (p : Packet) (o : Sent) → NumberedSent o → Numbered (answer p o)
numbered_answer p (arrives number count) h = tt
numbered_answer p (leaves count) h = tt
numbered_answer p (stops n) h = h

numbered_packet : (number : ℕ) (p : Packet) (s : List ℕ) → Numbered (send_packet number p s)
unfolding send_packet
numbered_packet number p s = by_request (request_of p)
  where
    by_start : (space : Space) (address : ℕ) (start : Start) → Numbered (send_request p s space address start)
    by_start space address nowhere = refusal 45 refl
    by_start space address (starts f) =
        numbered_answer p (send_from (enabled_of space s) (master_of s) (registers_of space s) address (root s) f)
        (numbered_send (enabled_of space s) (master_of s) (registers_of space s) address (root s) f)

    by_request : (r : Option (Space × ℕ)) → Numbered (on_request number p s r)
    by_request (Some (space, address)) = by_start space address (start_at (registers_of space s) number)
    by_request None = refusal 45 refl

pub numbered_sending : (number : ℕ) (header s : List ℕ) → Numbered (sending_of number header s)
unfolding sending_of from_sheet
numbered_sending number header s = go (read_of header) (numbered_read header)
  where
    go : (r : Reading) → NumberedReading r → Numbered (from_reading number r s)
    go (Accepted p) h =
        unless_zero Numbered (sheet_number s) (send_packet number p s) (Refused (sheet_number s)) (sheet_number_lem s)
        (numbered_packet number p s) (λ h. h)
    go (NotRead n) h = h
