-- Whoever sends a packet, a refusal of it is one of 1 to 99. Assumes nothing.
use Rattle.std.specs.Prelude.{◌≡◌, refl, Bool, true, false, cond, List, ℕ, eqb}
use Rattle.std.proofs.Common.{sym, arith, eqb-true}
use Rattle.std.proofs.Math.Path.{subst}
use Rattle.std.proofs.lemmas.Bool.{eqb-false}
use Rattle.refusals.specs.Refusals.{IsRefusal}
use Rattle.refusals.specs.RefusalsLaws.{refusal}
use Rattle.packet.specs.declared.Packet.{Packet}
use Rattle.tlp.specs.declared.Reading.{Reading}
use Rattle.tlp.specs.declared.Reading.TheVariants.{Accepted, Refused as NotRead}
use Rattle.tlp.specs.Reading.{read_of}
use Rattle.tlp.specs.NumberLaws.{NumberedReading, numbered_read}
use Rattle.walk.specs.Climb.{Sent, arrives, leaves, stops}
use Rattle.walk.proofs.NumberLaws.{NumberedSent}
use Rattle.climb_ids.specs.ById.{sent_by_id, sent_up}
use Rattle.climb_ids.proofs.NumberLaws.{numbered_by_id, numbered_up}
use Rattle.sheet.specs.Sheet.{sheet_number}
use Rattle.sheet.specs.Spaces.{nodes_of}
use Rattle.sheet.proofs.NumberLaws.{sheet_number_lem}
use Rattle.claims.specs.declared.Aim.TheVariants.{Address, Id}
use Rattle.route_arrival.specs.declared.Heading.{Heading}
use Rattle.route_arrival.specs.declared.Heading.TheVariants.{Aimed, Up, Every, Port as ToPort}
use Rattle.route_arrival.specs.Arrival.{heading_of}
use Rattle.route_answer.proofs.NumberLaws.{Numbered as NumberedRouting}
use Rattle.route.specs.Route.{root}
use Rattle.route.proofs.NumberLaws.{numbered_route}
use Rattle.route_cards.specs.declared.Sending.{Sending}
use Rattle.route_cards.specs.declared.Sending.TheVariants.{Delivered as CardDelivered, Host as CardHost, Refused as CardRefused}
use Rattle.route_cards.specs.Sending.{send_packet}
use Rattle.route_cards.specs.NumberLaws.{Numbered as NumberedSending, numbered_sending}
use Rattle.route_sent.specs.declared.Fate.{Fate}
use Rattle.route_sent.specs.declared.Fate.TheVariants.{Delivered, Host, Port, Refused}
use Rattle.route_sent.specs.declared.BothEnds.{BothEnds}
use Rattle.route_sent.specs.declared.BothEnds.TheVariants.{FromHost, FromFunction, Refused as NotSent}
use Rattle.route_sender.specs.declared.Sender.{Sender}
use Rattle.route_sender.specs.declared.Sender.TheVariants.{Host as HostSends, Function as FunctionSends}
use Rattle.route_sender.specs.Sender.{named_by, sender_of}
use Rattle.route_sent.specs.BothEnds.{fate_of, answer, on_heading, from_function, from_sender, ends_of, from_sheet, from_reading, both_ends_of}
use Rattle.route_sent.proofs.RequestLaws.{routed, sent_as_request}

abbrev pub NumberedFate : Fate → Type 0
NumberedFate (Delivered d) = Unit {0}
NumberedFate (Host bridges p) = Unit {0}
NumberedFate (Port p) = Unit {0}
NumberedFate (Refused n) = IsRefusal n

abbrev pub Numbered : BothEnds → Type 0
Numbered (FromHost r) = NumberedRouting r
Numbered (FromFunction number f) = NumberedFate f
Numbered (NotSent n) = IsRefusal n

numbered_answer : (p : Packet) (o : Sent) → NumberedSent o → NumberedFate (answer p o)
numbered_answer p (arrives number count) h = tt
numbered_answer p (leaves count) h = tt
numbered_answer p (stops n) h = h

numbered_fate : (r : Sending) → NumberedSending r → NumberedFate (fate_of r)
numbered_fate (CardDelivered d) h = tt
numbered_fate (CardHost bridges p) h = tt
numbered_fate (CardRefused n) h = h

module _ (host_id : ℕ) (header s : List ℕ) (p : Packet) (read : read_of header ≡ Accepted p) (passes : sheet_number s ≡ 0) where
  numbered_heading : (number own : ℕ) (h : Heading) → NumberedFate (on_heading host_id number own p s h)
  numbered_heading number own (Aimed (Address space address)) =
      numbered_fate (send_packet number p s)
      (subst NumberedSending (sym (sent_as_request host_id header s p read passes number)) (numbered_sending number header s))
  numbered_heading number own (Aimed (Id id)) =
      numbered_answer p (sent_by_id host_id (nodes_of s) (root s) number own id)
      (numbered_by_id host_id (nodes_of s) (root s) number own id)
  numbered_heading number own Up = numbered_answer p (sent_up (nodes_of s) (root s) own) (numbered_up (nodes_of s) (root s) own)
  numbered_heading number own Every = refusal 45 refl
  numbered_heading number own ToPort = tt

  numbered_from_lem : (x : Sender) → Numbered (from_sender host_id p s x)
  unfolding from_function
  numbered_from_lem HostSends = subst NumberedRouting (sym (routed host_id header s p read passes)) (numbered_route header s)
  numbered_from_lem (FunctionSends number) = numbered_heading number (named_by p) (heading_of p)

pub numbered_ends : (host_id : ℕ) (header s : List ℕ) → Numbered (both_ends_of host_id header s)
unfolding both_ends_of from_sheet ends_of
numbered_ends host_id header s = go (read_of header) refl (numbered_read header)
  where
    by_sheet : (p : Packet) → read_of header ≡ Accepted p → (b : Bool) → eqb (sheet_number s) 0 ≡ b
        → Numbered (cond b (from_sender host_id p s (sender_of host_id p s)) (NotSent (sheet_number s)))
    by_sheet p e true q = numbered_from_lem host_id header s p e (eqb-true (sheet_number s) 0 q) (sender_of host_id p s)
    by_sheet p e false q = (omega (arith, eqb-false (sheet_number s) 0 q), sheet_number_lem s)

    go : (r : Reading) → read_of header ≡ r → NumberedReading r → Numbered (from_reading host_id r s)
    go (Accepted p) e h = by_sheet p e (eqb (sheet_number s) 0) refl
    go (NotRead n) e h = h
