-- Every number that stands in a line with both ends is small: a refusal has at most three digits, a record number two bytes. Assumes
-- nothing.
use Rattle.std.specs.Prelude.{ℕ, ◌≤◌, ◌<◌, ◌≡◌, Bool, cond, List}
use Rattle.std.proofs.Math.Path.{refl, subst}
use Rattle.std.proofs.Common.{sym, arith, eqb-true}
use Rattle.std.proofs.Math.Bool.{true, false}
use Rattle.std.proofs.Math.ListN.{length}
use Rattle.std.proofs.Math.Dec.{eqb}
use Rattle.packet.specs.declared.Packet.{Packet}
use Rattle.tlp.specs.declared.Reading.{Reading}
use Rattle.tlp.specs.declared.Reading.TheVariants.{Accepted, Refused as NotRead}
use Rattle.tlp.specs.Reading.{read_of}
use Rattle.walk.specs.Climb.{Sent, arrives, leaves, stops}
use Rattle.climb_ids.specs.ById.{sent_by_id, sent_up}
use Rattle.sheet.specs.Sheet.{sheet_number, entries_of}
use Rattle.sheet.proofs.SheetLaws.{checked_of_zero}
use Rattle.sheet.specs.Spaces.{nodes_of}
use Rattle.claims.specs.declared.Aim.TheVariants.{Address, Id}
use Rattle.route_arrival.specs.declared.Heading.{Heading}
use Rattle.route_arrival.specs.declared.Heading.TheVariants.{Aimed, Up, Every, Port as ToPort}
use Rattle.route_arrival.specs.Arrival.{heading_of}
use Rattle.route_answer.specs.declared.Routing.{Routing}
use Rattle.route.specs.Route.{root}
use Rattle.route_cards.specs.declared.Sending.{Sending}
use Rattle.route_cards.specs.declared.Sending.TheVariants.{Delivered as CardDelivered, Host as CardHost, Refused as CardRefused}
use Rattle.route_cards.specs.Sending.{send_packet}
use Rattle.route_sent.specs.declared.Fate.{Fate}
use Rattle.route_sent.specs.declared.Fate.TheVariants.{Delivered, Host, Port, Refused}
use Rattle.route_sent.specs.declared.BothEnds.{BothEnds}
use Rattle.route_sent.specs.declared.BothEnds.TheVariants.{FromHost, FromFunction, Refused as NotSent}
use Rattle.route_sender.specs.declared.Sender.{Sender}
use Rattle.route_sender.specs.declared.Sender.TheVariants.{Host as HostSends, Function as FunctionSends}
use Rattle.route_sender.specs.Sender.{named_by, sender_of}
use Rattle.route_sender.specs.SenderLaws.{named_elim}
use Rattle.route_sent.specs.BothEnds.{fate_of, answer, on_heading, from_function, from_sender, ends_of, from_sheet, from_reading, both_ends_of}
use Rattle.route_sent.proofs.RequestLaws.{routed}
use Rattle.route_sent.proofs.NumberLaws.{NumberedFate, Numbered, numbered_ends}
use Rattle.trace_line.specs.declared.Finder.TheVariants.{Sheet}
use Rattle.trace_line.specs.Finder.{routing_by}
use Rattle.trace_line.specs.Bounds.{Small, SmallRouting, small_routing}
use Rattle.trace_ends.specs.RecordLaws.{ArrivesAt, InSheet, node_in, by_id_arrives, up_arrives_in, SendingIn, sending_in}

-- ## Record numbers

module _ (s : List ℕ) where
  abbrev FateIn : Fate → Type 0
  FateIn (Delivered d) = InSheet s d.owner
  FateIn (Host bridges p) = Unit {0}
  FateIn (Port p) = Unit {0}
  FateIn (Refused n) = Unit {0}

  answer_in : (p : Packet) (o : Sent) → ArrivesAt (InSheet s) o → FateIn (answer p o)
  answer_in p (arrives number count) h = h
  answer_in p (leaves count) h = tt
  answer_in p (stops n) h = tt

  fate_in : (r : Sending) → SendingIn s r → FateIn (fate_of r)
  fate_in (CardDelivered d) h = h
  fate_in (CardHost bridges p) h = tt
  fate_in (CardRefused n) h = tt

  heading_in : (host_id number own : ℕ) (p : Packet) (h : Heading) → FateIn (on_heading host_id number own p s h)
  heading_in host_id number own p (Aimed (Address space address)) = fate_in (send_packet number p s) (sending_in s number p)
  heading_in host_id number own p Up = answer_in p (sent_up (nodes_of s) (root s) own) (up_arrives_in s own)
  heading_in host_id number own p ToPort = tt
  heading_in host_id number own p (Aimed (Id id)) =
      answer_in p (sent_by_id host_id (nodes_of s) (root s) number own id) (by_id_arrives s host_id number own id)
  heading_in host_id number own p Every = tt

-- ## Every number

abbrev pub SmallFate : Fate → Type 0
SmallFate (Delivered d) = d.owner < 65536
SmallFate (Host bridges p) = Unit {0}
SmallFate (Port p) = Unit {0}
SmallFate (Refused n) = Small n

abbrev pub SmallEnds : BothEnds → Type 0
SmallEnds (FromHost routing) = SmallRouting routing
SmallEnds (FromFunction number fate) = (number < 65536) × SmallFate fate
SmallEnds (NotSent n) = Small n

small_fate : (s : List ℕ) → length (entries_of s) < 65536 → (f : Fate) → FateIn s f → NumberedFate f → SmallFate f
small_fate s few (Delivered d) h n = omega arith
small_fate s few (Host bridges p) h n = tt
small_fate s few (Port p) h n = tt
small_fate s few (Refused k) h n = omega (arith, n.1)

routing_small : (header s : List ℕ) → SmallRouting (routing_by (Sheet 0) s header)
routing_small header s = small_routing (Sheet 0) s header

module _ (host_id : ℕ) (header s : List ℕ) where
  from_small : (p : Packet) → read_of header ≡ Accepted p → sheet_number s ≡ 0 → (x : Sender) → sender_of host_id p s ≡ x
      → Numbered (from_sender host_id p s x) → SmallEnds (from_sender host_id p s x)
  unfolding from_function routing_by
  from_small p read passes HostSends e n = subst SmallRouting (sym (routed host_id header s p read passes)) (routing_small header s)
  from_small p read passes (FunctionSends number) e n =
      let few : length (entries_of s) < 65536 = omega (arith, (checked_of_zero s passes).count) in
      let sender = named_elim host_id p s number e in (
        omega (arith, node_in s sender.function sender.in_sheet, sender.number_is),
        small_fate s few (on_heading host_id number (named_by p) p s (heading_of p))
            (heading_in s host_id number (named_by p) p (heading_of p)) n,
      )

  pub small_ends : SmallEnds (both_ends_of host_id header s)
  unfolding both_ends_of from_sheet ends_of
  small_ends = go (read_of header) refl (numbered_ends host_id header s)
    where
      by_sheet : (p : Packet) → read_of header ≡ Accepted p → (b : Bool) → eqb (sheet_number s) 0 ≡ b
          → Numbered (cond b (from_sender host_id p s (sender_of host_id p s)) (NotSent (sheet_number s)))
          → SmallEnds (cond b (from_sender host_id p s (sender_of host_id p s)) (NotSent (sheet_number s)))
      by_sheet p e true q n = from_small p e (eqb-true (sheet_number s) 0 q) (sender_of host_id p s) refl n
      by_sheet p e false q n = omega (arith, n.1)

      go : (r : Reading) → read_of header ≡ r → Numbered (from_reading host_id r s) → SmallEnds (from_reading host_id r s)
      go (Accepted p) e n = by_sheet p e (eqb (sheet_number s) 0) refl n
      go (NotRead k) e n = omega (arith, n.1)
