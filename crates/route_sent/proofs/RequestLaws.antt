-- What becomes of a header over a sheet, check by check: the header's number, the sheet's, the sender, and then the way from there. Assumes
-- nothing.
use Rattle.std.specs.Prelude.{◌≡◌, refl, Bool, true, false, List, ℕ, eqb}
use Rattle.std.proofs.Common.{sym, ◌∙◌, suc-ne-zero}
use Rattle.std.proofs.Math.Path.{ap}
use borrow.Author.Tests.{eqb-true, eqb-false, eq-eqb, ne_eqb}
use Rattle.packet.specs.declared.Packet.{Packet}
use Rattle.tlp.specs.declared.Reading.{Reading}
use Rattle.tlp.specs.declared.Reading.TheVariants.{Accepted, Refused as NotRead}
use Rattle.tlp.specs.Reading.{read_of}
use Rattle.sheet.specs.Sheet.{sheet_number}
use Rattle.route_arrival.specs.declared.Heading.{Heading}
use Rattle.route_arrival.specs.Arrival.{heading_of}
use Rattle.route_answer.specs.declared.Routing.{Routing}
use Rattle.route.specs.Route.{route_packet, route_of}
use Rattle.route.specs.Route as route
use Rattle.route_cards.specs.Sending.{send_packet, sending_of}
use Rattle.route_cards.specs.Sending as cards
use Rattle.route_sender.specs.declared.Sender.{Sender}
use Rattle.route_sender.specs.declared.Sender.TheVariants.{Host, Function}
use Rattle.route_sender.specs.declared.SentBy.TheVariants.{Told}
use Rattle.route_sender.specs.Sender.{named_by, sender_of, sent_by_of}
use Rattle.route_sender.specs.NamedLaws as sender
use Rattle.route_sent.specs.declared.BothEnds.TheVariants.{FromHost, FromFunction, Refused}
use Rattle.route_sent.specs.BothEnds.{on_heading, from_function, from_sender, ends_of, from_sheet, both_ends_of, named_in}

module _ (host_id : ℕ) (header s : List ℕ) where
  pub header_first : (n : ℕ) → read_of header ≡ NotRead n → both_ends_of host_id header s ≡ Refused n
  unfolding both_ends_of
  header_first n e = rw e

  module _ (p : Packet) (read : read_of header ≡ Accepted p) where
    pub sheet_next : ¬ (sheet_number s ≡ 0) → both_ends_of host_id header s ≡ Refused (sheet_number s)
    unfolding both_ends_of from_sheet
    sheet_next h = rw (read, ne_eqb (sheet_number s) 0 h)

    module _ (passes : sheet_number s ≡ 0) where
      ends_next : both_ends_of host_id header s ≡ from_sender host_id p s (sender_of host_id p s)
      unfolding both_ends_of from_sheet ends_of
      ends_next = rw (read, eq-eqb (sheet_number s) 0 passes)

      pub routed : route_packet p s ≡ route_of header s
      unfolding route_of route.from_sheet
      routed = rw (read, eq-eqb (sheet_number s) 0 passes)

      pub sent_as_request : (k : ℕ) → send_packet k p s ≡ sending_of k header s
      unfolding sending_of cards.from_sheet
      sent_as_request k = rw (read, eq-eqb (sheet_number s) 0 passes)

      pub from_host_lem : sender_of host_id p s ≡ Host → both_ends_of host_id header s ≡ FromHost (route_of header s)
      from_host_lem e = ends_next ∙ ap (from_sender host_id p s) e ∙ ap FromHost routed

      pub from_function_lem : (k : ℕ) → sender_of host_id p s ≡ Function k → (h : Heading) → heading_of p ≡ h
          → both_ends_of host_id header s ≡ FromFunction k (on_heading host_id k (named_by p) p s h)
      unfolding from_function
      from_function_lem k e h q =
          ends_next ∙ ap (from_sender host_id p s) e ∙ ap (λ (x : Heading). FromFunction k (on_heading host_id k (named_by p) p s x)) q

      -- what is said of either sender is said of the packet
      by_sender : (P : Type 0) → (both_ends_of host_id header s ≡ FromHost (route_of header s) → sender_of host_id p s ≡ Host → P)
          → ((k : ℕ) → both_ends_of host_id header s ≡ FromFunction k (on_heading host_id k (named_by p) p s (heading_of p))
          → sender_of host_id p s ≡ Function k → P)
          → P
      by_sender P of_host of_function = go (sender_of host_id p s) refl
        where
          go : (x : Sender) → sender_of host_id p s ≡ x → P
          go Host e = of_host (from_host_lem e) e
          go (Function k) e = of_function k (from_function_lem k e (heading_of p) refl) e

  -- ## Whatever the header and the sheet

  -- what is said of each answer is said of all
  in_each : (P : Type 0) → ((n : ℕ) → read_of header ≡ NotRead n → P)
      → ((p : Packet) → read_of header ≡ Accepted p → ¬ (sheet_number s ≡ 0) → P)
      → ((p : Packet) → read_of header ≡ Accepted p → sheet_number s ≡ 0 → P)
      → P
  in_each P not_read not_passed passed = go (read_of header) refl
    where
      by_sheet : (p : Packet) → read_of header ≡ Accepted p → (b : Bool) → eqb (sheet_number s) 0 ≡ b → P
      by_sheet p read true e = passed p read (eqb-true (sheet_number s) 0 e)
      by_sheet p read false e = not_passed p read (eqb-false (sheet_number s) 0 e)

      go : (r : Reading) → read_of header ≡ r → P
      go (NotRead n) read = not_read n read
      go (Accepted p) read = by_sheet p read (eqb (sheet_number s) 0) refl

  -- from the host it is the router's answer
  pub host_routed : (r : Routing) → both_ends_of host_id header s ≡ FromHost r → r ≡ route_of header s
  host_routed r e =
      in_each (r ≡ route_of header s) (λ n read. let f = sym e ∙ header_first n read in absurd (suc-ne-zero 0 (cc)))
      (λ p read fails. let f = sym e ∙ sheet_next p read fails in absurd (suc-ne-zero 0 (cc)))
      (λ p read passes.
      by_sender p read passes (r ≡ route_of header s) (λ is own. let f = sym e ∙ is in cc)
      (λ k is own. let f = sym e ∙ is in absurd (suc-ne-zero 0 (cc))))

  -- both calls name one sender, and give one number where there is none
  pub sender_agrees : named_in (both_ends_of host_id header s) ≡ sent_by_of host_id header s
  sender_agrees =
      in_each (named_in (both_ends_of host_id header s) ≡ sent_by_of host_id header s)
      (λ n read. ap named_in (header_first n read) ∙ sym (sender.header_first host_id header s n read))
      (λ p read fails. ap named_in (sheet_next p read fails) ∙ sym (sender.sheet_next host_id header s p read fails))
      (λ p read passes.
      by_sender p read passes (named_in (both_ends_of host_id header s) ≡ sent_by_of host_id header s)
      (λ is own. ap named_in is ∙ sym (sender.told host_id header s p read passes ∙ ap Told own))
      (λ k is own. ap named_in is ∙ sym (sender.told host_id header s p read passes ∙ ap Told own)))
