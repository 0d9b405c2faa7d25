-- Every packet has one sender; and where no bus has two claims, at most one receiver. Assumes nothing.
use Rattle.std.specs.Prelude.{◌≡◌, refl, ◌⊎◌, Bool, true, false, cond, List, [], ◌∷◌, ℕ, ◌/◌, ◌%◌, ◌≤◌, eqb, length}
use Rattle.std.proofs.Common.{sym, ap, subst, ◌∙◌, inl, inr, suc-ne-zero, arith, eqb-true, eq-eqb}
use mathlib.Core.List.Memᴰ
use Rattle.std.proofs.lemmas.Bool.{eqb-false}
use Rattle.lists.specs.Lists.{◌∈◌, keep}
use Rattle.lists.specs.KeepLaws.{keep_elim, keep_intro}
use Rattle.refusals.specs.Refusals.{IsRefusal}
use Rattle.packet.specs.declared.Packet.{Packet}
use Rattle.tlp.specs.declared.Reading.TheVariants.{Accepted as Read}
use Rattle.tlp.specs.Reading.{read_of}
use Rattle.walk.specs.Registers.{Node}
use Rattle.walk.specs.Walk.{Outcome, delivered, refused, no_owner}
use Rattle.walk.specs.Ids.{has_id, DistinctIds}
use Rattle.walk.proofs.IdsLaws.{has_id_elim}
use Rattle.sheet.specs.Sheet.{sheet_number}
use Rattle.sheet.specs.Spaces.{nodes_of}
use Rattle.claims.specs.declared.Aim.{Aim}
use Rattle.route_arrival.specs.declared.Heading.{Heading}
use Rattle.route_arrival.specs.declared.Heading.TheVariants.{Aimed, Up, Every, Port as ToPort}
use Rattle.route_arrival.specs.Arrival.{heading_of, type_wrong}
use Rattle.route_answer.specs.declared.Routing.{Routing}
use Rattle.route_answer.specs.declared.Routing.TheVariants.{Delivered as Routed, Broadcast, Port as RoutedPort, Refused as NotRouted}
use Rattle.route_answer.specs.Routing.{answer, headed_over, wrong_type}
use Rattle.route.specs.Route.{walked, root, from42, route_packet, route_of}
use Rattle.route_sender.specs.declared.Sender.{Sender}
use Rattle.route_sender.specs.declared.Sender.TheVariants.{Host as HostSends, Function}
use Rattle.route_sender.specs.declared.SentBy.TheVariants.{Told}
use Rattle.route_sender.specs.Sender.{named_by, starts_at_host, sender_of, sent_by_of}
use Rattle.route_sender.specs.NamedLaws.{host_only, host_named, nobody_named, function_named, told}
use Rattle.route_sent.specs.declared.Fate.{Fate}
use Rattle.route_sent.specs.declared.Fate.TheVariants.{Delivered, Host, Port, Refused}
use Rattle.route_sent.specs.declared.BothEnds.TheVariants.{FromHost, FromFunction, Refused as NotSent}
use Rattle.route_sent.specs.declared.BothEnds as declared
use Rattle.route_sent.specs.BothEnds.{both_ends_of, number_of}
use Rattle.route_sent.proofs.NumberLaws as numbers
use Rattle.route_sent.proofs.RequestLaws.{host_routed, routed, sender_agrees}
use Rattle.route_answer.proofs.NumberLaws as routing_numbers
use Rattle.request_sent.specs.BothEnds.{StartsAtHost, StartsAt, Sends, Receiver, function, the_host, the_port, Gets, OneOfEach}

-- ## The sender

pub host_sends : (host_id : ℕ) (p : Packet) (t : List ℕ) → StartsAtHost host_id p t → sender_of host_id p t ≡ HostSends
host_sends host_id p t (inl e) = host_only host_id p t e
host_sends host_id p t (inr (inl e)) = host_named host_id p t e
host_sends host_id p t (inr (inr none)) =
    nobody_named host_id p t (λ n h. none n.number (record { function = n; has_id_lem = h; number_is = refl }))

pub function_sends : (host_id : ℕ) (p : Packet) (t : List ℕ) → DistinctIds (nodes_of t) → (k : ℕ) → StartsAt host_id p t k
    → sender_of host_id p t ≡ Function k
function_sends host_id p t distinct k s =
    function_named host_id p t distinct s.not_hosts_own s.not_host_named s.has_id_lem.function s.has_id_lem.has_id_lem
    ∙ ap Function s.has_id_lem.number_is

pub some_sender : (host_id : ℕ) (p : Packet) (t : List ℕ) → StartsAtHost host_id p t ⊎ ((k : ℕ) × StartsAt host_id p t k)
some_sender host_id p t =
    go (starts_at_host p) refl (eqb (named_by p) host_id) refl (keep (has_id (named_by p / 256) (named_by p % 256)) (nodes_of t)) refl
  where
    go : (a : Bool) → starts_at_host p ≡ a → (b : Bool) → eqb (named_by p) host_id ≡ b
        → (ns : List Node) → keep (has_id (named_by p / 256) (named_by p % 256)) (nodes_of t) ≡ ns
        → StartsAtHost host_id p t ⊎ ((k : ℕ) × StartsAt host_id p t k)
    go true e b f ns is = inl (inl e)
    go false e true f ns is = inl (inr (inl (eqb-true _ _ f)))
    go false e false f [] is =
        inl (inr (inr (λ k h.
        let n = h.function in
        let at = eq-eqb n.bus (named_by p / 256) h.has_id_lem.bus_is in
        let same = eq-eqb n.devfn (named_by p % 256) h.has_id_lem.devfn_is in
        Memᴰ.not-nil (rw is at (keep_intro (has_id (named_by p / 256) (named_by p % 256)) (nodes_of t) h.has_id_lem.in_sheet
        (rw (at, same) refl))))))
    go false e false f (n ∷ ns) is =
        let there : n ∈ keep (has_id (named_by p / 256) (named_by p % 256)) (nodes_of t) = rw is (Memᴰ.head refl) in
        let (inside, has) = keep_elim (has_id (named_by p / 256) (named_by p % 256)) (nodes_of t) there in
        let (bus, devfn) = has_id_elim (named_by p / 256) (named_by p % 256) n has in
        inr (
          n.number,
          record {
            not_hosts_own = e;
            not_host_named = eqb-false _ _ f;
            has_id_lem = record {
              function = n;
              has_id_lem = record { in_sheet = inside; bus_is = bus; devfn_is = devfn };
              number_is = refl;
            };
          },
        )

-- ## Every sender

sender_is : (host_id : ℕ) (p : Packet) (t : List ℕ) → DistinctIds (nodes_of t) → (x : Sender) → Sends host_id p t x → sender_of host_id p t ≡ x
sender_is host_id p t distinct HostSends s = host_sends host_id p t s
sender_is host_id p t distinct (Function k) s = function_sends host_id p t distinct k s

sends_it : (host_id : ℕ) (p : Packet) (t : List ℕ) → DistinctIds (nodes_of t) → Sends host_id p t (sender_of host_id p t)
sends_it host_id p t distinct = go (some_sender host_id p t)
  where
    go : StartsAtHost host_id p t ⊎ ((k : ℕ) × StartsAt host_id p t k) → Sends host_id p t (sender_of host_id p t)
    go (inl s) = subst (Sends host_id p t) (sym (host_sends host_id p t s)) s
    go (inr (k, s)) = subst (Sends host_id p t) (sym (function_sends host_id p t distinct k s)) s

-- ## A broadcast is a message 011, and there are functions

broadcast_elim : (p : Packet) (s : List ℕ) (n : ℕ) (q : Packet) → route_packet p s ≡ Broadcast n q → (heading_of p ≡ Every) × (1 ≤ n)
unfolding route_packet from42
broadcast_elim p s n q e = go (eqb (length (nodes_of s)) 0) refl (type_wrong (root s) p) (heading_of p) refl e
  where
    looked : (o : Outcome) → ¬ (answer p o ≡ Broadcast n q)
    looked (delivered number crossed) e = suc-ne-zero 0 (cc)
    looked (refused m) e = suc-ne-zero 0 (cc)

    go : (b : Bool) → eqb (length (nodes_of s)) 0 ≡ b → (w : Bool) (h : Heading) → heading_of p ≡ h
        → cond b (NotRouted no_owner) (cond w (NotRouted wrong_type)
        (headed_over (length (nodes_of s)) (λ (aim : Aim). walked aim s (root s) 0) h p)) ≡ Broadcast n q
        → (heading_of p ≡ Every) × (1 ≤ n)
    go true z w h f e = absurd (suc-ne-zero 0 (cc))
    go false z true h f e = absurd (suc-ne-zero 0 (cc))
    go false z false (Aimed aim) f e = absurd (looked (walked aim s (root s) 0) e)
    go false z false Up f e = absurd (suc-ne-zero 0 (cc))
    go false z false Every f e = let same : length (nodes_of s) ≡ n = cc in (f, omega (arith, eqb-false (length (nodes_of s)) 0 z, same))
    go false z false ToPort f e = absurd (suc-ne-zero 0 (cc))

-- ## At most one receiver

module _ (host_id : ℕ) (header t : List ℕ) (p : Packet) (read : read_of header ≡ Read p) (passes : sheet_number t ≡ 0) where
  broadcast_of : (n : ℕ) (q : Packet) → both_ends_of host_id header t ≡ FromHost (Broadcast n q) → (heading_of p ≡ Every) × (1 ≤ n)
  broadcast_of n q e =
      broadcast_elim p t n q (routed host_id header t p read passes ∙ sym (host_routed host_id header t (Broadcast n q) e))

  one_receiver : ¬ (heading_of p ≡ Every) → (r : declared.BothEnds) → both_ends_of host_id header t ≡ r
      → (a b : Receiver) → Gets r a → Gets r b → a ≡ b
  one_receiver other (FromHost (Routed d)) e a b x y = x ∙ sym y
  one_receiver other (FromHost (Broadcast n q)) e a b x y = absurd (other (broadcast_of n q e).0)
  one_receiver other (FromHost (RoutedPort q)) e a b x y = x ∙ sym y
  one_receiver other (FromHost (NotRouted n)) e a b x y = absurd x
  one_receiver other (FromFunction k (Delivered d)) e a b x y = x ∙ sym y
  one_receiver other (FromFunction k (Host bridges q)) e a b x y = x ∙ sym y
  one_receiver other (FromFunction k (Port q)) e a b x y = x ∙ sym y
  one_receiver other (FromFunction k (Refused n)) e a b x y = absurd x
  one_receiver other (NotSent n) e a b x y = absurd x

  gets_or_number : (r : declared.BothEnds) → both_ends_of host_id header t ≡ r → numbers.Numbered r
      → ((a : Receiver) × Gets r a) ⊎ IsRefusal (number_of r)
  gets_or_number (FromHost (Routed d)) e h = inl (function d.owner, refl)
  gets_or_number (FromHost (Broadcast n q)) e h = inl (function 1, (1, refl, omega arith, (broadcast_of n q e).1))
  gets_or_number (FromHost (RoutedPort q)) e h = inl (the_port, refl)
  gets_or_number (FromHost (NotRouted n)) e h = inr h
  gets_or_number (FromFunction k (Delivered d)) e h = inl (function d.owner, refl)
  gets_or_number (FromFunction k (Host bridges q)) e h = inl (the_host, refl)
  gets_or_number (FromFunction k (Port q)) e h = inl (the_port, refl)
  gets_or_number (FromFunction k (Refused n)) e h = inr h
  gets_or_number (NotSent n) e h = inr h

  pub one_of_each : DistinctIds (nodes_of t) → ¬ (number_of (both_ends_of host_id header t) ≡ 41) → OneOfEach host_id t header p
  one_of_each distinct not_41 =
      record {
        sender = sender_of host_id p t;
        sends = sends_it host_id p t distinct;
        only_sender = λ x s. sym (sender_is host_id p t distinct x s);
        told = told host_id header t p read passes;
        named = sender_agrees host_id header t ∙ told host_id header t p read passes;
        one_receiver = λ other. one_receiver other (both_ends_of host_id header t) refl;
        gets_or_number = gets_or_number (both_ends_of host_id header t) refl (numbers.numbered_ends host_id header t);
        never_both = never_both (both_ends_of host_id header t);
        never_contested = not_41;
      }
    where
      never_both : (r : declared.BothEnds) (a : Receiver) → Gets r a → number_of r ≡ 0
      never_both (FromHost (Routed d)) a x = refl
      never_both (FromHost (Broadcast n q)) a x = refl
      never_both (FromHost (RoutedPort q)) a x = refl
      never_both (FromHost (NotRouted n)) a x = absurd x
      never_both (FromFunction k (Delivered d)) a x = refl
      never_both (FromFunction k (Host bridges q)) a x = refl
      never_both (FromFunction k (Port q)) a x = refl
      never_both (FromFunction k (Refused n)) a x = absurd x
      never_both (NotSent n) a x = absurd x
