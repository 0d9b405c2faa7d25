-- Both ends as numbers, in the words of the code: a host ID that fits, and a broadcast's list. Assumes nothing.
use Rattle.std.specs.Prelude.{ℕ, ◌≤◌, ◌<◌, ◌≡◌, refl, List, [], ◌∷◌, ◌++◌}
use Rattle.std.proofs.Common.{sym, ap, ◌∙◌, lt-ltb, le-ltb}
use Rattle.packet_numbers.specs.Numbers.{numbers_of}
use Rattle.route_list.specs.Counted.{counted}
use Rattle.route_answer.specs.declared.Routing.{Routing}
use Rattle.route_answer.specs.declared.Routing.TheVariants.{Delivered as Routed, Broadcast, Port as RoutedPort, Refused as NotRouted}
use Rattle.route.specs.Route.{route_of}
use Rattle.route.specs.Listed.{list_of}
use Rattle.route.proofs.ListedLaws.{list_of_broadcast}
use Rattle.route_sender.specs.declared.Sender.{Sender}
use Rattle.route_sender.specs.declared.SentBy.{SentBy}
use Rattle.route_sender.specs.declared.SentBy.TheVariants.{Told}
use Rattle.route_sender.specs.Sender.{sent_by_of}
use Rattle.route_sent.specs.declared.BothEnds.{BothEnds}
use Rattle.route_sent.specs.declared.BothEnds.TheVariants.{FromHost, FromFunction, Refused as NotSent}
use Rattle.route_sent.specs.BothEnds.{both_ends_of}
use Rattle.route_sent.proofs.RequestLaws.{host_routed}
use Rattle.capi_answers.specs.Answers.{Answer, refuses, gives, returned, filled}
use Rattle.capi_answers.proofs.AnswersLaws.{Answered}
use Rattle.capi_sent.specs.Calls.{below_host, sender_number, on_sent_by, sender_answer, on_routing, on_ends, ends_answer}

-- ## The host's ID

module _ (host_id : ℕ) (a : Answer) (slice : List ℕ) where
  pub id_wide : 65535 < host_id → Answered (below_host host_id a) slice 10 slice
  id_wide h = (rw (lt-ltb 65535 host_id h), rw (lt-ltb 65535 host_id h))

  pub id_fits : host_id ≤ 65535 → (r : ℕ) (after : List ℕ) → Answered a slice r after → Answered (below_host host_id a) slice r after
  id_fits h r after given = (rw (le-ltb 65535 host_id h) given.0, rw (le-ltb 65535 host_id h) given.1)

-- ## Who sends

pub sender_given : (x : Sender) (n : ℕ) (slice : List ℕ) → n ≡ sender_number x → (r : ℕ) (after : List ℕ)
    → Answered (gives (n ∷ [])) slice r after → Answered (on_sent_by (Told x)) slice r after
sender_given x n slice e r after given =
    (given.0 ∙ ap (λ (m : ℕ). returned (gives (m ∷ [])) slice) e, given.1 ∙ ap (λ (m : ℕ). filled (gives (m ∷ [])) slice) e)

pub sender_answered : (host_id : ℕ) (header s slice : List ℕ) → host_id ≤ 65535 → (o : SentBy) → o ≡ sent_by_of host_id header s
    → (r : ℕ) (after : List ℕ) → Answered (on_sent_by o) slice r after → Answered (sender_answer host_id header s) slice r after
sender_answered host_id header s slice fits o e r after given =
    id_fits host_id (on_sent_by (sent_by_of host_id header s)) slice fits r after
    (given.0 ∙ ap (λ (x : SentBy). returned (on_sent_by x) slice) e, given.1 ∙ ap (λ (x : SentBy). filled (on_sent_by x) slice) e)

-- ## A broadcast's list has the numbers 1 to the count

pub ends_over_sheet : (host_id : ℕ) (header s : List ℕ)
    → on_ends (both_ends_of host_id header s) (counted 1) ≡ on_ends (both_ends_of host_id header s) (λ n. list_of s)
ends_over_sheet host_id header s = go (both_ends_of host_id header s) refl
  where
    from_host_lem : (r : Routing) → both_ends_of host_id header s ≡ FromHost r → on_routing r (counted 1) ≡ on_routing r (λ n. list_of s)
    from_host_lem (Routed d) e = refl
    from_host_lem (Broadcast n p) e =
        ap (λ (list : List ℕ). gives (0 ∷ 3 ∷ 0 ∷ n ∷ (numbers_of p ++ list)))
        (sym (list_of_broadcast header s n p (sym (host_routed host_id header s (Broadcast n p) e))))
    from_host_lem (RoutedPort p) e = refl
    from_host_lem (NotRouted n) e = refl

    go : (r : BothEnds) → both_ends_of host_id header s ≡ r → on_ends r (counted 1) ≡ on_ends r (λ n. list_of s)
    go (FromHost r) e = from_host_lem r e
    go (FromFunction number f) e = refl
    go (NotSent n) e = refl

-- o is what becomes of the packet
pub ends_answered : (host_id : ℕ) (header s slice : List ℕ) → host_id ≤ 65535 → (o : BothEnds) → o ≡ both_ends_of host_id header s
    → (r : ℕ) (after : List ℕ) → Answered (on_ends o (counted 1)) slice r after → Answered (ends_answer host_id header s) slice r after
ends_answered host_id header s slice fits o e r after given =
    let same = ap (λ (x : BothEnds). on_ends x (counted 1)) e ∙ ends_over_sheet host_id header s in
    id_fits host_id (on_ends (both_ends_of host_id header s) (λ n. list_of s)) slice fits r after
    (given.0 ∙ ap (λ (a : Answer). returned a slice) same, given.1 ∙ ap (λ (a : Answer). filled a slice) same)
