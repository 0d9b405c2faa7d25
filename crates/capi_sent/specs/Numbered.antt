-- No refusal of the calls on both ends has the number 0. Assumes nothing.
use Rattle.std.specs.Prelude.{ℕ, Bool, true, false, cond, List, ltb}
use Rattle.std.proofs.Common.{arith}
use Rattle.route_answer.specs.declared.Routing.{Routing}
use Rattle.route_answer.specs.declared.Routing.TheVariants.{Delivered as Routed, Broadcast, Port as RoutedPort, Refused as NotRouted}
use Rattle.route_answer.proofs.NumberLaws as routing_numbers
use Rattle.route.specs.Listed.{list_of}
use Rattle.route_sender.specs.declared.SentBy.{SentBy}
use Rattle.route_sender.specs.declared.SentBy.TheVariants.{Told, Refused as NotTold}
use Rattle.route_sender.specs.Sender.{sent_by_of}
use Rattle.route_sender.specs.NamedLaws as sender_numbers
use Rattle.route_sent.specs.declared.Fate.{Fate}
use Rattle.route_sent.specs.declared.Fate.TheVariants.{Delivered, Host, Port, Refused}
use Rattle.route_sent.specs.declared.BothEnds.{BothEnds}
use Rattle.route_sent.specs.declared.BothEnds.TheVariants.{FromHost, FromFunction, Refused as NotSent}
use Rattle.route_sent.specs.BothEnds.{both_ends_of}
use Rattle.route_sent.proofs.NumberLaws as ends_numbers
use Rattle.capi_answers.specs.Answers.{Answer, refuses}
use Rattle.capi_answers.proofs.AnswersLaws.{Numbered}
use Rattle.capi_sent.specs.Calls.{below_host, on_sent_by, sender_answer, on_routing, on_fate, on_ends, ends_answer}

numbered_below : (host_id : ℕ) (a : Answer) → Numbered a → Numbered (below_host host_id a)
numbered_below host_id a h = go (ltb 65535 host_id)
  where
    go : (b : Bool) → Numbered (cond b (refuses 10) a)
    go true = omega arith
    go false = h

pub numbered_sender : (host_id : ℕ) (header sheet : List ℕ) → Numbered (sender_answer host_id header sheet)
numbered_sender host_id header sheet =
    numbered_below host_id (on_sent_by (sent_by_of host_id header sheet))
    (go (sent_by_of host_id header sheet) (sender_numbers.numbered_sender host_id header sheet))
  where
    go : (r : SentBy) → sender_numbers.Numbered r → Numbered (on_sent_by r)
    go (Told x) h = tt
    go (NotTold n) h = h.0

pub numbered_ends : (host_id : ℕ) (header sheet : List ℕ) → Numbered (ends_answer host_id header sheet)
numbered_ends host_id header sheet =
    numbered_below host_id (on_ends (both_ends_of host_id header sheet) list)
    (go (both_ends_of host_id header sheet) (ends_numbers.numbered_ends host_id header sheet))
  where
    list : ℕ → List ℕ
    list n = list_of sheet

    from_host_lem : (r : Routing) → routing_numbers.Numbered r → Numbered (on_routing r list)
    from_host_lem (Routed d) h = tt
    from_host_lem (Broadcast n p) h = tt
    from_host_lem (RoutedPort p) h = tt
    from_host_lem (NotRouted n) h = h.0

    from_function_lem : (number : ℕ) (f : Fate) → ends_numbers.NumberedFate f → Numbered (on_fate number f)
    from_function_lem number (Delivered d) h = tt
    from_function_lem number (Host bridges p) h = tt
    from_function_lem number (Port p) h = tt
    from_function_lem number (Refused n) h = h.0

    go : (r : BothEnds) → ends_numbers.Numbered r → Numbered (on_ends r list)
    go (FromHost r) h = from_host_lem r h
    go (FromFunction number f) h = from_function_lem number f h
    go (NotSent n) h = h.0
