-- The router's answer as numbers, in the words of the code. Assumes nothing.
use Rattle.std.specs.Prelude.{ℕ, ◌≡◌, refl, List, ◌∷◌, ◌++◌}
use Rattle.std.proofs.Common.{sym, ap, ◌∙◌}
use Rattle.packet_numbers.specs.Numbers.{numbers_of}
use Rattle.route_list.specs.Counted.{counted}
use Rattle.route_answer.specs.declared.Routing.{Routing}
use Rattle.route_answer.specs.declared.Routing.TheVariants.{Delivered, Broadcast, Port, Refused as NotDelivered}
use Rattle.route.specs.Route.{route_of}
use Rattle.route.specs.Listed.{list_of}
use Rattle.route.proofs.ListedLaws.{list_of_broadcast}
use Rattle.capi_answers.specs.Answers.{Answer, gives, returned, filled}
use Rattle.capi_answers.proofs.AnswersLaws.{Answered}
use Rattle.capi_routing.specs.Routing.{on_routing}
use Rattle.capi_route.specs.Calls.{route_answer}

-- a broadcast's list has the numbers 1 to the count
pub answer_over_sheet : (header s : List ℕ) → on_routing (route_of header s) (counted 1) ≡ route_answer header s
answer_over_sheet header s = go (route_of header s) refl
  where
    go : (r : Routing) → route_of header s ≡ r → on_routing r (counted 1) ≡ on_routing r (λ n. list_of s)
    go (Delivered d) f = refl
    go (Broadcast n p) f =
        ap (λ (list : List ℕ). gives (0 ∷ n ∷ (numbers_of p ++ list))) (sym (list_of_broadcast header s n p f))
    go (Port p) f = refl
    go (NotDelivered n) f = refl

-- o is what the router answers
pub route_answered : (header s slice : List ℕ) (o : Routing) → o ≡ route_of header s → (r : ℕ) (after : List ℕ)
    → Answered (on_routing o (counted 1)) slice r after → Answered (route_answer header s) slice r after
route_answered header s slice o e r after given =
    let same = ap (λ (x : Routing). on_routing x (counted 1)) e ∙ answer_over_sheet header s in
    (given.0 ∙ ap (λ (a : Answer). returned a slice) same, given.1 ∙ ap (λ (a : Answer). filled a slice) same)
