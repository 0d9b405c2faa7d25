-- What the call answers by what the search does, where it has no owner or one. Assumes nothing.
use Rattle.std.specs.Prelude.{ℕ, ◌≡◌, List, ◌∷◌}
use Rattle.std.proofs.Common.{sym, ap, ◌∙◌}
use Rattle.packet_numbers.specs.Numbers.{numbers_of}
use Rattle.walk.specs.Walk.{no_owner}
use Rattle.route_list.specs.Counted.{counted}
use Rattle.route_answer.specs.declared.Delivery.{Delivery}
use Rattle.route_answer.specs.declared.Routing.{Routing}
use Rattle.route_answer.specs.declared.Routing.TheVariants.{Delivered, Refused}
use Rattle.index_search.specs.Search.{search_of}
use Rattle.capi_answers.specs.Answers.{refuses, gives}
use Rattle.capi_routing.specs.Routing.{on_routing}
use Rattle.capi_find.specs.Calls.{find_answer}

module _ (header ix : List ℕ) where
  pub find_none : search_of header ix ≡ Refused no_owner → find_answer header ix ≡ refuses 40
  find_none e = ap (λ (r : Routing). on_routing r (counted 1)) e

  -- ns are the numbers of the packet as it arrives
  pub find_owned : {d : Delivery} → search_of header ix ≡ Delivered d → (ns : List ℕ) → ns ≡ numbers_of d.packet
      → find_answer header ix ≡ gives (d.owner ∷ d.bridges ∷ ns)
  find_owned {d} e ns same =
      ap (λ (r : Routing). on_routing r (counted 1)) e ∙ ap (λ (ms : List ℕ). gives (d.owner ∷ d.bridges ∷ ms)) (sym same)
