-- What the call that walks a header over a sheet answers, from document 01's definitions. Assumes nothing.
use Rattle.std.specs.Prelude.{ℕ, List}
use Rattle.route.specs.Route.{route_of}
use Rattle.route.specs.Listed.{list_of}
use Rattle.capi_answers.specs.Answers.{Answer}
use Rattle.capi_routing.specs.Routing.{on_routing}

-- a broadcast's list is that of the sheet's record numbers
abbrev pub route_answer : List ℕ → List ℕ → Answer
route_answer header sheet = on_routing (route_of header sheet) (λ n. list_of sheet)
