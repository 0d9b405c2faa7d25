-- What the search by an index answers as numbers. Assumes nothing.
use Rattle.std.specs.Prelude.{ℕ, List}
use Rattle.route_list.specs.Counted.{counted}
use Rattle.index_search.specs.Search.{search_of}
use Rattle.capi_answers.specs.Answers.{Answer}
use Rattle.capi_routing.specs.Routing.{on_routing}

-- the functions of an index are records 1 to their count
abbrev pub find_answer : List ℕ → List ℕ → Answer
find_answer header index = on_routing (search_of header index) (counted 1)
