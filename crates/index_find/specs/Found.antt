-- What an index says of a key. Assumes nothing.
use Rattle.std.specs.Prelude.{ℕ, cond, List, eqb}
use Rattle.walk.specs.Walk.{Outcome, refused, no_owner}
use Rattle.index_search.specs.Search.{functions_in, answer_over}

-- no functions have no owner
unfoldable pub outcome_at : List ℕ → ℕ → Outcome
outcome_at ix key = cond (eqb (functions_in ix) 0) (refused no_owner) (answer_over ix (functions_in ix) key)
