-- The pass that places, record by record: the cursors of every bus before the record at index i, which has number i + 1. Assumes nothing.
use Rattle.std.specs.Prelude.{ℕ, zero, suc, List, [], ◌∷◌}
use Rattle.plan_rule.specs.Records.{Host, Function}
use Rattle.plan_rule.specs.Pieces.{own_pieces, pieces}
use Rattle.plan_rule.specs.Placing.{Cursors, cursors_after, from_bases}

-- with the records from number k on still to come
unfoldable pub cursors_from : Cursors → ℕ → List Function → ℕ → Cursors
cursors_from c k fs zero = c
cursors_from c k [] (suc i) = c
cursors_from c k (f ∷ fs) (suc i) = cursors_from (cursors_after c (own_pieces k f (pieces (suc k) fs))) (suc k) fs i

abbrev pub cursors_at : Host → List Function → ℕ → Cursors
cursors_at h fs i = cursors_from (from_bases h) 1 fs i
