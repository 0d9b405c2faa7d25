-- The open buses in three arrays, level 0 the host's: what the pass over a board's functions keeps. Assumes nothing.
use Rattle.std.specs.Prelude.{ℕ, zero, suc, ◌+◌, cond, Option, None, Some, List, [], ◌∷◌, get_or, eqb}
use Rattle.board_record.specs.declared.Function.{Function}
use Rattle.board_record.specs.Function.{is_bridge}
use Rattle.board_order.specs.Stack.{Level}

abbrev pub level_at : List ℕ → List ℕ → List ℕ → ℕ → Level
level_at buses nexts shared i = record { bus = get_or buses i 0; next = get_or nexts i 0; shared = get_or shared i 0 }

-- the first n levels, deepest first
unfoldable pub deepest : List ℕ → List ℕ → List ℕ → ℕ → List Level
deepest buses nexts shared zero = []
deepest buses nexts shared (suc n) = level_at buses nexts shared n ∷ deepest buses nexts shared n

-- the deepest of the first n levels that is the bus of record p
unfoldable pub found_in : ℕ → List ℕ → ℕ → Option ℕ
found_in p buses zero = None
found_in p buses (suc n) = let rest = found_in p buses n in cond (eqb p (get_or buses n 0)) (Some n) rest

-- how many are open after a function at level i
abbrev pub open_after : ℕ → Function → ℕ
open_after i f = cond (is_bridge f) (i + 2) (i + 1)
