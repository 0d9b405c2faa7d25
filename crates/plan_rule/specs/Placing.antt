-- Placing: one pass over the pieces, with a cursor for each bus and pool. Assumes nothing.
use Rattle.std.specs.Prelude.{Bool, cond, ◌&&◌, List, [], ◌∷◌, ℕ, ◌+◌, eqb}
use Rattle.plan_rule.specs.Pools.{Pool, same_pool}
use Rattle.plan_rule.specs.Records.{Host, Function}
use Rattle.plan_rule.specs.Layout.{Piece, Placed, is_on, is_window, start_at}
use Rattle.plan_rule.specs.Pieces.{pieces}

-- The end before the next item, for each bus and pool
abbrev pub Cursors : Type 0
Cursors = ℕ → Pool → ℕ

-- Is the piece the window of bridge b in pool q?
abbrev pub is_window_of : ℕ → Pool → Piece → Bool
is_window_of b q p = is_window p.part && eqb p.owner b && same_pool p.pool q

-- With p placed at s, the cursor of its bus stands at its end, and a window opens the bus below at its start
abbrev pub moved : Cursors → Piece → ℕ → Cursors
moved c p s b q =
    let before = c b q in
    let in_bus = cond (is_on b q p) (s + p.size) before in
    cond (is_window_of b q p) s in_bus

unfoldable pub place : Cursors → List Piece → List Placed
place c [] = []
place c (p ∷ ps) =
    let s = start_at (c p.bus p.pool) p in
    record { piece = p; start = s } ∷ place (moved c p s) ps

-- The cursors after the pieces
unfoldable pub cursors_after : Cursors → List Piece → Cursors
cursors_after c [] = c
cursors_after c (p ∷ ps) = cursors_after (moved c p (start_at (c p.bus p.pool) p)) ps

-- The pool base counts as the end before the root bus's first item
abbrev pub from_bases : Host → Cursors
from_bases h b q = h.base q

-- Where everything on the board lies
unfoldable pub placed : Host → List Function → List Placed
placed h fs = place (from_bases h) (pieces 1 fs)
