-- What is placed, and the layout of one bus in one pool: each piece starts at the first multiple of its alignment at or after the end of
-- the one before. Assumes nothing.
use Rattle.std.specs.Prelude.{Bool, true, false, ◌&&◌, List, [], ◌∷◌, ℕ, ◌+◌, max, eqb}
use Rattle.arith.specs.Align.{align_up}
use Rattle.lists.specs.Lists.{keep}
use Rattle.plan_rule.specs.Pools.{Pool, same_pool}

-- A BAR by its slot, or the window of the piece's pool
pub data Part : Type 0 where
  bar : ℕ → Part
  window : Part

abbrev pub is_window : Part → Bool
is_window (bar n) = false
is_window window = true

-- `owner` is a record; `bus` is the record above it, whose secondary bus it is on
pub record Piece : Type 0 where
  pub owner : ℕ
  pub part : Part
  pub bus : ℕ
  pub pool : Pool
  pub size : ℕ
  pub align : ℕ

pub record Placed : Type 0 where
  pub piece : Piece
  pub start : ℕ

-- The first address past it
abbrev pub end_of : Placed → ℕ
end_of x = x.start + x.piece.size

-- Is the piece on bus b and of pool q?
abbrev pub is_on : ℕ → Pool → Piece → Bool
is_on b q p = eqb p.bus b && same_pool p.pool q

-- The pieces of pool q on bus b
abbrev pub select : ℕ → Pool → List Piece → List Piece
select b q = keep (is_on b q)

abbrev pub is_placed_on : ℕ → Pool → Placed → Bool
is_placed_on b q x = is_on b q x.piece

abbrev pub select_placed : ℕ → Pool → List Placed → List Placed
select_placed b q = keep (is_placed_on b q)

-- Where a piece starts, and where it ends, if the one before ends at e
abbrev pub start_at : ℕ → Piece → ℕ
start_at e p = align_up p.align e

abbrev pub end_at : ℕ → Piece → ℕ
end_at e p = start_at e p + p.size

-- The pieces laid out one after another from e, and where they end
unfoldable pub layout : ℕ → List Piece → List Placed
layout e [] = []
layout e (p ∷ ps) = record { piece = p; start = start_at e p } ∷ layout (end_at e p) ps

unfoldable pub layout_end : ℕ → List Piece → ℕ
layout_end e [] = e
layout_end e (p ∷ ps) = layout_end (end_at e p) ps

-- The largest alignment among them
unfoldable pub largest_align : List Piece → ℕ
largest_align [] = 0
largest_align (p ∷ ps) = max p.align (largest_align ps)
