-- What is to be placed: one flat list, in record and slot order, of every BAR and every open window. A window is sized from what lies on
-- the bus below it, laid out from offset 0. Assumes nothing.
use Rattle.std.specs.Prelude.{Bool, true, false, cond, List, [], ◌∷◌, ◌++◌, ℕ, suc, ◌*◌, max, eqb}
use Rattle.arith.specs.Align.{align_up}
use Rattle.plan_rule.specs.Pools.{Pool, low, high, io, granule}
use Rattle.plan_rule.specs.Records.{Bar, Function}
use Rattle.plan_rule.specs.Layout.{bar, window, Piece, select, layout_end, largest_align}

abbrev pub bar_piece : ℕ → ℕ → Bar → Piece
bar_piece k b x = record { owner = k; part = bar x.slot; bus = b; pool = x.pool; size = x.size; align = x.size }

unfoldable pub bar_pieces : ℕ → ℕ → List Bar → List Piece
bar_pieces k b [] = []
bar_pieces k b (x ∷ xs) = bar_piece k b x ∷ bar_pieces k b xs

-- A window over a content that ends at `end` and has this largest alignment
abbrev pub window_size : Pool → ℕ → ℕ
window_size q end = align_up (granule q) end

abbrev pub window_align : Pool → ℕ → ℕ
window_align q largest = max (granule q) largest

abbrev pub window_piece : ℕ → ℕ → Pool → ℕ → ℕ → Piece
window_piece k b q end largest =
    record { owner = k; part = window; bus = b; pool = q; size = window_size q end; align = window_align q largest }

-- The window of record k, itself on bus b, over its content in pool q: none where there is nothing inside
abbrev pub window_over : ℕ → ℕ → Pool → List Piece → List Piece
window_over k b q [] = []
window_over k b q (p ∷ ps) = window_piece k b q (layout_end 0 (p ∷ ps)) (largest_align (p ∷ ps)) ∷ []

-- Room kept free at the end of a bridge's low window: one more item where its bus is sized, and placed nowhere
abbrev pub spare_piece : ℕ → ℕ → Piece
spare_piece k n = record { owner = k; part = window; bus = k; pool = low; size = n * granule low; align = granule low }

abbrev pub spare_if : Bool → ℕ → ℕ → List Piece
spare_if true k n = []
spare_if false k n = spare_piece k n ∷ []

abbrev pub spare_pieces : ℕ → ℕ → Pool → List Piece
spare_pieces k n low = spare_if (eqb n 0) k n
spare_pieces k n high = []
spare_pieces k n io = []

-- What the window of record k, with n MiB of spare room, is sized by
abbrev pub content_of : ℕ → ℕ → Pool → List Piece → List Piece
content_of k n q rest = select k q rest ++ spare_pieces k n q

unfoldable pub window_pieces : ℕ → ℕ → ℕ → List Piece → List Piece
window_pieces k b n rest =
    window_over k b low (content_of k n low rest)
    ++ (window_over k b high (content_of k n high rest) ++ window_over k b io (content_of k n io rest))

-- The pieces of record k: its BARs in slot order, then a bridge's windows over what the later records put on its bus
unfoldable pub own_pieces : ℕ → Function → List Piece → List Piece
own_pieces k f rest =
    let w = window_pieces k f.parent f.spare_low rest in
    bar_pieces k f.parent f.bars ++ cond f.bridge w []

-- The pieces of all records of the list, the first of which has number k
unfoldable pub pieces : ℕ → List Function → List Piece
pieces k [] = []
pieces k (f ∷ fs) = let rest = pieces (suc k) fs in own_pieces k f rest ++ rest
