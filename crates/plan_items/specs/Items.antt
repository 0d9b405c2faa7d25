-- What a board places in its pools, item by item: which runs out of its pool first, and before which most room is lost to alignment. A
-- closed pool has no base, and is laid out from 0; addresses are told up to 2^62, and no pool reaches 2^52. Assumes nothing.
use Rattle.std.specs.Prelude.{Bool, cond, ◌&&◌, ◌||◌, List, [], ◌∷◌, ℕ, suc, ◌+◌, ◌-◌, ltb}
use Rattle.plan_rule.specs.Pools.{Pool, same_pool}
use Rattle.plan_rule.specs.Records.{Host, Function}
use Rattle.plan_rule.specs.Layout.{Part, bar, window, Piece, is_on, start_at}
use Rattle.plan_rule.specs.Pieces.{pieces}
use Rattle.plan_rule.specs.Placing.{Cursors, moved, from_bases}
use Rattle.plan_rule.specs.Cap.{cap}
use Rattle.plan_needs.specs.Bases.{is_closed, laid_host}
use Rattle.finding.specs.declared.Party.{Party}
use Rattle.finding.specs.Places.{window_place, nobody}
use Rattle.finding.specs.First.{first}
use Rattle.plan_items.specs.declared.Loss.{Loss}

-- ## Items, in placing order

-- a piece, where it starts, and where the one before it on its bus ends
pub record Item : Type 0 where
  pub piece : Piece
  pub start : ℕ
  pub before : ℕ

abbrev pub item_at : ℕ → Piece → Item
item_at e p = record { piece = p; start = start_at e p; before = e }

unfoldable pub items_from : Cursors → List Piece → List Item
items_from c [] = []
items_from c (p ∷ ps) =
    let e = c p.bus p.pool in
    item_at e p ∷ items_from (moved c p (start_at e p)) ps

unfoldable pub items_of : Host → List Function → List Item
items_of h fs = items_from (from_bases (laid_host h)) (pieces 1 fs)

-- the record that an item is of, and its place there: a BAR's slot, or the window of its pool
abbrev pub place_of : Part → Pool → ℕ
place_of (bar slot) q = slot
place_of window q = window_place q

abbrev pub party_of : Item → Party
party_of x = record { number = x.piece.owner; place = place_of x.piece.part x.piece.pool }

abbrev pub item_end : Item → ℕ
item_end x = x.start + x.piece.size

-- ## 31 to 33: the first root bus item with its last byte above the pool's last; in a closed pool, the first of all

abbrev pub runs_out : Host → Pool → Item → Bool
runs_out h q x = is_on 0 q x.piece && (is_closed h q || ltb (suc (h.last q)) (item_end x))

unfoldable pub first_out : Host → List Function → Pool → Party
first_out h fs q = first (runs_out h q) party_of nobody (items_of h fs)

-- ## The item before which most room is lost to alignment, the first of those; nobody where none is

-- from the end before it to its start, each up to 2^62: past that nothing counts as lost
abbrev pub lost_before : Item → ℕ
lost_before x = cap x.start - cap x.before

abbrev pub no_loss : Loss
no_loss = record { party = nobody; room = 0 }

-- more is lost before x than what is known
abbrev pub larger : Loss → Item → Loss
larger most x = cond (ltb most.room (lost_before x)) (record { party = party_of x; room = lost_before x }) most

unfoldable pub most_lost_from : Pool → Loss → List Item → Loss
most_lost_from q most [] = most
most_lost_from q most (x ∷ xs) = most_lost_from q (cond (same_pool x.piece.pool q) (larger most x) most) xs

unfoldable pub most_lost : Host → List Function → Pool → Loss
most_lost h fs q = most_lost_from q no_loss (items_of h fs)
