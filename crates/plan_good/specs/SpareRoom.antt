-- Document 02, E10, of a bridge and its spare low memory: "Spare memory is added to the rounded end of its low window, which is then open
-- even with nothing below", and "no function owns an address in spare room". Assumes nothing.
use Rattle.std.specs.Prelude.{◌≡◌, ◌⊎◌, ◌↔◌, List, [], ℕ, ◌+◌, ◌-◌, ◌*◌, ◌≤◌, ◌<◌}
use Rattle.arith.specs.Align.{align_up}
use Rattle.lists.specs.Lists.{◌∈◌, Some}
use Rattle.pools.specs.declared.Space.TheVariants.{Memory as memory_space}
use Rattle.plan_rule.specs.Pools.{low, granule}
use Rattle.plan_rule.specs.Records.{Host, Function}
use Rattle.plan_rule.specs.Layout.{Piece, Placed, end_of, select, layout_end, largest_align}
use Rattle.plan_rule.specs.Pieces.{window_align, pieces}
use Rattle.plan_rule.proofs.PieceLaws.{WindowOf}
use Rattle.plan_rule.specs.Placing.{placed}
use Rattle.plan_rule.proofs.Placed.{Holds}
use Rattle.plan_good.specs.Delivery.{BarHolds}

-- f's spare room, in addresses
abbrev pub room_of : Function → ℕ
room_of f = f.spare_low * granule low

-- w is the low window of record k
abbrev pub LowWindow : ℕ → Placed → Type 0
LowWindow k w = WindowOf k low w.piece

-- what lies on record k's bus in the low pool, and its end, laid out from offset 0
abbrev pub on_bus : List Function → ℕ → List Piece
on_bus fs k = select k low (pieces 1 fs)

abbrev pub content_end : List Function → ℕ → ℕ
content_end fs k = layout_end 0 (on_bus fs k)

-- The low window of the bridge f, record k, is open exactly where f has spare room or something lies on its bus
abbrev pub OpenExactly : Host → List Function → ℕ → Function → Type 0
OpenExactly h fs k f = Some (LowWindow k) (placed h fs) ↔ ((f.spare_low ≡ 0 → ⊥) ⊎ (on_bus fs k ≡ [] → ⊥))

-- The spare room in w, the low window of the bridge f, record k
pub record RoomKept (h : Host) (fs : List Function) (k : ℕ) (f : Function) (w : Placed) : Type 0 where
  -- "added to the rounded end"
  pub added : w.piece.size ≡ align_up (granule low) (content_end fs k) + room_of f
  -- the window is aligned as it was without
  pub align_kept : w.piece.align ≡ window_align low (largest_align (on_bus fs k))
  -- what lies in the window ends before the spare room
  pub free : (x : Placed) → x ∈ placed h fs → Holds x w → end_of x + room_of f ≤ end_of w

-- a is an address in the spare room of f, at the end of its low window w
pub record InSpareRoom (f : Function) (w : Placed) (a : ℕ) : Type 0 where
  pub from_content : end_of w - room_of f ≤ a
  pub in_window : a < end_of w

-- a is an address in the window w that nothing on its bus holds
pub record InGap (xs : List Placed) (w : Placed) (a : ℕ) : Type 0 where
  pub from_start : w.start ≤ a
  pub in_window : a < end_of w
  pub not_held : (x : Placed) → x ∈ xs → Holds x w → x.start ≤ a → end_of x ≤ a

-- No function has a BAR in memory space over the address
abbrev pub NobodyAt : Host → List Function → ℕ → Type 0
NobodyAt h fs a = (j : ℕ) → Some (BarHolds memory_space j a) (placed h fs) → ⊥
