-- Document 01, "Numbering and placing", for one function: from the cursors of its bus, where its BARs and a bridge's windows start, and the
-- cursors after them; and the values of its BAR registers. Assumes nothing.
use Rattle.std.specs.Prelude.{ℕ, ◌+◌, Bool, cond, List, [], ◌∷◌, ◌++◌, eqb, get_or, drop}
use Rattle.arith.specs.Align.{align_up}
use Rattle.pools.specs.declared.Pool.{Pool}
use Rattle.pools.specs.Pools.{same_pool}
use Rattle.bar.specs.declared.Slot.{Slot}
use Rattle.bar.specs.declared.Slot.TheVariants.{Unused, Bar, Upper, Bad}
use Rattle.bar.specs.Values.{value_of, registers_of}
use Rattle.window.specs.declared.Window.{Window}
use Rattle.window.specs.Window.{closed, opened}
use Rattle.plan_rule.specs.Pieces.{window_size, window_align}
use Rattle.plan_rule.specs.declared.Extent.{Extent}

-- The cursors of one bus: in each pool the end before the next item
abbrev pub Ends : Type 0
Ends = Pool → ℕ

-- ## BARs, in slot order

-- A BAR's alignment is its size
abbrev pub start_of : Ends → Slot → ℕ
start_of c Unused = 0
start_of c (Bar q wide size) = align_up size (c q)
start_of c Upper = 0
start_of c Bad = 0

abbrev pub after_bar : Ends → Slot → Ends
after_bar c Unused q = c q
after_bar c (Bar p wide size) q = cond (same_pool p q) (align_up size (c p) + size) (c q)
after_bar c Upper q = c q
after_bar c Bad q = c q

-- where the BARs start, one number for each slot
unfoldable pub bar_starts : Ends → List Slot → List ℕ
bar_starts c [] = []
bar_starts c (x ∷ xs) = start_of c x ∷ bar_starts (after_bar c x) xs

unfoldable pub after_bars : Ends → List Slot → Ends
after_bars c [] = c
after_bars c (x ∷ xs) = after_bars (after_bar c x) xs

-- the registers of a slot with this read-back and start: an upper half is among those of the BAR before
abbrev pub registers_at : Slot → ℕ → ℕ → List ℕ
registers_at Unused r start = 0 ∷ []
registers_at (Bar q wide size) r start = registers_of (Bar q wide size) (value_of (Bar q wide size) r start)
registers_at Upper r start = []
registers_at Bad r start = 0 ∷ []

-- the BAR registers from slots, read-backs and starts
unfoldable pub values_at : List Slot → List ℕ → List ℕ → List ℕ
values_at [] rs starts = []
values_at (x ∷ xs) rs starts = registers_at x (get_or rs 0 0) (get_or starts 0 0) ++ values_at xs (drop 1 rs) (drop 1 starts)

-- ## A bridge's window in pool q, with what is inside it, from the end before

-- nothing inside: closed, and no item
abbrev pub is_empty : Extent → Bool
is_empty inner = eqb inner.align 0

abbrev pub window_start : Pool → Extent → ℕ → ℕ
window_start q inner e = align_up (window_align q inner.align) e

abbrev pub window_stop : Pool → Extent → ℕ → ℕ
window_stop q inner e = window_start q inner e + window_size q inner.end

abbrev pub after_window : Pool → Extent → ℕ → ℕ
after_window q inner e = cond (is_empty inner) e (window_stop q inner e)

-- the cursor of the bus below: a window opens it at its start
abbrev pub below_window : Pool → Extent → ℕ → ℕ → ℕ
below_window q inner e below = cond (is_empty inner) below (window_start q inner e)

abbrev pub window_at : Pool → Bool → ℕ → ℕ → Window
window_at q empty start stop = cond empty (closed q) (opened q start stop)

-- ## The whole function: its BARs, then a bridge's windows

abbrev pub after_function : Bool → List Slot → (Pool → Extent) → Ends → Ends
after_function bridge xs inner c q = let e = after_bars c xs q in cond bridge (after_window q (inner q) e) e

abbrev pub below_function : Bool → List Slot → (Pool → Extent) → Ends → Ends → Ends
below_function bridge xs inner c below q = cond bridge (below_window q (inner q) (after_bars c xs q) (below q)) (below q)
