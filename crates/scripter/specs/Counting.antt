-- How many writes a board's script has, told by the board's own records: a used slot each, a bridge's buses and five windows, and a command
-- word. Assumes nothing.
use Rattle.std.specs.Prelude.{ℕ, zero, suc, ◌+◌, cond, List, [], ◌∷◌, eqb, get_or}
use Rattle.board_record.specs.declared.Function.{Function}
use Rattle.board_record.specs.Function.{is_bridge, slot_count}

-- a read-back of 0 is unused
abbrev pub weight_of : ℕ → ℕ
weight_of r = cond (eqb r 0) 0 1

-- of n read-backs from index j on
unfoldable pub used_in : ℕ → List ℕ → ℕ → ℕ
used_in zero rs j = 0
used_in (suc n) rs j = weight_of (get_or rs j 0) + used_in n rs (j + 1)

abbrev pub own_writes : Function → ℕ
own_writes f = cond (is_bridge f) 7 1

unfoldable pub write_count : Function → ℕ
write_count f = used_in (slot_count f) f.readbacks 0 + own_writes f

unfoldable pub count_in : List Function → ℕ
count_in [] = 0
count_in (f ∷ fs) = write_count f + count_in fs
