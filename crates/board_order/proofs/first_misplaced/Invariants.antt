-- `board_order::first_misplaced` meets its contract. The invariant: with the levels that are open, the functions left from the cursor on
-- decide which is the first of 23, and their headers passed check 24; the measure is the bytes left. Assumes nothing.
use Rattle.board_record.specs.Host.{functions_at}
use Prim.Native.Nat.{◌+◌, ◌≤◌}
use mathlib.Core.Path.{◌≡◌}
use mathlib.Core.Bool.{false}
use mathlib.Core.List.{[], map}
use lib.ListN.{length}
use Rattle.records.specs.Limits.{most_above}
use Rattle.records.specs.Records.{parts_from, any_part}
use Rattle.records.specs.Iterating.{parts_left}
use Rattle.std.specs.Iterator.Adapters.{enumerate_source, enumerate_count}
use Rattle.board_record.specs.Function.{function_of_part, header_wrong}
use Rattle.board_order.specs.Order.{first_misplaced}
use Rattle.board_order.specs.Stack.{first_unplaced}
use Rattle.board_order.specs.Levels.{deepest}
use Rattle.board_order.proofs.first_misplaced.Given as goal

abbrev pub invariant-loop-before : goal.invariant-loop-before
invariant-loop-before l =
    (l.levels ≤ most_above + 2)
    × (length l.buses ≡ most_above + 2)
    × (length l.nexts ≡ most_above + 2)
    × (length l.shared ≡ most_above + 2)
    × (any_part header_wrong (parts_left (enumerate_source l.before-iterator)) ≡ false)
    × (first_unplaced (enumerate_count l.before-iterator) (deepest l.buses l.nexts l.shared l.levels) (map function_of_part (parts_left (enumerate_source l.before-iterator)))
    ≡ first_misplaced 0 [] (map function_of_part (parts_from l.board functions_at)))
