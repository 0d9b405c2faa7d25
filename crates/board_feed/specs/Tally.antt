-- A board's records counted as they begin, and the number that the count comes to. `long_board_number` of LongBoards says that this is
-- document 01's number of any input longer than a lawful board. Assumes nothing.
use Rattle.std.specs.Prelude.{ℕ, ◌+◌, ◌*◌, Bool, false, cond, not, ◌||◌, eqb, ltb}
use Rattle.records.specs.declared.frame.Event.{Event}
use Rattle.records.specs.declared.frame.Event.TheVariants.{Version, Foreign, Passed, Half, Begins, Byte}
use Rattle.records.specs.declared.frame.Ending.{Ending}
use Rattle.records.specs.declared.frame.Ending.TheVariants.{Empty, Unread, Whole, Cut}
use Rattle.board_record.specs.Host.{host_length}
use Rattle.records.specs.Limits.{most_functions}
use Rattle.board_record.specs.Function.{end_length}
use Rattle.board_feed.specs.declared.Tally.{Tally}

-- "30 or 14 bytes", and "function under 6"
abbrev pub longest_function : ℕ
longest_function = end_length

abbrev pub shortest_function : ℕ
shortest_function = 6

-- a lawful board has its version, its host and its functions, each after its length
abbrev pub most_bytes : ℕ
most_bytes = 1 + (2 + host_length) + most_functions * (2 + longest_function)

abbrev pub fresh : Tally
fresh = record { records = 0; misframed = false }

-- "host not 30; function under 6"
unfoldable pub misfits_of : ℕ → ℕ → Bool
misfits_of records size = cond (eqb records 0) (not (eqb size host_length)) (ltb size shortest_function)

-- that there are more than a board can have is all that is asked of the count
abbrev pub most_counted : ℕ
most_counted = 1000

unfoldable pub counted_of : ℕ → ℕ
counted_of records = cond (ltb records most_counted) (records + 1) records

unfoldable pub begun_of : Tally → ℕ → Tally
begun_of t size = record { records = counted_of t.records; misframed = t.misframed || misfits_of t.records size }

-- records are counted where they begin
abbrev pub heard_by : Tally → Event → Tally
heard_by t Version = t
heard_by t Foreign = t
heard_by t Passed = t
heard_by t (Half high) = t
heard_by t (Begins size) = begun_of t size
heard_by t (Byte byte left) = t

-- of whole records: 20 and 22 in order, and else 24, since one is too long
unfoldable pub whole_number : Tally → ℕ
whole_number t = cond (eqb t.records 0 || t.misframed) 20 (cond (ltb (1 + most_functions) t.records) 22 24)

abbrev pub number_at : Ending → Tally → ℕ
number_at Empty t = 20
number_at Unread t = 21
number_at Whole t = whole_number t
number_at Cut t = 20
