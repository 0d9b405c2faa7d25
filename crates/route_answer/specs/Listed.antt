-- Document 02, E1: a broadcast's list, which has every function once, in record order, in a lent slice; short room is 11. Assumes nothing.
use Rattle.std.specs.Prelude.{ℕ, cond, List, ◌++◌, drop, ltb}
use Rattle.route_list.specs.Counted.{counted}
use Rattle.route_answer.specs.declared.Routing.{Routing}
use Rattle.route_answer.specs.declared.Routing.TheVariants.{Delivered, Broadcast, Port, Refused}

abbrev pub short_room : ℕ
short_room = 11

-- tried last, and of a broadcast only
abbrev pub on_room : Routing → ℕ → Routing
on_room (Delivered d) room = Delivered d
on_room (Broadcast functions p) room = cond (ltb room functions) (Refused short_room) (Broadcast functions p)
on_room (Port p) room = Port p
on_room (Refused n) room = Refused n

-- what the slice holds after the answer, by the record numbers of so many functions: numbers past the list, and all of it where there is no
-- list, stay as they were
abbrev pub list_over : (ℕ → List ℕ) → Routing → List ℕ → List ℕ
list_over numbers (Delivered d) list = list
list_over numbers (Broadcast functions p) list = numbers functions ++ drop functions list
list_over numbers (Port p) list = list
list_over numbers (Refused n) list = list

-- the functions are records 1 to their count
abbrev pub listed_after : Routing → List ℕ → List ℕ
listed_after r list = list_over (counted 1) r list
