-- Depth-first order in the document's words: a parent is the host, the record before if it is a bridge, or a bridge above the record
-- before. A board's check that climbs from the record before is `AtOrAbove`, and is the same as the order that numbering and placing go by.
-- Assumes nothing.
use Rattle.std.specs.Prelude.{false, ℕ, zero, suc, get_or}
use mathlib.Core.List.{List, []}
use Rattle.plan_rule.specs.Records.{Function}

-- Past the end of the list
abbrev pub no_function : Function
no_function = record { parent = 0; bridge = false; bars = []; spare_low = 0; spare_buses = 0 }

-- The parent of record k; the host is its own
abbrev pub parent_of : List Function → ℕ → ℕ
parent_of fs zero = 0
parent_of fs (suc i) = (get_or fs i no_function).parent
