-- A board's functions, as three arrays say them: the parent record of each, its head and its set of six read-backs. A head is a header
-- type byte and, above it, a bridge's spares: a byte of buses and two of low memory in MiB. Assumes nothing.
use Rattle.std.specs.Prelude.{ℕ, ◌*◌, ◌/◌, ◌%◌, List, [], ◌∷◌, get_or, take, drop}
use Rattle.bar.specs.declared.Slot.{Slot}
use Rattle.bar.specs.Header.{is_bridge, slot_count}
use Rattle.bar.specs.Bar.{slots}
use Rattle.plan_bars.specs.Bars.{bars_from}
use Rattle.plan_rule.specs.Records.{Function}

-- the slots that count
abbrev pub slots_in : ℕ → List ℕ → List Slot
slots_in header set = slots (take (slot_count header) set)

-- what a head says
abbrev pub header_in : ℕ → ℕ
header_in head = head % 256

abbrev pub spares_in : ℕ → ℕ
spares_in head = head / 256

abbrev pub spare_low_in : ℕ → ℕ
spare_low_in head = spares_in head % 65536

abbrev pub spare_buses_in : ℕ → ℕ
spare_buses_in head = spares_in head / 65536

abbrev pub function_in : ℕ → ℕ → List ℕ → Function
function_in parent head set =
    record {
      parent = parent;
      bridge = is_bridge (header_in head);
      bars = bars_from 0 (slots_in (header_in head) set);
      spare_low = spare_low_in head;
      spare_buses = spare_buses_in head;
    }

-- all of them, as many as there are parents
unfoldable pub functions_in : List ℕ → List ℕ → List ℕ → List Function
functions_in [] hs ss = []
functions_in (p ∷ ps) hs ss = function_in p (get_or hs 0 0) (take 6 ss) ∷ functions_in ps (drop 1 hs) (drop 6 ss)

-- the one at index i
abbrev pub set_at : List ℕ → ℕ → List ℕ
set_at ss i = take 6 (drop (6 * i) ss)

abbrev pub function_at : List ℕ → List ℕ → List ℕ → ℕ → Function
function_at ps hs ss i = function_in (get_or ps i 0) (get_or hs i 0) (set_at ss i)
