-- A board's host and functions as numbering and placing see them: the pools' bases and lasts, each function's BARs by their slots, and
-- device/function bytes by record number. Assumes nothing.
use Rattle.std.specs.Prelude.{List, map, ℕ, pred, get_or, take}
use Rattle.bar.specs.Bar.{slots}
use Rattle.plan_rule.specs.Pools.{Pool as PlacingPool, low, high, io}
use Rattle.plan_rule.specs.Records.{Host as PlacingHost, Function as PlacingFunction}
use Rattle.board_record.specs.declared.Host.{Host}
use Rattle.board_record.specs.declared.Span.{Span}
use Rattle.board_record.specs.declared.Function.{Function}
use Rattle.board_record.specs.Function.{is_bridge, slot_count, spare_buses, spare_low}
unfoldable pub use Rattle.plan_bars.specs.Bars.{bars_from}

abbrev pub pool_span : Host → PlacingPool → Span
pool_span h low = h.low
pool_span h high = h.high
pool_span h io = h.io

abbrev pub to_host : Host → PlacingHost
to_host h =
    record {
      first_bus = h.first_bus;
      last_bus = h.last_bus;
      base = λ q. (pool_span h q).base;
      last = λ q. (pool_span h q).last;
    }

abbrev pub to_function : Function → PlacingFunction
to_function f =
    record {
      parent = f.parent;
      bridge = is_bridge f;
      bars = bars_from 0 (slots (take (slot_count f) f.readbacks));
      spare_low = spare_low f;
      spare_buses = spare_buses f;
    }

abbrev pub to_placing : List Function → List PlacingFunction
to_placing = map to_function

-- the device/function byte of each record, by its number
abbrev pub devfn_of : List Function → ℕ → ℕ
devfn_of fs k = get_or (map (λ (f : Function). f.devfn) fs) (pred k) 0
