-- The registers of a plan in one address space, as the walk reads them: each record with its bus numbers, the ranges of its placed BARs in
-- slot order and of its placed windows, low before high. And the host with the open pools of that space. Assumes nothing.
use Rattle.std.specs.Prelude.{Bool, cond, not, ◌&&◌, List, map, ℕ, suc, eqb, leb}
use Rattle.pools.specs.declared.Space.{Space}
use Rattle.pools.specs.Pools.{in_space}
use Rattle.plan_rule.specs.Pools.{Pool}
use Rattle.plan_rule.specs.Records.{Host, Function}
use Rattle.plan_rule.specs.Layout.{Placed, end_of, is_window}
use Rattle.plan_rule.specs.Placing.{placed}
use Rattle.plan_rule.specs.Numbering.{Numbered, numbered}
use Rattle.lists.specs.Lists.{keep}
use Rattle.walk.specs.Ranges.{Range}
use Rattle.walk.specs.Registers.{Node, Registers}
use Rattle.walk.specs.Good.{Host as WalkHost}
use Rattle.plan_good.specs.Spaces.{pools_of, range_pool}

-- From its start up to the first address past it
abbrev pub range_of : Placed → Range
range_of x = record { pool = range_pool x.piece.pool; start = x.start; stop = end_of x }

-- Is it a BAR, or a window, of record k in the space?
abbrev pub is_bar_of : Space → ℕ → Placed → Bool
is_bar_of sp k x = eqb x.piece.owner k && (in_space sp x.piece.pool && not (is_window x.piece.part))

abbrev pub is_window_of : Space → ℕ → Placed → Bool
is_window_of sp k x = eqb x.piece.owner k && (in_space sp x.piece.pool && is_window x.piece.part)

abbrev pub bars_of : Space → List Placed → ℕ → List Range
bars_of sp xs k = map range_of (keep (is_bar_of sp k) xs)

abbrev pub windows_of : Space → List Placed → ℕ → List Range
windows_of sp xs k = map range_of (keep (is_window_of sp k) xs)

-- A bridge's own number, and the 0 that a function that is no bridge has in its place
abbrev pub of_bridge : Numbered → ℕ → ℕ
of_bridge x n = cond x.bridge n 0

-- `devfn` is the device/function byte of each record, by its number
abbrev pub plan_node : (ℕ → ℕ) → Numbered → Node
plan_node devfn x =
    record {
      number = x.number;
      bus = x.bus;
      devfn = devfn x.number;
      bridge = x.bridge;
      secondary = of_bridge x x.secondary;
      subordinate = of_bridge x x.subordinate;
    }

-- The board's records with their numbers
abbrev pub plan_rows : Host → List Function → List Numbered
plan_rows h fs = numbered h.first_bus fs

abbrev pub plan_nodes : Host → List Function → (ℕ → ℕ) → List Node
plan_nodes h fs devfn = map (plan_node devfn) (plan_rows h fs)

abbrev pub plan_register : Space → List Placed → (ℕ → ℕ) → Numbered → Registers
plan_register sp xs devfn x =
    record { node = plan_node devfn x; bars = bars_of sp xs x.number; windows = windows_of sp xs x.number }

unfoldable pub plan_registers : Space → Host → List Function → (ℕ → ℕ) → List Registers
plan_registers sp h fs devfn = map (plan_register sp (placed h fs) devfn) (plan_rows h fs)

abbrev pub pool_range : Host → Pool → Range
pool_range h q = record { pool = range_pool q; start = h.base q; stop = suc (h.last q) }

abbrev pub is_open : Host → Pool → Bool
is_open h q = leb (h.base q) (h.last q)

abbrev pub plan_host : Space → Host → WalkHost
plan_host sp h = record { first = h.first_bus; last = h.last_bus; pools = map (pool_range h) (keep (is_open h) (pools_of sp)) }
