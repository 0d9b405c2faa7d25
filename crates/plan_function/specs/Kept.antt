-- What the code keeps of one function's placing, and so what its calls answer: every end cut at 2^62, every register 32 bits. Assumes
-- nothing.
use Rattle.std.specs.Prelude.{ℕ, ◌-◌, ◌%◌, List, ◌++◌, map, take, replicate}
use Rattle.pools.specs.declared.Pool.{Pool}
use Rattle.pools.specs.declared.Pool.TheVariants.{Low, High, Io}
use Rattle.bar.specs.Bar.{slots}
use Rattle.window.specs.declared.Window.{Window}
use Rattle.plan_rule.specs.declared.Extent.{Extent}
use Rattle.plan_rule.specs.Cap.{cap}
use Rattle.plan_function.specs.declared.Cursors.{Cursors}
use Rattle.plan_function.specs.declared.BarsPlaced.{BarsPlaced}
use Rattle.plan_function.specs.declared.Extents.{Extents}
use Rattle.plan_function.specs.declared.WindowPlaced.{WindowPlaced}
use Rattle.plan_function.specs.declared.WindowsPlaced.{WindowsPlaced}
use Rattle.plan_function.specs.Function.{Ends, bar_starts, after_bars, values_at, is_empty, window_start, window_stop, window_at}
use Rattle.plan_function.specs.Function.{after_window, below_window}

-- a register's 32 bits
abbrev pub word : ℕ → ℕ
word v = v % 4294967296

-- ## Cursors

abbrev pub ends_of : Cursors → Ends
ends_of c Low = c.low
ends_of c High = c.high
ends_of c Io = c.io

abbrev pub cursors_of : Ends → Cursors
cursors_of e = record { low = e Low; high = e High; io = e Io }

-- no end past 2^62
abbrev pub kept_cursors : Ends → Cursors
kept_cursors e = cursors_of (λ q. cap (e q))

abbrev pub with_end : Cursors → Pool → ℕ → Cursors
with_end c Low e = record { low = e; high = c.high; io = c.io }
with_end c High e = record { low = c.low; high = e; io = c.io }
with_end c Io e = record { low = c.low; high = c.high; io = e }

-- ## BARs

-- the registers of the first n read-backs of a set
unfoldable pub kept_values : List ℕ → ℕ → Ends → List ℕ
kept_values set n c = map word (values_at (slots (take n set)) set (map cap (bar_starts c (slots (take n set)))))

abbrev pub bars_placed : List ℕ → ℕ → Ends → BarsPlaced
bars_placed set n c =
    record {
      values = kept_values set n c ++ replicate (6 - n) 0;
      cursors = kept_cursors (after_bars c (slots (take n set)));
    }

-- ## Windows

abbrev pub extent_in : Extents → Pool → Extent
extent_in x Low = x.low
extent_in x High = x.high
extent_in x Io = x.io

abbrev pub kept_window : Pool → Extent → ℕ → Window
kept_window q inner e = window_at q (is_empty inner) (cap (window_start q inner e)) (cap (window_stop q inner e))

abbrev pub window_placed : Pool → Extent → ℕ → ℕ → WindowPlaced
window_placed q inner e below =
    record {
      window = kept_window q inner e;
      cursor = cap (after_window q inner e);
      below = cap (below_window q inner e below);
    }

abbrev pub windows_placed : Extents → Cursors → Cursors → WindowsPlaced
windows_placed inner c below =
    record {
      low = kept_window Low inner.low c.low;
      high = kept_window High inner.high c.high;
      io = kept_window Io inner.io c.io;
      cursors = kept_cursors (λ q. after_window q (extent_in inner q) (ends_of c q));
      below = kept_cursors (λ q. below_window q (extent_in inner q) (ends_of c q) (ends_of below q));
    }
