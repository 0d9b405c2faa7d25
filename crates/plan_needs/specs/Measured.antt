-- The needs from what sizing kept of the root bus: its end in each pool, up to 2^62, and its largest alignment. Assumes nothing.
use Rattle.std.specs.Prelude.{cond, ℕ, suc, ◌-◌, ◌≤◌, eqb}
use Rattle.pools.specs.declared.Pool.{Pool}
use Rattle.pools.specs.declared.Pool.TheVariants.{Low, High, Io}
use Rattle.plan_rule.specs.declared.Extent.{Extent}
use Rattle.plan_rule.specs.Pieces.{window_size, window_align}
use Rattle.plan_rule.specs.Cap.{cap}
use Rattle.board_record.specs.declared.Host.{Host}
use Rattle.board_record.specs.Host.{span_of}
use Rattle.plan_sizing.specs.declared.Laid.{Laid}
use Rattle.plan_sizing.specs.Cut.{extent_in}
use Rattle.plan_needs.specs.declared.Needs.{Needs}

-- no alignment: there is nothing in the pool
abbrev pub bytes_by : Pool → ℕ → Extent → ℕ
bytes_by q base e = cond (eqb e.align 0) 0 (window_size q (cap e.end) - base)

-- `laid` has the bases that the root bus was laid out from
unfoldable pub needs_by : Host → ℕ → Laid → Needs
needs_by laid bridges root =
    record {
      buses = suc bridges;
      low = bytes_by Low laid.low.base root.low;
      high = bytes_by High laid.high.base root.high;
      io = bytes_by Io laid.io.base root.io;
      low_align = window_align Low root.low.align;
      high_align = window_align High root.high.align;
      io_align = window_align Io root.io.align;
    }

-- the root bus ends at or past the bases that it was laid out from
abbrev pub PastBases : Host → Laid → Type 0
PastBases laid root = (q : Pool) → (span_of laid q).base ≤ cap (extent_in root q).end
