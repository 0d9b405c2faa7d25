-- Where each pool is laid out from: a closed pool has no base, and is laid out from 0. Assumes nothing.
use Rattle.std.specs.Prelude.{Bool, cond, ℕ, ltb}
use Rattle.plan_rule.specs.Pools.{Pool}
use Rattle.plan_rule.specs.Records as placing
use Rattle.board_record.specs.declared.Span.{Span}
use Rattle.board_record.specs.declared.Host.{Host}

abbrev pub is_closed : placing.Host → Pool → Bool
is_closed h q = ltb (h.last q) (h.base q)

abbrev pub layout_base : placing.Host → Pool → ℕ
layout_base h q = cond (is_closed h q) 0 (h.base q)

abbrev pub laid_host : placing.Host → placing.Host
laid_host h = record { first_bus = h.first_bus; last_bus = h.last_bus; base = layout_base h; last = h.last }

-- the same of a host record
abbrev pub laid_span : Span → Span
laid_span x = record { base = cond (ltb x.last x.base) 0 x.base; last = x.last }

unfoldable pub laid_host_of : Host → Host
laid_host_of h =
    record {
      first_bus = h.first_bus;
      last_bus = h.last_bus;
      low = laid_span h.low;
      high = laid_span h.high;
      io = laid_span h.io;
    }
