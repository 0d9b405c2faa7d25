-- Document 01, "The board": the host record, and its edges (26). Assumes nothing.
use Rattle.std.specs.Prelude.{ℕ, ◌+◌, ◌%◌, Bool, false, not, ◌&&◌, ◌||◌, List, get_or, eqb, leb, ltb}
use Rattle.endian.specs.Endian.{be}
use Rattle.pools.specs.declared.Pool.{Pool}
use Rattle.pools.specs.declared.Pool.TheVariants.{Low, High, Io}
use Rattle.pools.specs.Pools.{granule}
use Rattle.board_record.specs.declared.Span.{Span}
use Rattle.board_record.specs.declared.Host.{Host}

-- "Record 0, host, 30 bytes: first bus, last bus (1 each); low pool base, last (4 each); high pool base, last (8 each); I/O pool base, last
-- (2 each)"
abbrev pub host_length : ℕ
host_length = 30

-- its record stands after the version, and the functions' behind it
abbrev pub host_at : ℕ
host_at = 1

abbrev pub functions_at : ℕ
functions_at = host_at + 2 + host_length

unfoldable pub host_of_part : List ℕ → Host
host_of_part p =
    record {
      first_bus = get_or p 0 0;
      last_bus = get_or p 1 0;
      low = record { base = be 4 p 2; last = be 4 p 6 };
      high = record { base = be 8 p 10; last = be 8 p 18 };
      io = record { base = be 2 p 26; last = be 2 p 28 };
    }

abbrev pub span_of : Host → Pool → Span
span_of h Low = h.low
span_of h High = h.high
span_of h Io = h.io

-- "A pool with base above last is closed"
abbrev pub is_open : Span → Bool
is_open x = leb x.base x.last

-- "starts and ends on 1 MiB edges", "I/O on 4 KiB edges": the pool's granule
abbrev pub off_edges : ℕ → Span → Bool
off_edges edge x = not (eqb (x.base % edge) 0) || not (eqb ((x.last + 1) % edge) 0)

-- "high the same, from 4 GiB to below 2^52"
abbrev pub outside : Pool → Span → Bool
outside Low x = false
outside High x = ltb x.base 4294967296 || leb 4503599627370496 x.last
outside Io x = false

-- a closed pool has no edges
unfoldable pub pool_wrong : Pool → Span → Bool
pool_wrong q x = is_open x && (outside q x || off_edges (granule q) x)

-- 26: "first bus above last, or a pool's edges"
unfoldable pub host_wrong : Host → Bool
host_wrong h =
    ltb h.last_bus h.first_bus || pool_wrong Low h.low || pool_wrong High h.high || pool_wrong Io h.io
