-- Ranges of addresses: one holds an address, one lies inside another, two are apart. Half-open over whole numbers, so that an end at 2^64
-- is no special case. Assumes nothing.
use Rattle.std.specs.Prelude.{◌≡◌, ◌⊎◌, Bool, ◌&&◌, ℕ, ◌≤◌, ◌<◌, leb, ltb}

-- The host's pools: of bus numbers, of low and high memory and of I/O. A window carries the pool that it hands on a part of.
pub data Pool : Type 0 where
  buses low high io : Pool

pub record Range : Type 0 where
  pub pool : Pool
  pub start : ℕ
  pub stop : ℕ

abbrev pub holds : Range → ℕ → Bool
holds r a = leb r.start a && ltb a r.stop

pub record Holds (r : Range) (a : ℕ) : Type 0 where
  pub from_start : r.start ≤ a
  pub before_stop : a < r.stop

-- of the same pool, and no address of it is outside
pub record Inside (r outer : Range) : Type 0 where
  pub same_pool_lem : r.pool ≡ outer.pool
  pub start_inside : outer.start ≤ r.start
  pub stop_inside : r.stop ≤ outer.stop

-- no address of it is outside, whatever their pools
pub record Within (r outer : Range) : Type 0 where
  pub start_inside : outer.start ≤ r.start
  pub stop_inside : r.stop ≤ outer.stop

-- one ends before the other starts, whatever their pools
abbrev pub Apart : Range → Range → Type 0
Apart r s = (r.stop ≤ s.start) ⊎ (s.stop ≤ r.start)
