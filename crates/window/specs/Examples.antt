-- Worked examples of windows: the closed spellings, the slip of zeros, P10's windows, and the widest of foreign sheets, as one claim.
-- Assumes nothing.
use Rattle.std.specs.Prelude.{◌≡◌, Bool, true, false, cond, List, [], ◌∷◌, map, ℕ, ◌^◌}
use Rattle.pools.specs.declared.Pool.{Pool}
use Rattle.pools.specs.declared.Pool.TheVariants.{Low, High, Io}
use Rattle.window.specs.declared.Window.{Window}
use Rattle.window.specs.Window.{closed, opened, start, stop, is_open, is_nibbled}

pub record Row : Type 0 where
  pub pool : Pool
  pub window : Window
  pub from : ℕ
  pub to : ℕ
  pub is_open : Bool

abbrev pub row : Pool → ℕ → ℕ → ℕ → ℕ → ℕ → ℕ → Bool → Row
row q b l ub ul f t o =
    record { pool = q; window = record { base = b; limit = l; upper_base = ub; upper_limit = ul }; from = f; to = t; is_open = o }

-- pool, base, limit, their uppers, start, stop, open
abbrev pub rows : List Row
rows =
    -- the closed spellings
    row Low 0xfff0 0x0000 0 0 0xfff00000 0x00100000 false
    ∷ row High 0xfff1 0x0001 0 0 0xfff00000 0x00100000 false
    ∷ row Io 0xf0 0x00 0 0 0xf000 0x1000 false
    -- a window written as zeros opens 1 MiB at 0
    ∷ row Low 0x0000 0x0000 0 0 0x00000000 0x00100000 true
    -- P10
    ∷ row Io 0x40 0x40 0 0 0x4000 0x5000 true
    ∷ row Low 0xf900 0xf900 0 0 0xf9000000 0xf9100000 true
    ∷ row High 0x4001 0x43f1 2 2 0x240000000 0x244000000 true
    -- the last granule of each kind
    ∷ row Low 0x0000 0xfff0 0 0 0 (2 ^ 32) true
    ∷ row High 0xfff1 0xfff1 0xffffffff 0xffffffff 0xfffffffffff00000 (2 ^ 64) true
    ∷ row Io 0xf0 0xf0 0 0 0xf000 (2 ^ 16) true
    ∷ []

pub record Worked (rs : List Row) : Type 0 where
  pub starts : map (λ r. start r.pool r.window) rs ≡ map (λ r. r.from) rs
  pub stops : map (λ r. stop r.pool r.window) rs ≡ map (λ r. r.to) rs
  pub opens : map (λ r. is_open r.pool r.window) rs ≡ map (λ r. r.is_open) rs
  pub nibbled : map (λ r. is_nibbled r.pool r.window) rs ≡ map (λ r. true) rs
  pub spelled : map (λ r. cond r.is_open (opened r.pool r.from r.to) (closed r.pool)) rs ≡ map (λ r. r.window) rs
