-- Whole-number sums in 64 bits. A walk that keeps min(x, 2^62) for each end x, and for each size, comes to what the walk over whole numbers
-- comes to, cut at 2^62; and no pool reaches 2^52, so that no answer changes. Alignments are powers of two up to 2^63 and are kept whole.
-- Assumes nothing.
use Rattle.std.specs.Prelude.{ℕ, min}

-- 2^62
abbrev pub limit : ℕ
limit = 4611686018427387904

abbrev pub cap : ℕ → ℕ
cap x = min x limit
