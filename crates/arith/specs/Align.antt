-- Alignment: multiples of a number, and the first one at or after a place. Assumes nothing.
use Rattle.std.specs.Prelude.{◌≡◌, ℕ, ◌+◌, ◌-◌, ◌*◌, ◌/◌, ◌%◌}

-- The first multiple of a at or after x
unfoldable pub align_up : ℕ → ℕ → ℕ
align_up a x = (x + (a - 1)) / a * a

abbrev pub Multiple : ℕ → ℕ → Type 0
Multiple a x = x % a ≡ 0
