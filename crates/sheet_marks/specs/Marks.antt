-- Which IDs were met so far, as the pass of check 28 keeps it: a bit for each ID, 64 to a word. Assumes nothing.
use Rattle.std.specs.Prelude.{ℕ, ◌/◌, ◌%◌, ◌^◌, Bool, List, get_or, set, eqb}
use Rattle.std.specs.Int.Bits.{bit_or}

-- bit k of a word
abbrev pub has_bit : ℕ → ℕ → Bool
has_bit w k = eqb (w / 2 ^ k % 2) 1

unfoldable pub is_marked : List ℕ → ℕ → Bool
is_marked ws id = has_bit (get_or ws (id / 64) 0) (id % 64)

unfoldable pub marked : List ℕ → ℕ → List ℕ
marked ws id = set ws (id / 64) (bit_or (get_or ws (id / 64) 0) (2 ^ (id % 64)))
