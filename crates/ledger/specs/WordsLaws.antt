-- The place of a key and the places in use, in the words of the two loops over places. Assumes nothing.
use Rattle.std.specs.Prelude.{Bool, ◌||◌, get_or, eqb}
use mathlib.Core.List.{List}
use Prim.Native.Nat.{ℕ, ◌+◌}
use Rattle.ledger.specs.Words.{key_in}

-- one of the four places from i on has the key
abbrev pub is_among_four : ℕ → List ℕ → ℕ → Bool
is_among_four k ws i =
    let has : ℕ → Bool = λ j. eqb (key_in (get_or ws j 0)) k in
    has i || (has (i + 1) || (has (i + 2) || has (i + 3)))
