-- An index of n functions with no slots. Assumes nothing.
use Rattle.std.specs.Prelude.{ℕ, zero, suc, List, [], ◌++◌}
use Rattle.std.proofs.lemmas.List.Edits.{sets}
use Rattle.endian.specs.Endian.{le_bytes}
use Rattle.index_layout.specs.Places.{key_place, word_place, last_key, front_numbers, back_numbers}
use Rattle.index_layout.specs.Keys.{no_key}

-- a number k times, in 8 bytes each
unfoldable pub copies : ℕ → ℕ → List ℕ
copies zero v = []
copies (suc k) v = le_bytes 8 v ++ copies k v

-- zeros up to key 0, then the 14 n other keys, then zeros
unfoldable pub cleared : ℕ → List ℕ → List ℕ
cleared n o =
    sets (sets (sets o 0 (copies (front_numbers n) 0)) (key_place n 1) (copies (last_key n) no_key)) (word_place n 0) (copies (back_numbers n) 0)
