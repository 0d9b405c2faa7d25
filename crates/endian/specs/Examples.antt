-- Worked examples: bytes, and the number that they spell in each order, read and written back. Assumes nothing.
use Rattle.std.specs.Prelude.{◌≡◌, refl, ℕ, List, [], ◌∷◌, map, take, drop}
use Rattle.endian.specs.Endian.{be, be_bytes, le, le_bytes}

-- `width` bytes of `bytes` from `at` on spell `big` or `little`
pub record Row : Type 0 where
  pub bytes : List ℕ
  pub at : ℕ
  pub width : ℕ
  pub big : ℕ
  pub little : ℕ

abbrev pub rows : List Row
rows =
    record { bytes = 18 ∷ 52 ∷ []; at = 0; width = 2; big = 4660; little = 13330 }
    ∷ record { bytes = 1 ∷ 0 ∷ 30 ∷ 0 ∷ 255 ∷ []; at = 1; width = 2; big = 30; little = 7680 }
    ∷ record { bytes = 249 ∷ 0 ∷ 0 ∷ 0 ∷ []; at = 0; width = 4; big = 4177526784; little = 249 }
    ∷ record { bytes = 7 ∷ 222 ∷ 173 ∷ 190 ∷ 239 ∷ 7 ∷ []; at = 1; width = 4; big = 3735928559; little = 4022250974 }
    ∷ record { bytes = 0 ∷ 0 ∷ 0 ∷ 2 ∷ 64 ∷ 0 ∷ 0 ∷ 0 ∷ []; at = 0; width = 8; big = 9663676416; little = 274911461376 }
    ∷ record { bytes = 5 ∷ []; at = 1; width = 0; big = 0; little = 0 }
    ∷ []

-- the bytes that spell the number
abbrev pub part : Row → List ℕ
part r = take r.width (drop r.at r.bytes)

pub record Worked (rs : List Row) : Type 0 where
  pub be_reads : map (λ r. be r.width r.bytes r.at) rs ≡ map (λ r. r.big) rs
  pub le_reads : map (λ r. le r.width r.bytes r.at) rs ≡ map (λ r. r.little) rs
  pub be_writes : map (λ r. be_bytes r.width r.big) rs ≡ map part rs
  pub le_writes : map (λ r. le_bytes r.width r.little) rs ≡ map part rs

pub examples : Worked rows
unfolding be be_bytes le le_bytes
examples = record { be_reads = refl; le_reads = refl; be_writes = refl; le_writes = refl }
