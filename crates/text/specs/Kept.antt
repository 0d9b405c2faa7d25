-- Bytes put piece by piece from the start of a room: as many are kept as it has room for. Assumes nothing.
use Rattle.std.specs.Prelude.{◌≡◌, ℕ, List, length}
use Rattle.text.specs.Text.{Put}

-- s was put into a room of `size` bytes, and so many bytes of it are kept
pub record Kept (size : ℕ) (s : List ℕ) (count : ℕ) (room : List ℕ) : Type 0 where
  pub room_before : List ℕ
  pub sized : length room_before ≡ size
  pub put : Put room_before 0 s room count
