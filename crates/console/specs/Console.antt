-- Reading comes to an end: the pieces that may still come get fewer, and so do the bytes. Assumes nothing.
use Rattle.std.specs.Prelude.{ℕ, ◌+◌, ◌-◌, ◌*◌, ◌≤◌, ◌<◌, ◌≡◌}
use Rattle.std.proofs.Common.{mul-le-mul_right, add-mul, arith}
use Rattle.console.specs.declared.Piece.{Piece}
use Rattle.console.specs.declared.Piece.TheVariants.{Bytes, End, Failed}
use Rattle.console.specs.declared.Reader.{Reader}
use Rattle.console.specs.declared.Next.{Next}
use Rattle.console.specs.declared.Next.TheVariants.{Byte, End as NoByte, Failed as NotRead}

-- a piece has a byte, lies within the room, and is one of those that may come
abbrev pub Fewer : ℕ → ℕ → Piece → Type 0
Fewer left room (Bytes count after) = (0 < count) × (count ≤ room) × (after < left)
Fewer left room End = Unit {0}
Fewer left room Failed = Unit {0}

-- the bytes that may still come, where no piece has 2^64
abbrev pub to_come : Reader → ℕ
to_come r = r.left * 18446744073709551616 + (r.count - r.at)

abbrev pub Nearer : Reader → Next → Type 0
Nearer r (Byte b after) = to_come after < to_come r
Nearer r NoByte = Unit {0}
Nearer r NotRead = Unit {0}

-- a new piece, of at most k bytes, is one of those that may come
pub nearer_of_piece : (k left fewer more x : ℕ) → fewer < left → 0 < more → more ≤ k → fewer * k + (more - 1) < left * k + x
nearer_of_piece k left fewer more x f m b =
    let h : (fewer + 1) * k ≤ left * k = mul-le-mul_right k (omega arith) in
    let e : (fewer + 1) * k ≡ fewer * k + 1 * k = add-mul fewer 1 k in
    omega (arith, h, e)
