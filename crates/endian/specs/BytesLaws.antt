-- A list of bytes stays one: taken apart, joined, and stored into. Assumes nothing.
use Rattle.std.specs.Prelude.{ℕ, zero, suc, ◌+◌, ◌<◌, List, [], ◌∷◌, ◌++◌, set, take, drop}
use Rattle.std.proofs.Common.{arith, get_or-drop}
use Rattle.endian.specs.Endian.{Bytes}

pub bytes_nil : Bytes []
bytes_nil i = omega arith

pub bytes_cons : (x : ℕ) (s : List ℕ) → x < 256 → Bytes s → Bytes (x ∷ s)
bytes_cons x s h b zero = h
bytes_cons x s h b (suc i) = b i

-- what follows the first element
bytes_tail : (x : ℕ) (s : List ℕ) → Bytes (x ∷ s) → Bytes s
bytes_tail x s b i = b (suc i)

pub bytes_append : (s t : List ℕ) → Bytes s → Bytes t → Bytes (s ++ t)
bytes_append [] t b b' = b'
bytes_append (x ∷ s) t b b' = bytes_cons x (s ++ t) (b 0) (bytes_append s t (bytes_tail x s b) b')

pub bytes_take : (n : ℕ) (s : List ℕ) → Bytes s → Bytes (take n s)
bytes_take zero s b = bytes_nil
bytes_take (suc n) [] b = bytes_nil
bytes_take (suc n) (x ∷ s) b = bytes_cons x (take n s) (b 0) (bytes_take n s (bytes_tail x s b))

pub bytes_drop : (n : ℕ) (s : List ℕ) → Bytes s → Bytes (drop n s)
bytes_drop n s b i = rw get_or-drop (b (n + i))

pub bytes_set : (s : List ℕ) (i v : ℕ) → Bytes s → v < 256 → Bytes (set s i v)
bytes_set [] i v b h = b
bytes_set (x ∷ s) zero v b h = bytes_cons v s h (bytes_tail x s b)
bytes_set (x ∷ s) (suc i) v b h = bytes_cons x (set s i v) (b 0) (bytes_set s i v (bytes_tail x s b) h)
