-- Text put into lent bytes: what is stored, the next place, and a word and a number's digits in ASCII. Assumes nothing.
use Rattle.std.specs.Prelude.{◌≡◌, ℕ, zero, suc, ◌+◌, ◌/◌, ◌%◌, min, cond, List, [], ◌∷◌, ◌++◌, length, ltb}
use Prim.Native.Char.{code}
use Prim.Native.String.{String, [] as []ˢ, ◌∷◌ as ◌∷ˢ◌}
use Rattle.std.proofs.lemmas.List.Edits.{sets}

-- A text put at a place: what fits of it is stored, since a store past the end changes nothing. The next place is the end of the text, or
-- of the bytes.
pub record Put (bytes : List ℕ) (at : ℕ) (text : List ℕ) (after : List ℕ) (next : ℕ) : Type 0 where
  pub stored : after ≡ sets bytes at text
  pub place : next ≡ min (at + length text) (length bytes)

-- the bytes of a word
unfoldable pub ascii : String → List ℕ
ascii []ˢ = []
ascii (c ∷ˢ s) = code c ∷ ascii s

-- 0 to 9, then A to F
abbrev pub digit : ℕ → ℕ
digit d = cond (ltb d 10) (48 + d) (55 + d)

-- the last `width` hexadecimal digits of n, with zeros in front
unfoldable pub hexadecimal : ℕ → ℕ → List ℕ
hexadecimal zero n = []
hexadecimal (suc width) n = hexadecimal width (n / 16) ++ (digit (n % 16) ∷ [])

-- the decimal digits of n, at most k of them
unfoldable pub decimal_over : ℕ → ℕ → List ℕ
decimal_over zero n = []
decimal_over (suc k) n = let front = decimal_over k (n / 10) in cond (ltb n 10) (digit n ∷ []) (front ++ (digit (n % 10) ∷ []))

-- a number n has at most n + 1 digits
unfoldable pub decimal : ℕ → List ℕ
decimal n = decimal_over (suc n) n

-- the line of a refusal: "a refusal prints `refused N`"
unfoldable pub refusal_text : ℕ → List ℕ
refusal_text n = ascii "refused " ++ decimal n ++ ascii "\n"
