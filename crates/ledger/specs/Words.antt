-- The words of a ledger, one for each place: what a word holds, where a key is found, how many places are in use. Assumes nothing.
use Rattle.std.specs.Prelude.{ℕ, suc, ◌+◌, ◌*◌, ◌/◌, ◌%◌, Bool, cond, List, [], ◌∷◌, replicate, eqb}

-- a word has two halves of 32 bits
abbrev pub half : ℕ
half = 4294967296

-- "keyed by requester ID and tag": one number for both, which is not 0
abbrev pub key_of : ℕ → ℕ → ℕ
key_of requester tag = requester * 1024 + tag + 1

-- the word of a request: its key, how many dwords are still to come, and three bits for its kind
abbrev pub word_of : ℕ → ℕ → ℕ → ℕ
word_of key dwords class = key * half + dwords * 8 + class

-- ## What a word holds

-- 0 where the place is free
abbrev pub key_in : ℕ → ℕ
key_in w = w / half

abbrev pub left_in : ℕ → ℕ
left_in w = w % half / 8

abbrev pub is_read : ℕ → Bool
is_read w = eqb (w / 4 % 2) 1

abbrev pub is_config : ℕ → Bool
is_config w = eqb (w / 2 % 2) 1

abbrev pub is_locked : ℕ → Bool
is_locked w = eqb (w % 2) 1

abbrev pub used_by : ℕ → ℕ
used_by w = cond (eqb (key_in w) 0) 0 1

-- ## What the places hold

abbrev pub empty : List ℕ
empty = replicate 256 0

-- the first place with the key, or the number of places where none has it; the first free place is that of key 0
unfoldable pub place_of : ℕ → List ℕ → ℕ
place_of k [] = 0
place_of k (w ∷ ws) = let later = suc (place_of k ws) in cond (eqb (key_in w) k) 0 later

unfoldable pub in_use : List ℕ → ℕ
in_use [] = 0
in_use (w ∷ ws) = used_by w + in_use ws
