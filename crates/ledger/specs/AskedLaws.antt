-- What a header asks for, in the words of the code: the word that opening puts, or the number that refuses it. Assumes nothing.
use Rattle.std.specs.Prelude.{Option, Some, None, ◌≡◌, cond, List, ℕ, ◌+◌, ◌*◌, ◌%◌, eqb}
use Rattle.ledger.specs.declared.Asked.{Asked}
use Rattle.ledger.specs.declared.Verdict.{Verdict}
use Rattle.ledger.specs.declared.Verdict.TheVariants.{Refused}
use Rattle.ledger.specs.Words.{half, key_of}
use Rattle.ledger.specs.Ledger.{on_request, opening_of}

-- the word of two halves
abbrev pub word_from : ℕ → ℕ → ℕ
word_from key low = key * half + low

-- what a class asks for
abbrev pub AsksAs : Option ℕ → ℕ → ℕ → ℕ → Asked → Type 0
AsksAs (Some class) requester tag dwords a = (a.key ≡ key_of requester tag) × (a.low ≡ dwords * 8 + class)
AsksAs None requester tag dwords a = (a.key ≡ 0) × (a.low ≡ 60)

abbrev pub on_asked : Asked → List ℕ → Verdict
on_asked a ws = cond (eqb a.key 0) (Refused (a.low % 256)) (on_request a.key (word_from a.key a.low) ws)

abbrev pub Asks : Asked → List ℕ → Type 0
Asks a s = (ws : List ℕ) → on_asked a ws ≡ opening_of s ws

-- by the header's bytes
abbrev pub Told : Asked → List ℕ → Type 0
Told a s = (a.low ≡ 0 → ⊥) → Asks a s
