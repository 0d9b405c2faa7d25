-- A worked history: a ledger of two places, the calls made on it in turn, and the number of each. Assumes nothing.
use Rattle.std.specs.Prelude.{ℕ, ◌*◌, List, [], ◌∷◌}
use Rattle.ledger.specs.Ledger.{number_of, words_after}
use Rattle.ledger.specs.History.{Call, opens, completes, verdict_of}

-- byte 0, tag, Length and byte enables of a request, and byte 0, tag, Length and status of a completion, all of requester 12 34
abbrev request : ℕ → ℕ → ℕ → ℕ → List ℕ
request b tag dwords enables = b ∷ 0 ∷ 0 ∷ dwords ∷ 18 ∷ 52 ∷ tag ∷ enables ∷ 16 ∷ 0 ∷ 0 ∷ 0 ∷ []

abbrev completion : ℕ → ℕ → ℕ → ℕ → List ℕ
completion b tag dwords status = b ∷ 0 ∷ 0 ∷ dwords ∷ 0 ∷ 1 ∷ status * 32 ∷ 4 ∷ 18 ∷ 52 ∷ tag ∷ 0 ∷ []

pub record Row : Type 0 where
  pub call : Call
  pub number : ℕ

abbrev row : Call → ℕ → Row
row c n = record { call = c; number = n }

abbrev pub rows : List Row
rows =
    row (opens (request 0 7 4 255)) 0  -- MRd of four dwords
    ∷ row (opens (request 2 7 1 15)) 61  -- IORd under the same key
    ∷ row (opens (request 66 8 1 15)) 0  -- IOWr
    ∷ row (opens (request 4 9 1 15)) 62  -- CfgRd0
    ∷ row (opens (request 64 9 1 15)) 60  -- MWr
    ∷ row (opens (request 0 9 4 15)) 7  -- byte enables that the reader refuses
    ∷ row (completes (request 0 7 4 255)) 60
    ∷ row (completes (completion 10 9 0 0)) 63
    ∷ row (completes (completion 74 7 4 2)) 64  -- retry for a memory read
    ∷ row (completes (completion 10 7 0 0)) 64  -- success without data
    ∷ row (completes (completion 75 7 4 0)) 64  -- success in the locked form
    ∷ row (completes (completion 74 8 1 0)) 64  -- success with data for a write
    ∷ row (completes (completion 74 7 5 0)) 65
    ∷ row (completes (completion 74 7 1 0)) 0  -- one dword of four
    ∷ row (completes (completion 74 7 4 0)) 65  -- three remain
    ∷ row (completes (completion 74 7 3 0)) 0  -- all of them
    ∷ row (completes (completion 74 7 3 0)) 63
    ∷ row (opens (request 4 9 1 15)) 0  -- the CfgRd0, in the freed place
    ∷ row (completes (completion 10 9 0 2)) 0  -- retry closes it
    ∷ row (completes (completion 10 8 0 0)) 0  -- the IOWr's success
    ∷ row (opens (request 1 9 1 15)) 0  -- MRdLk
    ∷ row (completes (completion 74 9 1 0)) 64  -- the unlocked form
    ∷ row (completes (completion 75 9 1 4)) 0  -- an abort
    ∷ []

unfoldable pub numbers : List ℕ → List Call → List ℕ
numbers ws [] = []
numbers ws (c ∷ cs) = let v = verdict_of c ws in number_of v ∷ numbers (words_after v ws) cs
