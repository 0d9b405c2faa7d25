-- What the calls on a ledger answer, and what the slice that they were lent then holds: its first 256 numbers are the ledger, and what
-- follows them stays. Assumes nothing.
use Rattle.std.specs.Prelude.{ℕ, cond, List, [], ◌∷◌, ◌++◌, length, take, drop, ltb}
use Rattle.ledger.specs.Words.{in_use}
use Rattle.ledger.specs.Ledger.{open_number, open_after, complete_number, complete_after}
use Rattle.capi_answers.specs.Answers.{Answer, refuses, gives}

abbrev pub places : ℕ
places = 256

-- fewer numbers are 11, tried first
abbrev pub on_ledger : {A : Type 0} → List ℕ → A → (List ℕ → A) → A
on_ledger numbers short whole = cond (ltb (length numbers) places) short (whole (take places numbers))

unfoldable pub open_answer : List ℕ → List ℕ → ℕ
open_answer header numbers = on_ledger numbers 11 (λ ws. open_number header ws)

unfoldable pub open_left : List ℕ → List ℕ → List ℕ
open_left header numbers = on_ledger numbers numbers (λ ws. open_after header ws ++ drop places numbers)

unfoldable pub complete_answer : List ℕ → List ℕ → ℕ
complete_answer header numbers = on_ledger numbers 11 (λ ws. complete_number header ws)

unfoldable pub complete_left : List ℕ → List ℕ → List ℕ
complete_left header numbers = on_ledger numbers numbers (λ ws. complete_after header ws ++ drop places numbers)

-- how many requests are open
unfoldable pub count_answer : List ℕ → Answer
count_answer numbers = on_ledger numbers (refuses 11) (λ ws. gives (in_use ws ∷ []))
