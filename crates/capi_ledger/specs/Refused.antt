-- A refused call on a ledger leaves it as it was. Assumes nothing.
use Rattle.std.specs.Prelude.{ℕ, ◌≡◌, refl, Bool, true, false, cond, List, ◌++◌, length, take, drop, ltb}
use Rattle.std.proofs.Common.{ap, ◌∙◌, take-append-drop}
use Rattle.ledger.specs.declared.Verdict.{Verdict}
use Rattle.ledger.specs.Ledger.{number_of, words_after, opening_of, completing_of}
use Rattle.ledger.proofs.SentencesLaws.{refused_same}
use Rattle.capi_ledger.specs.Calls.{places, open_answer, open_left, complete_answer, complete_left}

keeps : (numbers : List ℕ) (v : Verdict) (short : Bool) → ¬ (cond short 11 (number_of v) ≡ 0)
    → cond short numbers (words_after v (take places numbers) ++ drop places numbers) ≡ numbers
keeps numbers v true h = refl
keeps numbers v false h =
    ap (λ (ws : List ℕ). ws ++ drop places numbers) (refused_same v (take places numbers) h) ∙ take-append-drop places numbers

pub refused_open_keeps : (header numbers : List ℕ) → ¬ (open_answer header numbers ≡ 0) → open_left header numbers ≡ numbers
unfolding open_answer open_left
refused_open_keeps header numbers =
    keeps numbers (opening_of header (take places numbers)) (ltb (length numbers) places)

pub refused_complete_keeps : (header numbers : List ℕ) → ¬ (complete_answer header numbers ≡ 0) → complete_left header numbers ≡ numbers
unfolding complete_answer complete_left
refused_complete_keeps header numbers =
    keeps numbers (completing_of header (take places numbers)) (ltb (length numbers) places)
