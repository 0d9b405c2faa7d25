-- One piece into lent room, and the end: short room is 11 and changes nothing. Assumes nothing.
use Rattle.std.specs.Prelude.{ℕ, cond, List, ◌++◌, length, drop, nat_le}
use Rattle.trace.specs.declared.Trace.{Trace}
use Rattle.trace.specs.declared.Fed.{Fed}
use Rattle.trace.specs.declared.Finished.{Finished}
use Rattle.trace.specs.Trace.{state_of, lines_of, end_line}

-- a text at the front of a room that holds it
unfoldable pub text_put : List ℕ → List ℕ → List ℕ
text_put text out = cond (nat_le (length text) (length out)) (text ++ drop (length text) out) out

-- "Output room short of a piece's lines is 11 and the piece is not taken"
module _ (line : ℕ → List ℕ → List ℕ) where
  abbrev pub taken_fed : Trace → List ℕ → Fed
  taken_fed t piece = record { number = 0; written = length (lines_of line t piece); state = state_of t piece }

  abbrev pub refused_fed : Trace → Fed
  refused_fed t = record { number = 11; written = 0; state = t }

  unfoldable pub fed_of : Trace → List ℕ → ℕ → Fed
  fed_of t piece room = cond (nat_le (length (lines_of line t piece)) room) (taken_fed t piece) (refused_fed t)

  abbrev pub fed_put : Trace → List ℕ → List ℕ → List ℕ
  fed_put t piece out = text_put (lines_of line t piece) out

-- "Ending gives `refused 20`, `cut` or no line, or 11 for short room, and leaves the state as it was."
unfoldable pub ended_of : List ℕ → ℕ → Finished
ended_of text room = cond (nat_le (length text) room) (record { number = 0; written = length text }) (record { number = 11; written = 0 })

abbrev pub finished_of : Trace → ℕ → Finished
finished_of t room = ended_of (end_line t) room

abbrev pub finished_put : Trace → List ℕ → List ℕ
finished_put t out = text_put (end_line t) out
