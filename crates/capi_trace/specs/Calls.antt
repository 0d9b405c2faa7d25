-- What the calls on a trace answer, and what the state and the lines that they were lent then hold: a piece, over a sheet, by an index or
-- with both ends, and the end. Assumes nothing.
use Rattle.std.specs.Prelude.{ℕ, Bool, cond, List, [], ◌∷◌, ◌++◌, drop, eqb, ltb}
use Rattle.trace.specs.declared.Fed.{Fed}
use Rattle.trace.specs.declared.Finished.{Finished}
use Rattle.trace.specs.Feed.{fed_of, fed_put, finished_of, finished_put}
use Rattle.trace_ends.specs.Ends.{line_ends}
use Rattle.trace_numbers.specs.Numbers.{numbers_of}
use Rattle.trace_numbers.specs.Parsing.{size, Parsed, Accepted, Refused, trace_of}
use Rattle.capi_answers.specs.Answers.{Answer, refuses, gives, left_beside}

-- a number, and how many bytes of lines where it is 0
abbrev pub on_lines : ℕ → ℕ → Answer
on_lines number count = cond (eqb number 0) (gives (count ∷ [])) (refuses number)

-- ## A piece, whose records have the lines of one engine

abbrev pub on_fed : Fed → Answer
on_fed f = on_lines f.number f.written

-- the numbers of the state after the piece, and what follows them
abbrev pub state_put : Fed → List ℕ → List ℕ
state_put f state = cond (eqb f.number 0) (numbers_of f.state ++ drop size state) state

module _ (line : ℕ → List ℕ → List ℕ) where
  abbrev pub piece_on : Parsed → List ℕ → ℕ → Answer
  piece_on (Accepted t) piece room = on_fed (fed_of line t piece room)
  piece_on (Refused n) piece room = refuses n

  abbrev pub piece_answer : List ℕ → List ℕ → ℕ → Answer
  piece_answer state piece room = piece_on (trace_of state) piece room

  abbrev pub state_on : Parsed → List ℕ → List ℕ → ℕ → List ℕ
  state_on (Accepted t) state piece room = state_put (fed_of line t piece room) state
  state_on (Refused n) state piece room = state

  -- with no room for the answer the piece is not taken
  abbrev pub state_left : List ℕ → List ℕ → ℕ → List ℕ → List ℕ
  state_left state piece room written = left_beside written state (state_on (trace_of state) state piece room)

  abbrev pub lines_on : Parsed → List ℕ → List ℕ → List ℕ
  lines_on (Accepted t) piece lines = fed_put line t piece lines
  lines_on (Refused n) piece lines = lines

  abbrev pub lines_left : List ℕ → List ℕ → List ℕ → List ℕ → List ℕ
  lines_left state piece lines written = left_beside written lines (lines_on (trace_of state) piece lines)

-- ## A piece with both ends: "fed as `cartsundial_annotate` is, with the host's ID first"; an ID "above FFFFh (10, first)"

abbrev pub no_host_id : ℕ → Bool
no_host_id host_id = ltb 65535 host_id

module _ (host_id : ℕ) (sheet : List ℕ) where
  abbrev pub follow_answer : List ℕ → List ℕ → ℕ → Answer
  follow_answer state piece room = cond (no_host_id host_id) (refuses 10) (piece_answer (line_ends host_id sheet) state piece room)

  abbrev pub follow_state : List ℕ → List ℕ → ℕ → List ℕ → List ℕ
  follow_state state piece room written = cond (no_host_id host_id) state (state_left (line_ends host_id sheet) state piece room written)

  abbrev pub follow_lines : List ℕ → List ℕ → List ℕ → List ℕ → List ℕ
  follow_lines state piece lines written = cond (no_host_id host_id) lines (lines_left (line_ends host_id sheet) state piece lines written)

-- ## The end

abbrev pub on_finished : Finished → Answer
on_finished f = on_lines f.number f.written

abbrev pub end_on : Parsed → ℕ → Answer
end_on (Accepted t) room = on_finished (finished_of t room)
end_on (Refused n) room = refuses n

abbrev pub end_answer : List ℕ → ℕ → Answer
end_answer state room = end_on (trace_of state) room

abbrev pub last_on : Parsed → List ℕ → List ℕ
last_on (Accepted t) lines = finished_put t lines
last_on (Refused n) lines = lines

-- with no room for the answer nothing is written
abbrev pub end_left : List ℕ → List ℕ → List ℕ → List ℕ
end_left state lines written = left_beside written lines (last_on (trace_of state) lines)
