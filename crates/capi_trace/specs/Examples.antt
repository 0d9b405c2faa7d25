-- Worked examples of the calls on a trace, as one table under one claim: numbers that are no state, another version, a record begun,
-- and the end. Assumes nothing.
use Rattle.std.specs.Prelude.{◌≡◌, refl, List, [], ◌∷◌, ◌++◌, ℕ, replicate}
use Rattle.text.specs.Text.{ascii}
use Rattle.lists.specs.Lists.{All}
use Rattle.endian.specs.Endian.{be, be_bytes}
use Rattle.records.specs.Frame.{version_of, inside_of, stage_of, heard_of}
use Rattle.trace.specs.Trace.{line_at, state_of, lines_of}
use Rattle.trace.specs.Feed.{text_put, fed_of, ended_of}
use Rattle.trace_line.specs.Line.{line_over}
use Rattle.trace_numbers.specs.Numbers.{numbers_of}
use Rattle.trace_numbers.specs.Parsing.{stages, stage_at, head_at, state_at, is_state, trace_of}
use Rattle.capi_answers.specs.Answers.{Answer, refuses, gives, returned}
use Rattle.capi_trace.specs.Calls.{piece_answer, state_left, lines_left, end_answer, end_left}

abbrev pub zeros : ℕ → List ℕ
zeros n = replicate n 0

-- a record of twelve bytes, of which one came
abbrev pub begun : List ℕ
begun = 1 ∷ 0 ∷ 12 ∷ 0x40 ∷ []

abbrev pub begun_state : List ℕ
begun_state = 4 ∷ 11 ∷ 0 ∷ 1 ∷ 0x4000000000000000 ∷ 0 ∷ []

-- no line of a record is asked for
abbrev line : ℕ → List ℕ → List ℕ
line = line_over []

-- an answer is this one; a call returns this number; a slice then holds these numbers
pub data Claim : Type 0 where
  answers : Answer → Answer → Claim
  returns : ℕ → ℕ → Claim
  holds : List ℕ → List ℕ → Claim

abbrev pub Holds : Claim → Type 0
Holds (answers a b) = a ≡ b
Holds (returns m n) = m ≡ n
Holds (holds s t) = s ≡ t

abbrev pub examples : List Claim
examples =
    answers (piece_answer line (zeros 5) begun 0) (refuses 11)
    -- a stage that is none, a value that the stage does not have, and a byte more than a front has
    ∷ answers (piece_answer line (5 ∷ zeros 5) begun 0) (refuses 10)
    ∷ answers (piece_answer line (2 ∷ 1 ∷ zeros 4) begun 0) (refuses 10)
    ∷ answers (piece_answer line (3 ∷ 256 ∷ zeros 4) begun 0) (refuses 10)
    ∷ answers (piece_answer line (4 ∷ zeros 5) begun 0) (refuses 10)
    ∷ answers (piece_answer line (0 ∷ 0 ∷ 0 ∷ 17 ∷ 0 ∷ 0 ∷ []) begun 0) (refuses 10)
    -- another version, in room enough and in too little
    ∷ answers (piece_answer line (zeros 6) (2 ∷ []) 11) (gives (11 ∷ []))
    ∷ holds (lines_left line (zeros 6) (2 ∷ []) (zeros 12) (0 ∷ [])) (ascii "refused 21\n" ++ zeros 1)
    ∷ answers (piece_answer line (zeros 6) (2 ∷ []) 10) (refuses 11)
    ∷ holds (state_left line (zeros 6) (2 ∷ []) 10 (0 ∷ [])) (zeros 6)
    -- a record begun: no line yet, and what stands after the six numbers stays
    ∷ answers (piece_answer line (zeros 7) begun 0) (gives (0 ∷ []))
    ∷ holds (state_left line (zeros 6 ++ (9 ∷ [])) begun 0 (0 ∷ [])) (begun_state ++ (9 ∷ []))
    -- with no room for the answer the piece is not taken
    ∷ returns (returned (piece_answer line (zeros 6) begun 0) []) 11
    ∷ holds (state_left line (zeros 6) begun 0 []) (zeros 6)
    -- the end of no bytes, inside a record, and after another version
    ∷ answers (end_answer (zeros 6) 11) (gives (11 ∷ []))
    ∷ holds (end_left (zeros 6) (zeros 11) (0 ∷ [])) (ascii "refused 20\n")
    ∷ holds (end_left begun_state (zeros 4) (0 ∷ [])) (ascii "cut\n")
    ∷ answers (end_answer begun_state 3) (refuses 11)
    ∷ answers (end_answer (1 ∷ zeros 5) 0) (gives (0 ∷ []))
    ∷ []

pub examples_hold : All Holds examples
unfolding trace_of is_state state_at stage_at stages head_at be_bytes be numbers_of fed_of ended_of text_put lines_of state_of stage_of heard_of version_of
    inside_of line_at ascii
examples_hold = ((
  refl,
  (
    refl,
    (
      refl,
      (
        refl,
        (
          refl,
          (
            refl,
            (
              refl,
              (
                refl,
                (
                  refl,
                  (
                    refl,
                    (refl, (refl, (refl, (refl, (refl, (refl, (refl, (refl, (refl, tt))))))))),
                  ),
                ),
              ),
            ),
          ),
        ),
      ),
    ),
  ),
)
    )
