-- Calls in a row: the state that a call left is taken by the next, so that from six zeros the calls' lines and state are those of a whole
-- trace, whatever stands after the six numbers. Assumes nothing.
use Prim.Native.Nat.{ℕ}
use Rattle.std.proofs.Common.{arith, sym, ◌∙◌, drop_at}
use Rattle.std.specs.Prelude.{◌≡◌, length, get_or, take, replicate, leb, eqb}
use Rattle.std.proofs.Math.Path.{refl, ap, ap₂}
use Rattle.std.proofs.Math.Bool.{Bool, true, false, cond}
use mathlib.Core.List.{List, [], ◌∷◌, ◌++◌, map, flatten}
use Rattle.std.proofs.Math.ListN.{drop}
use Rattle.std.proofs.Math.Seq.{take-length, take-append_seam}
use borrow.Author.Tests.{le-ltb, ne_eqb}
use Rattle.lists.specs.Lists.{All}
use Rattle.endian.specs.Endian.{Bytes}
use Rattle.trace.specs.declared.Trace.{Trace}
use Rattle.trace.specs.declared.Fed.{Fed}
use Rattle.trace.specs.Annotated.{annotated}
use Rattle.trace.specs.Trace.{fresh, state_of, lines_of, end_line}
use Rattle.trace.specs.Feed.{text_put, taken_fed, refused_fed, fed_of, finished_of, finished_put}
use Rattle.trace.proofs.FeedLaws.{Call, taken, state_called, lines_called, calls_told}
use Rattle.trace_numbers.specs.Numbers.{numbers_of}
use Rattle.trace_numbers.specs.Parsing.{size}
use Rattle.trace_numbers.specs.NumbersLaws.{length_numbers_of}
use Rattle.trace_numbers.specs.RoundTrip.{Bounded, fresh_numbers, fresh_bounded, trace_of_numbers, feeding_keeps_bounds}
use Rattle.capi_answers.specs.Answers.{Answer, returned, filled}
use Rattle.capi_trace.specs.Calls.{on_fed, piece_answer, state_put, state_left, lines_left, on_finished, end_answer, end_left}

-- ## One call

-- what a call is lent beside the state and the engine's bytes
pub record Lent : Type 0 where
  pub piece : List ℕ
  pub lines : List ℕ
  pub written : List ℕ

-- bytes, and room for the answer
pub record Sound (c : Lent) : Type 0 where
  pub bytes : Bytes c.piece
  pub some : ¬ (length c.written ≡ 0)

abbrev pub answer_by : (ℕ → List ℕ → List ℕ) → List ℕ → Lent → Answer
answer_by line state c = piece_answer line state c.piece (length c.lines)

abbrev pub state_by : (ℕ → List ℕ → List ℕ) → List ℕ → Lent → List ℕ
state_by line state c = state_left line state c.piece (length c.lines) c.written

-- how many bytes of lines there are, as the answer says
abbrev pub count_of : Answer → List ℕ → ℕ
count_of a written = cond (eqb (returned a written) 0) (get_or (filled a written) 0 0) 0

abbrev pub given_by : (ℕ → List ℕ → List ℕ) → List ℕ → Lent → List ℕ
given_by line state c = take (count_of (answer_by line state c) c.written) (lines_left line state c.piece c.lines c.written)

-- the same call of the library
abbrev pub call_of : Lent → Call
call_of c = record { piece = c.piece; room = length c.lines }

abbrev pub fed_by : (ℕ → List ℕ → List ℕ) → Trace → Lent → Fed
fed_by line t c = fed_of line t c.piece (length c.lines)

module _ (line : ℕ → List ℕ → List ℕ) (t : Trace) (bounded : Bounded t) (rest : List ℕ) (c : Lent) (sound : Sound c) where
  abbrev text : List ℕ
  text = lines_of line t c.piece

  abbrev fit : Bool → Fed
  fit b = cond b (taken_fed line t c.piece) (refused_fed line t)

  pub state_fed : state_by line (numbers_of t ++ rest) c ≡ numbers_of (fed_by line t c).state ++ rest
  unfolding fed_of
  state_fed =
      rw (trace_of_numbers t rest bounded, ne_eqb (length c.written) 0 sound.some) (go (leb (length text) (length c.lines)))
    where
      go : (b : Bool) → state_put (fit b) (numbers_of t ++ rest) ≡ numbers_of (fit b).state ++ rest
      go true = ap (λ (s : List ℕ). numbers_of (state_of t c.piece) ++ s) (drop_at (numbers_of t) rest size (length_numbers_of t))
      go false = refl

  -- the lines of the piece, or none
  pub given_fed : given_by line (numbers_of t ++ rest) c ≡ take (fed_by line t c).written text
  unfolding fed_of text_put
  given_fed =
      rw (trace_of_numbers t rest bounded, ne_eqb (length c.written) 0 sound.some) (go (leb (length text) (length c.lines)))
    where
      put : Bool → List ℕ
      put b = cond b (text ++ drop (length text) c.lines) c.lines

      go : (b : Bool) → take (count_of (on_fed (fit b)) c.written) (put b) ≡ take (fit b).written text
      go true =
          rw (le-ltb (length c.written) 1 (omega (arith, sound.some)))
          (take-append_seam text (drop (length text) c.lines) ∙ sym (take-length text))
      go false = refl

  pub fed_bounded : Bounded (fed_by line t c).state
  unfolding fed_of
  fed_bounded = go (leb (length text) (length c.lines))
    where
      go : (b : Bool) → Bounded (fit b).state
      go true = feeding_keeps_bounds t c.piece bounded sound.bytes
      go false = bounded

-- the end
module _ (t : Trace) (bounded : Bounded t) (rest : List ℕ) where
  pub answer_finished : (room : ℕ) → end_answer (numbers_of t ++ rest) room ≡ on_finished (finished_of t room)
  answer_finished room = rw (trace_of_numbers t rest bounded)

  pub lines_finished : (lines written : List ℕ) → ¬ (length written ≡ 0) → end_left (numbers_of t ++ rest) lines written ≡ finished_put t lines
  lines_finished lines written some = rw (trace_of_numbers t rest bounded, ne_eqb (length written) 0 some)

-- ## Calls in a row, with one engine

module _ (line : ℕ → List ℕ → List ℕ) where
  unfoldable pub state_after : List ℕ → List Lent → List ℕ
  state_after state [] = state
  state_after state (c ∷ cs) = state_after (state_by line state c) cs

  unfoldable pub lines_given : List ℕ → List Lent → List ℕ
  lines_given state [] = []
  lines_given state (c ∷ cs) = given_by line state c ++ lines_given (state_by line state c) cs

  -- the library's state after the same calls
  abbrev pub trace_after : Trace → List Lent → Trace
  trace_after t cs = state_called line t (map call_of cs)

  called_bounded : (t : Trace) (cs : List Lent) → Bounded t → All Sound cs → Bounded (trace_after t cs)
  unfolding state_called
  called_bounded t [] bounded sound = bounded
  called_bounded t (c ∷ cs) bounded sound =
      called_bounded (fed_by line t c).state cs (fed_bounded line t bounded [] c sound.0) sound.1

  module _ (rest : List ℕ) where
    pub state_called_lem : (t : Trace) (cs : List Lent) → Bounded t → All Sound cs
        → state_after (numbers_of t ++ rest) cs ≡ numbers_of (trace_after t cs) ++ rest
    unfolding state_after state_called
    state_called_lem t [] bounded sound = refl
    state_called_lem t (c ∷ cs) bounded sound =
        ap (λ (s : List ℕ). state_after s cs) (state_fed line t bounded rest c sound.0)
        ∙ state_called_lem (fed_by line t c).state cs (fed_bounded line t bounded rest c sound.0) sound.1

    pub lines_called_lem : (t : Trace) (cs : List Lent) → Bounded t → All Sound cs
        → lines_given (numbers_of t ++ rest) cs ≡ lines_called line t (map call_of cs)
    unfolding lines_given lines_called
    lines_called_lem t [] bounded sound = refl
    lines_called_lem t (c ∷ cs) bounded sound =
        ap₂ ◌++◌ (given_fed line t bounded rest c sound.0)
        (ap (λ (s : List ℕ). lines_given s cs) (state_fed line t bounded rest c sound.0)
        ∙ lines_called_lem (fed_by line t c).state cs (fed_bounded line t bounded rest c sound.0) sound.1)

    -- from six zeros: the lines, and the end's, are those of the pieces that were taken, put together
    pub zeros_told : (cs : List Lent) → All Sound cs
        → lines_given (replicate size 0 ++ rest) cs ++ end_line (trace_after fresh cs)
        ≡ annotated line (flatten (taken line fresh (map call_of cs)))
    zeros_told cs sound =
        ap (λ (s : List ℕ). s ++ end_line (trace_after fresh cs))
        (ap (λ (s : List ℕ). lines_given (s ++ rest) cs) (sym fresh_numbers) ∙ lines_called_lem fresh cs fresh_bounded sound)
        ∙ calls_told line (map call_of cs)

    pub zeros_state : (cs : List Lent) → All Sound cs → state_after (replicate size 0 ++ rest) cs ≡ numbers_of (trace_after fresh cs) ++ rest
    zeros_state cs sound = ap (λ (s : List ℕ). state_after (s ++ rest) cs) (sym fresh_numbers) ∙ state_called_lem fresh cs fresh_bounded sound

    pub zeros_ended : (cs : List Lent) → All Sound cs → (room : ℕ)
        → end_answer (state_after (replicate size 0 ++ rest) cs) room ≡ on_finished (finished_of (trace_after fresh cs) room)
    zeros_ended cs sound room =
        ap (λ (s : List ℕ). end_answer s room) (zeros_state cs sound)
        ∙ answer_finished (trace_after fresh cs) (called_bounded fresh cs fresh_bounded sound) rest room
