-- A refused call on a trace changes neither its state nor the lines; its answer slice is that of every call (`refused_keeps_slice` of
-- capi_answers). Assumes nothing.
use Rattle.std.specs.Prelude.{ℕ, ◌≡◌, Bool, List, ◌++◌, length, leb, eqb}
use Rattle.std.proofs.Math.Path.{refl}
use Rattle.std.proofs.Math.Bool.{true, false, cond}
use Rattle.std.proofs.Math.ListN.{drop}
use Rattle.trace.specs.declared.Trace.{Trace}
use Rattle.trace.specs.declared.Fed.{Fed}
use Rattle.trace.specs.declared.Finished.{Finished}
use Rattle.trace.specs.Trace.{lines_of, end_line}
use Rattle.trace.specs.Feed.{text_put, taken_fed, refused_fed, fed_of, ended_of}
use Rattle.trace_ends.specs.Ends.{line_ends}
use Rattle.trace_numbers.specs.Numbers.{numbers_of}
use Rattle.trace_numbers.specs.Parsing.{size, Parsed, Accepted, Refused, trace_of}
use Rattle.capi_answers.specs.Answers.{refuses, returned}
use Rattle.capi_answers.proofs.AnswersLaws.{one_given}
use Rattle.capi_trace.specs.Calls.{on_fed, piece_on, piece_answer, state_put, state_on, state_left, lines_on, lines_left}
use Rattle.capi_trace.specs.Calls.{no_host_id, follow_answer, follow_state, follow_lines}
use Rattle.capi_trace.specs.Calls.{on_finished, end_on, end_answer, last_on, end_left}

-- ## A piece

module _ (line : ℕ → List ℕ → List ℕ) where
  pub refused_keeps_state : (state piece written : List ℕ) (room : ℕ) → ¬ (returned (piece_answer line state piece room) written ≡ 0)
      → state_left line state piece room written ≡ state
  refused_keeps_state state piece written room h = go (eqb (length written) 0) refl
    where
      by_fed : (f : Fed) → eqb (length written) 0 ≡ false → ¬ (returned (on_fed f) written ≡ 0) → state_put f state ≡ state
      by_fed f e h = by_number (eqb f.number 0) refl
        where
          by_number : (b : Bool) → eqb f.number 0 ≡ b → cond b (numbers_of f.state ++ drop size state) state ≡ state
          by_number true z = absurd (h (rw z (one_given f.written written e)))
          by_number false z = refl

      by_state : (q : Parsed) → eqb (length written) 0 ≡ false → ¬ (returned (piece_on line q piece room) written ≡ 0)
          → state_on line q state piece room ≡ state
      by_state (Accepted t) e h = by_fed (fed_of line t piece room) e h
      by_state (Refused n) e h = refl

      go : (b : Bool) → eqb (length written) 0 ≡ b → cond b state (state_on line (trace_of state) state piece room) ≡ state
      go true e = refl
      go false e = by_state (trace_of state) e h

  -- lines that do not fit are refused and not put
  fed_keeps_lines : (t : Trace) (piece lines written : List ℕ) → eqb (length written) 0 ≡ false
      → ¬ (returned (on_fed (fed_of line t piece (length lines))) written ≡ 0) → text_put (lines_of line t piece) lines ≡ lines
  unfolding fed_of text_put
  fed_keeps_lines t piece lines written e = go (leb (length (lines_of line t piece)) (length lines))
    where
      go : (b : Bool) → ¬ (returned (on_fed (cond b (taken_fed line t piece) (refused_fed line t))) written ≡ 0)
          → cond b (lines_of line t piece ++ drop (length (lines_of line t piece)) lines) lines ≡ lines
      go true h = absurd (h (one_given (length (lines_of line t piece)) written e))
      go false h = refl

  pub refused_keeps_lines : (state piece lines written : List ℕ)
      → ¬ (returned (piece_answer line state piece (length lines)) written ≡ 0) → lines_left line state piece lines written ≡ lines
  refused_keeps_lines state piece lines written h = go (eqb (length written) 0) refl
    where
      by_state : (q : Parsed) → eqb (length written) 0 ≡ false → ¬ (returned (piece_on line q piece (length lines)) written ≡ 0)
          → lines_on line q piece lines ≡ lines
      by_state (Accepted t) e h = fed_keeps_lines t piece lines written e h
      by_state (Refused n) e h = refl

      go : (b : Bool) → eqb (length written) 0 ≡ b → cond b lines (lines_on line (trace_of state) piece lines) ≡ lines
      go true e = refl
      go false e = by_state (trace_of state) e h

-- ## A piece with both ends

module _ (host_id : ℕ) (sheet : List ℕ) where
  pub follow_keeps_state : (state piece written : List ℕ) (room : ℕ)
      → ¬ (returned (follow_answer host_id sheet state piece room) written ≡ 0) → follow_state host_id sheet state piece room written ≡ state
  follow_keeps_state state piece written room = go (no_host_id host_id)
    where
      line : ℕ → List ℕ → List ℕ
      line = line_ends host_id sheet

      go : (b : Bool) → ¬ (returned (cond b (refuses 10) (piece_answer line state piece room)) written ≡ 0)
          → cond b state (state_left line state piece room written) ≡ state
      go true h = refl
      go false h = refused_keeps_state line state piece written room h

  pub follow_keeps_lines : (state piece lines written : List ℕ)
      → ¬ (returned (follow_answer host_id sheet state piece (length lines)) written ≡ 0)
      → follow_lines host_id sheet state piece lines written ≡ lines
  follow_keeps_lines state piece lines written = go (no_host_id host_id)
    where
      line : ℕ → List ℕ → List ℕ
      line = line_ends host_id sheet

      go : (b : Bool) → ¬ (returned (cond b (refuses 10) (piece_answer line state piece (length lines))) written ≡ 0)
          → cond b lines (lines_left line state piece lines written) ≡ lines
      go true h = refl
      go false h = refused_keeps_lines line state piece lines written h

-- ## The end

ended_keeps_lines : (text lines written : List ℕ) → eqb (length written) 0 ≡ false
    → ¬ (returned (on_finished (ended_of text (length lines))) written ≡ 0) → text_put text lines ≡ lines
unfolding ended_of text_put
ended_keeps_lines text lines written e = go (leb (length text) (length lines))
  where
    none : Finished
    none = record { number = 11; written = 0 }

    go : (b : Bool) → ¬ (returned (on_finished (cond b (record { number = 0; written = length text }) none)) written ≡ 0)
        → cond b (text ++ drop (length text) lines) lines ≡ lines
    go true h = absurd (h (one_given (length text) written e))
    go false h = refl

pub refused_keeps_last : (state lines written : List ℕ) → ¬ (returned (end_answer state (length lines)) written ≡ 0)
    → end_left state lines written ≡ lines
refused_keeps_last state lines written h = go (eqb (length written) 0) refl
  where
    by_state : (q : Parsed) → eqb (length written) 0 ≡ false → ¬ (returned (end_on q (length lines)) written ≡ 0) → last_on q lines ≡ lines
    by_state (Accepted t) e h = ended_keeps_lines (end_line t) lines written e h
    by_state (Refused n) e h = refl

    go : (b : Bool) → eqb (length written) 0 ≡ b → cond b lines (last_on (trace_of state) lines) ≡ lines
    go true e = refl
    go false e = by_state (trace_of state) e h
