-- The calls on a trace one step each, in the words of the code. Assumes nothing.
use Rattle.std.specs.Prelude.{ℕ, ◌≤◌, ◌≡◌, refl, Bool, true, false, cond, Result, List, [], ◌∷◌, ◌++◌, length, drop, leb}
use Rattle.std.proofs.Common.{zero-add, arith, ap, ◌∙◌, eq-eqb, ne_eqb}
use Rattle.std.proofs.lemmas.List.Edits.{sets, sets-eq}
use Rattle.trace.specs.declared.Trace.{Trace}
use Rattle.trace.specs.declared.Fed.{Fed}
use Rattle.trace.specs.declared.Finished.{Finished}
use Rattle.trace.specs.Trace.{lines_of, end_line}
use Rattle.trace.specs.Feed.{taken_fed, refused_fed, fed_of, fed_put, ended_of, finished_of, finished_put}
use Rattle.trace_numbers.specs.Numbers.{numbers_of}
use Rattle.trace_numbers.specs.Parsing.{size, Accepted, Refused, trace_of, taken_as, number_in, state_in}
use Rattle.trace_numbers.specs.NumbersLaws.{length_numbers_of, enough_of_accepted, accepted_of_zero, refused_of_number}
use Rattle.capi_answers.specs.Answers.{gives, returned, filled}
use Rattle.capi_answers.proofs.AnswersLaws.{Answered, answered_short, left_same}
use Rattle.capi_trace.specs.Calls.{on_fed, piece_answer, state_left, lines_left, on_finished, end_answer, end_left}

-- ## A piece

-- what is returned, and the three slices after, together
abbrev pub TakenFor : (ℕ → List ℕ → List ℕ) → List ℕ → List ℕ → List ℕ → List ℕ → ℕ → List ℕ → List ℕ → List ℕ → Type 0
TakenFor line state piece lines written r state' lines' written' =
    (r ≡ returned (piece_answer line state piece (length lines)) written)
    × ((state' ≡ state_left line state piece (length lines) written)
    × ((lines' ≡ lines_left line state piece lines written)
    × (written' ≡ filled (piece_answer line state piece (length lines)) written)))

-- with no room for the answer it is 11, whether or not the lines fit
fed_short : (line : ℕ → List ℕ → List ℕ) (t : Trace) (piece written : List ℕ) (room : ℕ) → length written ≡ 0
    → Answered (on_fed (fed_of line t piece room)) written 11 written
unfolding fed_of
fed_short line t piece written room z = go (leb (length (lines_of line t piece)) room)
  where
    go : (b : Bool) → Answered (on_fed (cond b (taken_fed line t piece) (refused_fed line t))) written 11 written
    go true = answered_short (length (lines_of line t piece) ∷ []) written (omega arith)
    go false = (refl, refl)

module _ (line : ℕ → List ℕ → List ℕ) (state piece lines written : List ℕ) where
  pub piece_refused : (n : ℕ) → trace_of state ≡ Refused n → TakenFor line state piece lines written n state lines written
  piece_refused n refused = rw refused (refl, (left_same written state, (left_same written lines, refl)))

  module _ (t : Trace) (accepted : trace_of state ≡ Accepted t) where
    pub six_of_accepted : size ≤ length state
    six_of_accepted = enough_of_accepted state t accepted

    pub accepted_no_slice : length written ≡ 0 → TakenFor line state piece lines written 11 state lines written
    accepted_no_slice z =
        let short = fed_short line t piece written (length lines) z in
        rw (accepted, eq-eqb (length written) 0 z) (short.0, (refl, (refl, short.1)))

    -- the piece was fed
    module _ (some : length written ≡ 0 → ⊥) (f : Fed) (e : f ≡ fed_of line t piece (length lines)) (lines' : List ℕ)
        (put : lines' ≡ fed_put line t piece lines) where
      pub accepted_not_fed : (f.number ≡ 0 → ⊥) → TakenFor line state piece lines written f.number state lines' written
      accepted_not_fed other = rw (accepted, ne_eqb (length written) 0 some, ← e, ne_eqb f.number 0 other) (refl, (refl, (put, refl)))

      pub accepted_fed : f.number ≡ 0 → (r : ℕ) (state' written' : List ℕ) → state' ≡ sets state 0 (numbers_of f.state)
          → Answered (gives (f.written ∷ [])) written r written'
          → TakenFor line state piece lines written r state' lines' written'
      accepted_fed whole r state' written' stored a =
          let six = length_numbers_of f.state in
          let moved : state' ≡ numbers_of f.state ++ drop size state =
          stored
          ∙ sets-eq (numbers_of f.state) state 0 (omega (arith, six_of_accepted))
          ∙ ap (λ (n : ℕ). numbers_of f.state ++ drop n state) (zero-add (length (numbers_of f.state)) ∙ six) in
          rw (accepted, ne_eqb (length written) 0 some, ← e, eq-eqb f.number 0 whole) (a.0, (moved, (put, a.1)))

-- what the code holds of a state, with its number
module _ (line : ℕ → List ℕ → List ℕ) (state piece lines written : List ℕ) (u : Result Trace ℕ) (answered : u ≡ taken_as (trace_of state)) where
  pub not_taken : ¬ (number_in u ≡ 0) → TakenFor line state piece lines written (number_in u) state lines written
  not_taken other = piece_refused line state piece lines written (number_in u) (refused_of_number state u answered other)

  module _ (zero : number_in u ≡ 0) where
    abbrev is_state : trace_of state ≡ Accepted (state_in u)
    is_state = accepted_of_zero state u answered zero

    pub six_of_state : size ≤ length state
    six_of_state = six_of_accepted line state piece lines written (state_in u) is_state

    pub no_slice : length written ≡ 0 → TakenFor line state piece lines written 11 state lines written
    no_slice = accepted_no_slice line state piece lines written (state_in u) is_state

    -- the piece was fed
    module _ (some : length written ≡ 0 → ⊥) (f : Fed) (e : f ≡ fed_of line (state_in u) piece (length lines)) (lines' : List ℕ)
        (put : lines' ≡ fed_put line (state_in u) piece lines) where
      pub not_fed : (f.number ≡ 0 → ⊥) → TakenFor line state piece lines written f.number state lines' written
      not_fed = accepted_not_fed line state piece lines written (state_in u) is_state some f e lines' put

      pub fed : f.number ≡ 0 → (r : ℕ) (state' written' : List ℕ) → state' ≡ sets state 0 (numbers_of f.state)
          → Answered (gives (f.written ∷ [])) written r written'
          → TakenFor line state piece lines written r state' lines' written'
      fed = accepted_fed line state piece lines written (state_in u) is_state some f e lines' put

-- ## The end

abbrev pub EndedFor : List ℕ → List ℕ → List ℕ → ℕ → List ℕ → List ℕ → Type 0
EndedFor state lines written r lines' written' =
    (r ≡ returned (end_answer state (length lines)) written)
    × ((lines' ≡ end_left state lines written) × (written' ≡ filled (end_answer state (length lines)) written))

ended_short : (text written : List ℕ) (room : ℕ) → length written ≡ 0 → Answered (on_finished (ended_of text room)) written 11 written
unfolding ended_of
ended_short text written room z = go (leb (length text) room)
  where
    none : Finished
    none = record { number = 11; written = 0 }

    go : (b : Bool) → Answered (on_finished (cond b (record { number = 0; written = length text }) none)) written 11 written
    go true = answered_short (length text ∷ []) written (omega arith)
    go false = (refl, refl)

module _ (state lines written : List ℕ) where
  pub end_refused : (n : ℕ) → trace_of state ≡ Refused n → EndedFor state lines written n lines written
  end_refused n refused = rw refused (refl, (left_same written lines, refl))

  module _ (t : Trace) (accepted : trace_of state ≡ Accepted t) where
    pub accepted_end_no_slice : length written ≡ 0 → EndedFor state lines written 11 lines written
    accepted_end_no_slice z =
        let short = ended_short (end_line t) written (length lines) z in
        rw (accepted, eq-eqb (length written) 0 z) (short.0, (refl, short.1))

    module _ (some : length written ≡ 0 → ⊥) (f : Finished) (e : f ≡ finished_of t (length lines)) (lines' : List ℕ)
        (put : lines' ≡ finished_put t lines) where
      pub accepted_not_ended : (f.number ≡ 0 → ⊥) → EndedFor state lines written f.number lines' written
      accepted_not_ended other = rw (accepted, ne_eqb (length written) 0 some, ← e, ne_eqb f.number 0 other) (refl, (put, refl))

      pub accepted_ended : f.number ≡ 0 → (r : ℕ) (written' : List ℕ) → Answered (gives (f.written ∷ [])) written r written'
          → EndedFor state lines written r lines' written'
      accepted_ended whole r written' a =
          rw (accepted, ne_eqb (length written) 0 some, ← e, eq-eqb f.number 0 whole) (a.0, (put, a.1))

-- what the code holds of a state, with its number
module _ (state lines written : List ℕ) (u : Result Trace ℕ) (answered : u ≡ taken_as (trace_of state)) where
  pub end_not_taken : ¬ (number_in u ≡ 0) → EndedFor state lines written (number_in u) lines written
  end_not_taken other = end_refused state lines written (number_in u) (refused_of_number state u answered other)

  module _ (zero : number_in u ≡ 0) where
    abbrev is_end_state : trace_of state ≡ Accepted (state_in u)
    is_end_state = accepted_of_zero state u answered zero

    pub end_no_slice : length written ≡ 0 → EndedFor state lines written 11 lines written
    end_no_slice = accepted_end_no_slice state lines written (state_in u) is_end_state

    module _ (some : length written ≡ 0 → ⊥) (f : Finished) (e : f ≡ finished_of (state_in u) (length lines)) (lines' : List ℕ)
        (put : lines' ≡ finished_put (state_in u) lines) where
      pub not_ended : (f.number ≡ 0 → ⊥) → EndedFor state lines written f.number lines' written
      not_ended = accepted_not_ended state lines written (state_in u) is_end_state some f e lines' put

      pub ended : f.number ≡ 0 → (r : ℕ) (written' : List ℕ) → Answered (gives (f.written ∷ [])) written r written'
          → EndedFor state lines written r lines' written'
      ended = accepted_ended state lines written (state_in u) is_end_state some f e lines' put
