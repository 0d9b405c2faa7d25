-- A piece that is taken in parts, each of no more bytes than lines fit: none is refused. Assumes nothing.
use Rattle.std.specs.Prelude.{◌≡◌, refl, Bool, true, false, cond, List, ◌++◌, ℕ, ◌+◌, ◌-◌, ◌/◌, ◌≤◌, ◌<◌, length, take, drop, leb}
use Rattle.std.proofs.Common.{sym, ◌∙◌, arith, length-take, take-append-drop, drop-drop, le-leb}
use Rattle.std.proofs.Math.Path.{ap}
use Rattle.trace.specs.declared.Trace.{Trace}
use Rattle.trace.specs.declared.Fed.{Fed}
use Rattle.trace.specs.Trace.{state_of, lines_of}
use Rattle.trace.proofs.TraceLaws.{state_append, state_past}
use Rattle.trace.specs.Feed.{taken_fed, refused_fed, fed_of}
use Rattle.trace.proofs.FeedLaws.{Sound, count_le_length, state_sound}
use Rattle.trace_engine.specs.declared.Engine.{Engine}
use Rattle.trace_engine.specs.Engine.{line_of, longest_of}
use Rattle.trace_engine.specs.EngineLaws.{few_fit}

-- a piece that was taken moves the state by all of it
pub taken_of_zero : (line : ℕ → List ℕ → List ℕ) (t : Trace) (piece : List ℕ) (room : ℕ) (fed : Fed) → fed ≡ fed_of line t piece room
    → fed.number ≡ 0 → fed.state ≡ state_of t piece
unfolding fed_of
taken_of_zero line t piece room fed e z =
    ap (λ (f : Fed). f.state) e ∙ go (leb (length (lines_of line t piece)) room) (sym (ap (λ (f : Fed). f.number) e) ∙ z)
  where
    go : (b : Bool) → (cond b (taken_fed line t piece) (refused_fed line t)).number ≡ 0
        → (cond b (taken_fed line t piece) (refused_fed line t)).state ≡ state_of t piece
    go true z = refl
    go false z = absurd (omega (arith, z))

-- p is a part of no more bytes than lines fit
module _ (engine : Engine) (bytes : List ℕ) (t : Trace) (p : List ℕ) (room most : ℕ) (fed : Fed) (sound : Sound t.number)
    (is : most ≡ room / longest_of engine) (few : length p ≤ most) (e : fed ≡ fed_of (line_of engine bytes) t p room) where
  bytes_fit : length (lines_of (line_of engine bytes) t p) ≤ room
  bytes_fit = few_fit engine bytes t p room sound (rw (← is) (omega (arith, count_le_length t.stage p)))

  bytes_taken : fed.state ≡ state_of t p
  unfolding fed_of
  bytes_taken = ap (λ (f : Fed). f.state) e ∙ rw (le-leb (length (lines_of (line_of engine bytes) t p)) room bytes_fit)

  pub bytes_sound : Sound fed.state.number
  bytes_sound = rw bytes_taken (state_sound t p sound)

  -- the rest is taken from there
  pub bytes_state : (s rest : List ℕ) → s ≡ p ++ rest → state_of fed.state rest ≡ state_of t s
  bytes_state s rest is = ap (λ (u : Trace). state_of u rest) bytes_taken ∙ sym (state_append t p rest) ∙ ap (state_of t) (sym is)

pub bytes_done : (line : ℕ → List ℕ → List ℕ) (t t₀ : Trace) (piece rest : List ℕ) → state_of t rest ≡ state_of t₀ piece
    → length rest ≡ 0 → t ≡ state_of t₀ piece
bytes_done line t t₀ piece rest e h = sym (state_past line t rest 0 (omega arith)) ∙ e

-- i and end are places in the piece, with no more bytes between them than lines fit
module _ (engine : Engine) (bytes : List ℕ) (t : Trace) (piece : List ℕ) (i end room most : ℕ) (fed : Fed) (sound : Sound t.number)
    (on : i < end) (inside : end ≤ length piece) (is : most ≡ room / longest_of engine) (few : end ≤ i + most)
    (e : fed ≡ fed_of (line_of engine bytes) t (take (end - i) (drop i piece)) room) where
  part_fits : length (lines_of (line_of engine bytes) t (take (end - i) (drop i piece))) ≤ room
  part_fits =
      let p = take (end - i) (drop i piece) in
      few_fit engine bytes t p room sound
      (rw (← is) (omega (arith, count_le_length t.stage p, length-take (end - i) (drop i piece))))

  part_taken : fed.state ≡ state_of t (take (end - i) (drop i piece))
  unfolding fed_of
  part_taken =
      let p = take (end - i) (drop i piece) in
      ap (λ (f : Fed). f.state) e ∙ rw (le-leb (length (lines_of (line_of engine bytes) t p)) room part_fits)

  pub part_sound : Sound fed.state.number
  part_sound = rw part_taken (state_sound t (take (end - i) (drop i piece)) sound)

  pub part_state : state_of fed.state (drop end piece) ≡ state_of t (drop i piece)
  part_state =
      let to : i + (end - i) ≡ end = omega arith in
      let rest : drop (end - i) (drop i piece) ≡ drop end piece = drop-drop (end - i) i piece ∙ ap (λ (k : ℕ). drop k piece) to in
      let p = take (end - i) (drop i piece) in
      ap (λ (u : Trace). state_of u (drop end piece)) part_taken
      ∙ ap (state_of (state_of t p)) (sym rest)
      ∙ sym (state_append t p (drop (end - i) (drop i piece)))
      ∙ ap (state_of t) (take-append-drop (end - i) (drop i piece))

pub parts_done : (line : ℕ → List ℕ → List ℕ) (t t₀ : Trace) (piece : List ℕ) (i : ℕ) → state_of t (drop i piece) ≡ state_of t₀ piece
    → length piece ≤ i → t ≡ state_of t₀ piece
parts_done line t t₀ piece i e h = sym (state_past line t piece i h) ∙ e
