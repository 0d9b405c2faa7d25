-- A plan one step each, in the words of the code. Assumes nothing.
use Rattle.std.specs.Prelude.{ℕ, ◌<◌, ◌≡◌, refl, Bool, true, false, cond, List, [], ◌∷◌, length, ltb, eqb}
use Rattle.std.proofs.Common.{arith, sym, ap, ◌∙◌, lt-ltb, eq-eqb, ne_eqb}
use Rattle.sheet.specs.Sheet.{sheet_length}
use Rattle.plan_rule.specs.Refusals.{refusal_of}
use Rattle.board.specs.Board.{board_number, host_of, functions_of}
use Rattle.board.specs.ToPlacing.{to_host, to_placing}
use Rattle.plan_answer.specs.declared.Planning.{Planning}
use Rattle.plan_answer.specs.declared.Planning.TheVariants.{Planned, Refused as NotPlanned}
use Rattle.plan_answer.specs.Plan.{on_room, on_board, planning, number_of as planning_number, sheet_after}
use Rattle.capi_answers.specs.Answers.{returned, filled}
use Rattle.capi_answers.proofs.AnswersLaws.{Answered, answered_short}
use Rattle.capi_plan.specs.Calls.{on_planning, plan_answer, sheet_left}

-- the sheet, the answer and the length's slice after, together
abbrev pub PlannedFor : List ℕ → List ℕ → List ℕ → ℕ → List ℕ → List ℕ → Type 0
PlannedFor board sheet written r after slice =
    (r ≡ returned (plan_answer board (length sheet)) written)
    × ((after ≡ sheet_left board sheet written) × (slice ≡ filled (plan_answer board (length sheet)) written))

-- the number with no room for the answer
abbrev unplanned_of : Planning → ℕ
unplanned_of (Planned n) = 11
unplanned_of (NotPlanned n) = n

-- what would be planned is short of room in an empty sheet: the two tests are the board's own number and 30 to 33
without_room : (accepted kept : Bool) (own out size room : ℕ) → 0 < size
    → planning_number (cond accepted (cond kept (on_room size 0) (NotPlanned out)) (NotPlanned own))
    ≡ unplanned_of (cond accepted (cond kept (on_room size room) (NotPlanned out)) (NotPlanned own))
unfolding on_room
without_room false kept own out size room h = refl
without_room true false own out size room h = refl
without_room true true own out size room h = rw (lt-ltb 0 size h) (go (ltb room size))
  where
    go : (b : Bool) → 11 ≡ unplanned_of (cond b (NotPlanned 11) (Planned size))
    go true = refl
    go false = refl

module _ (board sheet written : List ℕ) where
  plan_short : length written ≡ 0 → (a : Planning) → Answered (on_planning a) written (unplanned_of a) written
  plan_short z (Planned n) = answered_short (n ∷ []) written (omega arith)
  plan_short z (NotPlanned n) = (refl, refl)

  plan_empty : (room : ℕ) → planning_number (planning board 0) ≡ unplanned_of (planning board room)
  unfolding planning on_board
  plan_empty room =
      let fs = functions_of board in
      let out = refusal_of (to_host (host_of board)) (to_placing fs) in
      without_room (eqb (board_number board) 0) (eqb out 0) (board_number board) out (sheet_length (length fs)) room (omega arith)

  pub planned_nothing : (r : ℕ) → r ≡ planning_number (planning board 0) → length written ≡ 0
      → PlannedFor board sheet written r sheet written
  planned_nothing r e z =
      let a = plan_short z (planning board (length sheet)) in
      (e ∙ plan_empty (length sheet) ∙ a.0, (rw (eq-eqb (length written) 0 z), a.1))

  module _ (more : length written ≡ 0 → ⊥) (w : Planning) (e : w ≡ planning board (length sheet)) (after : List ℕ)
      (f : after ≡ sheet_after board sheet) where
    pub planned : (r : ℕ) (slice : List ℕ) → Answered (on_planning w) written r slice → PlannedFor board sheet written r after slice
    planned r slice a = (
      a.0 ∙ ap (λ (x : Planning). returned (on_planning x) written) e,
      (f ∙ sym (rw (ne_eqb (length written) 0 more)), a.1 ∙ ap (λ (x : Planning). filled (on_planning x) written) e),
    )
