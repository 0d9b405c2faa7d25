-- What the planner's answer says: a sheet's length is answered only for a board that is accepted and runs out of nothing, the sheet then
-- starts the room, and whatever its command words it is a planned sheet. Assumes nothing.
use Rattle.std.specs.Prelude.{◌≡◌, refl, Bool, true, false, cond, List, ℕ, length, take, drop, eqb, ltb}
use Rattle.std.proofs.Common.{ap, subst, ◌∙◌, arith, take_at, eqb-true}
use Rattle.endian.specs.Endian.{Bytes}
use Rattle.plan_rule.specs.Refusals.{refusal_of}
use Rattle.board.specs.Board.{board_number, host_of, functions_of}
use Rattle.board.specs.ToPlacing.{to_host, to_placing}
use Rattle.sheet.specs.Commands.{SameButCommands}
use Rattle.sheet.specs.Sheet.{sheet_length}
use Rattle.sheet_bytes.specs.Layout.{sheet_bytes}
use Rattle.sheet_bytes.proofs.LayoutLaws.{length_sheet_bytes}
use Rattle.plan_answer.specs.declared.Planning.{Planning}
use Rattle.plan_answer.specs.declared.Planning.TheVariants.{Planned as PlannedAt, Refused}
use Rattle.plan_answer.specs.Plan.{plan_of, on_room, on_board, planning, sheet_as, sheet_after}
use Rattle.plan_sheet.proofs.Passes.{length_plan}
use Rattle.plan_sheet.proofs.Delivery.{PlannedSheet, planned_sheet_of_board}

pub record AnswersPlanned (b : List ℕ) (n : ℕ) : Type 0 where
  pub accepted : board_number b ≡ 0
  pub not_refused : refusal_of (to_host (host_of b)) (to_placing (functions_of b)) ≡ 0
  pub length_is : length (sheet_bytes (plan_of (host_of b) (functions_of b))) ≡ n

-- an answer that a test chose between and a refusal
chosen : (t : Bool) (p : Planning) (m n : ℕ) → cond t p (Refused m) ≡ PlannedAt n → (t ≡ true) × (p ≡ PlannedAt n)
chosen true p m n e = (refl, e)
chosen false p m n e = let z : ◌≡◌ {A = ℕ} 0 1 = cc in absurd (omega arith)

room_left_lem : (t : Bool) (m k n : ℕ) → cond t (Refused m) (PlannedAt k) ≡ PlannedAt n → k ≡ n
room_left_lem true m k n e = let z : ◌≡◌ {A = ℕ} 0 1 = cc in absurd (omega arith)
room_left_lem false m k n e = cc

pub planned_of_answer : (b : List ℕ) (room n : ℕ) → planning b room ≡ PlannedAt n → AnswersPlanned b n
unfolding planning on_board on_room
planned_of_answer b room n e =
    let h = host_of b in
    let fs = functions_of b in
    let refusal = refusal_of (to_host h) (to_placing fs) in
    let a = chosen (eqb (board_number b) 0) (on_board h fs room) (board_number b) n e in
    let k = chosen (eqb refusal 0) (on_room (sheet_length (length fs)) room) refusal n a.1 in
    let l = room_left_lem (ltb room (sheet_length (length fs))) 11 (sheet_length (length fs)) n k.1 in
    record {
      accepted = eqb-true (board_number b) 0 a.0;
      not_refused = eqb-true refusal 0 k.0;
      length_is = omega (arith, length_sheet_bytes (plan_of h fs), length_plan h fs);
    }

-- the room then starts with the sheet
pub sheet_of_answer : (b room : List ℕ) (n : ℕ) → planning b (length room) ≡ PlannedAt n
    → take n (sheet_after b room) ≡ sheet_bytes (plan_of (host_of b) (functions_of b))
unfolding sheet_after
sheet_of_answer b room n e =
    let s = sheet_bytes (plan_of (host_of b) (functions_of b)) in
    ap (λ (p : Planning). take n (sheet_as p b room)) e ∙ take_at s (drop n room) n (planned_of_answer b (length room) n e).length_is

-- and what the planner left there, as planned or with its command words rewritten, is a planned sheet
pub planned_sheet_of_answer : (b room : List ℕ) (n : ℕ) → Bytes b → planning b (length room) ≡ PlannedAt n
    → (t : List ℕ) → SameButCommands (take n (sheet_after b room)) t → PlannedSheet (host_of b) (functions_of b) t
planned_sheet_of_answer b room n bytes e t same =
    let a = planned_of_answer b (length room) n e in
    planned_sheet_of_board b bytes a.accepted a.not_refused t
    (subst (λ (s : List ℕ). SameButCommands s t) (sheet_of_answer b room n e) same)
