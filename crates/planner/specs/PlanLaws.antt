-- The planner's answers, in the words of its code. Assumes nothing.
use Rattle.std.specs.Prelude.{◌≡◌, List, ◌++◌, ℕ, ◌+◌, ◌≤◌, ◌<◌, length, take, drop}
use Rattle.std.proofs.Common.{sym, ap, subst, ◌∙◌, zero-add, arith}
use Rattle.std.proofs.lemmas.List.Edits.{sets, sets-eq}
use borrow.Author.Tests.{lt-ltb, le-ltb, eq-eqb, ne_eqb}
use Rattle.endian.specs.Endian.{Bytes}
use Rattle.plan_rule.specs.Refusals.{refusal_of}
use Rattle.board_record.specs.declared.Host.{Host}
use Rattle.board_record.specs.declared.Function.{Function}
use Rattle.board_record.specs.Host.{host_of_part, host_length}
use Rattle.board.specs.Board.{board_number, host_of, functions_of}
use Rattle.board.proofs.BoardLaws.{accepted_of_zero}
use Rattle.board.specs.ToPlacing.{to_host, to_placing}
use Rattle.sheet.specs.Sheet.{sheet_length}
use Rattle.sheet_bytes.specs.Layout.{sheet_bytes}
use Rattle.sheet_bytes.proofs.LayoutLaws.{length_sheet_bytes}
use Rattle.plan_answer.specs.declared.Planning.{Planning}
use Rattle.plan_answer.specs.declared.Planning.TheVariants.{Planned, Refused}
use Rattle.plan_answer.specs.Plan.{plan_of, on_room, on_board, planning, sheet_as, sheet_after}
use Rattle.plan_pass.specs.Loop.{Placing}
use Rattle.plan_sheet.proofs.Passes.{length_plan}
use Rattle.planner.specs.declared.Measured.{Measured}
use Rattle.planner.specs.Measure.{refusal_by, IsMeasured}
use Rattle.planner.specs.MeasureLaws.{refusal_by_is}
use Rattle.planner.specs.RoomLaws.{placing_of_measured}

-- ---- an unlawful board

pub planning_unlawful : (b : List ℕ) (room : ℕ) → (board_number b ≡ 0 → ⊥) → planning b room ≡ Refused (board_number b)
unfolding planning
planning_unlawful b room n = rw (ne_eqb (board_number b) 0 n)

pub planning_lawful : (b : List ℕ) (room : ℕ) → board_number b ≡ 0 → planning b room ≡ on_board (host_of b) (functions_of b) room
unfolding planning
planning_lawful b room e = rw (eq-eqb (board_number b) 0 e)

-- the sheet by the answer
pub sheet_after_is : {p : Planning} {s : List ℕ} (b room : List ℕ) → p ≡ planning b (length room) → s ≡ sheet_as p b room → s
    ≡ sheet_after b room
unfolding sheet_after
sheet_after_is b room e g = g ∙ ap (λ (p : Planning). sheet_as p b room) e

-- ---- a lawful one

module _ (h : Host) (fs : List Function) (room : ℕ) where
  on_board_refused : (refusal_of (to_host h) (to_placing fs) ≡ 0 → ⊥) → on_board h fs room ≡ Refused (refusal_of (to_host h) (to_placing fs))
  unfolding on_board
  on_board_refused n = rw (ne_eqb (refusal_of (to_host h) (to_placing fs)) 0 n)

  on_board_short : refusal_of (to_host h) (to_placing fs) ≡ 0 → room < sheet_length (length fs) → on_board h fs room ≡ Refused 11
  unfolding on_board on_room
  on_board_short e l = rw (eq-eqb (refusal_of (to_host h) (to_placing fs)) 0 e, lt-ltb room (sheet_length (length fs)) l)

  pub on_board_planned : refusal_of (to_host h) (to_placing fs) ≡ 0 → sheet_length (length fs) ≤ room → on_board h fs room
      ≡ Planned (sheet_length (length fs))
  unfolding on_board on_room
  on_board_planned e l = rw (eq-eqb (refusal_of (to_host h) (to_placing fs)) 0 e, le-ltb room (sheet_length (length fs)) l)

-- the sheet's bytes, and past them what was there
sheet_stored : {s : List ℕ} {n : ℕ} (b room : List ℕ) → n ≡ sheet_length (length (functions_of b)) → n ≤ length room
    → s ≡ sets room 0 (sheet_bytes (plan_of (host_of b) (functions_of b))) → s ≡ sheet_as (Planned n) b room
sheet_stored {n = n} b room e l g =
    let bytes = sheet_bytes (plan_of (host_of b) (functions_of b)) in
    let size : length bytes ≡ n =
    length_sheet_bytes (plan_of (host_of b) (functions_of b)) ∙ ap sheet_length (length_plan (host_of b) (functions_of b)) ∙ sym e in
    g ∙ sets-eq bytes room 0 (omega (arith, size)) ∙ ap (λ (k : ℕ). bytes ++ drop k room) (zero-add (length bytes) ∙ size)

-- ---- in the words of the code: the host read, the board measured, and the number that follows

pub host_read_is : {p : List ℕ} {h : Host} (b : List ℕ) → board_number b ≡ 0 → p ≡ take host_length (drop (1 + 2) b) → h ≡ host_of_part p
    → h ≡ host_of b
host_read_is b e part host = host ∙ ap host_of_part part ∙ sym (accepted_of_zero b e).host_read

module _ {h : Host} {counts memo : List ℕ} {m : Measured} {n : ℕ} (b : List ℕ) (bytes : Bytes b) (accepted : board_number b ≡ 0)
    (host_is : h ≡ host_of b)
    (is : IsMeasured b h counts memo m) (number : n ≡ refusal_by h m) where
  number_is : n ≡ refusal_of (to_host (host_of b)) (to_placing (functions_of b))
  number_is = number ∙ ap (λ (x : Host). refusal_by x m) host_is
      ∙ refusal_by_is b bytes accepted (subst (λ (x : Host). IsMeasured b x counts memo m) host_is is)

  size_is : {size : ℕ} → size ≡ sheet_length m.functions → size ≡ sheet_length (length (functions_of b))
  size_is e = e ∙ ap sheet_length is.functions

  pub lawful_refused : (room : ℕ) → (n ≡ 0 → ⊥) → Refused n ≡ on_board (host_of b) (functions_of b) room
  lawful_refused room some =
      ap Refused number_is ∙ sym (on_board_refused (host_of b) (functions_of b) room (λ z. some (number_is ∙ z)))

  module _ (none : n ≡ 0) (size : ℕ) (e : size ≡ sheet_length m.functions) where
    pub lawful_short : (room : ℕ) → room < size → Refused 11 ≡ on_board (host_of b) (functions_of b) room
    lawful_short room l = sym (on_board_short (host_of b) (functions_of b) room (sym number_is ∙ none) (omega (arith, l, size_is e)))

    pub lawful_placing : (sheet : List ℕ) → size ≤ length sheet → Placing b h counts memo sheet
    lawful_placing sheet l = placing_of_measured b sheet bytes accepted host_is is (sym number_is ∙ none) (omega (arith, l, size_is e))

    pub lawful_planned : (room : ℕ) → size ≤ room → Planned size ≡ on_board (host_of b) (functions_of b) room
    lawful_planned room l =
        ap Planned (size_is e) ∙ sym (on_board_planned (host_of b) (functions_of b) room (sym number_is ∙ none) (omega (arith, l, size_is e)))

    pub lawful_sheet : {s : List ℕ} (room : List ℕ) → size ≤ length room → s ≡ sets room 0 (sheet_bytes (plan_of (host_of b) (functions_of b)))
        → s ≡ sheet_as (Planned size) b room
    lawful_sheet room l g = sheet_stored b room (size_is e) l g
