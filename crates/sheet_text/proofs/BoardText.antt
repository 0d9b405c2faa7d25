-- What is printed of a board: the plan that the placing rule makes of it, or its number. The sheet that the planner leaves prints so.
-- Assumes nothing.
use Rattle.std.specs.Prelude.{◌≡◌, refl, List, ℕ, length}
use Rattle.std.proofs.Common.{sym, ap, ◌∙◌}
use Rattle.endian.specs.Endian.{Bytes}
use Rattle.board.specs.Board.{host_of, functions_of}
use Rattle.sheet_bytes.specs.Layout.{sheet_bytes}
use Rattle.sheet_bytes.proofs.ReadBack.{entries_of_sheet_bytes}
use Rattle.plan_answer.specs.declared.Planning.{Planning}
use Rattle.plan_answer.specs.declared.Planning.TheVariants.{Planned, Refused}
use Rattle.plan_answer.specs.Plan.{plan_of, planning, sheet_after}
use Rattle.plan_sheet.proofs.Accepted.{fits_of_accepted}
use Rattle.plan_sheet.proofs.Shaped.{shaped}
use Rattle.plan_sheet.proofs.Passes.{planned_sheet_passes}
use Rattle.plan_sheet.proofs.Answer.{planned_of_answer, sheet_of_answer}
use Rattle.sheet_text.specs.Listing.{plan_text, sheet_text, planning_text}
use Rattle.sheet_text.proofs.ListingLaws.{sheet_text_good}
use Rattle.sheet_text.specs.BoardText.{board_text, board_text_as}

pub planner_prints : (b room : List ℕ) → Bytes b → planning_text (planning b (length room)) (sheet_after b room) ≡ board_text b (length room)
unfolding board_text
planner_prints b room bytes = go (planning b (length room)) refl
  where
    printed : (n : ℕ) → planning b (length room) ≡ Planned n → planning_text (Planned n) (sheet_after b room) ≡ board_text_as (Planned n) b
    printed n e =
        let a = planned_of_answer b (length room) n e in
        let h = host_of b in
        let fs = functions_of b in
        let fits = fits_of_accepted b bytes a.accepted in
        let passes = planned_sheet_passes h fs fits a.not_refused in
        ap sheet_text (sheet_of_answer b room n e)
        ∙ sheet_text_good (sheet_bytes (plan_of h fs)) 0 (sym passes) refl
        ∙ ap plan_text (entries_of_sheet_bytes (plan_of h fs) (shaped h fs fits a.not_refused))

    go : (p : Planning) → planning b (length room) ≡ p → planning_text p (sheet_after b room) ≡ board_text_as p b
    go (Planned n) e = printed n e
    go (Refused n) e = refl
