-- What is printed of a board: the plan that the placing rule makes of it, or its number. The sheet that the planner leaves prints so.
-- Assumes nothing.
use Rattle.std.specs.Prelude.{List, map, ℕ}
use Rattle.text.specs.Text.{refusal_text}
use Rattle.board.specs.Board.{host_of, functions_of}
use Rattle.plan_answer.specs.declared.Planning.{Planning}
use Rattle.plan_answer.specs.declared.Planning.TheVariants.{Planned, Refused}
use Rattle.plan_answer.specs.Plan.{plan_of, planning}
use Rattle.sheet_text.specs.Listing.{plan_text}

abbrev pub board_text_as : Planning → List ℕ → List ℕ
board_text_as (Planned n) b = plan_text (map (λ p. p.entry) (plan_of (host_of b) (functions_of b)))
board_text_as (Refused n) b = refusal_text n

-- with room for a sheet of so many bytes
unfoldable pub board_text : List ℕ → ℕ → List ℕ
board_text b room = board_text_as (planning b room) b
