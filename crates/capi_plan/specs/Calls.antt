-- What the call that plans a board answers, from document 01's definitions, and what the sheet then holds. Assumes nothing.
use Rattle.std.specs.Prelude.{ℕ, List, [], ◌∷◌}
use Rattle.plan_answer.specs.declared.Planning.{Planning}
use Rattle.plan_answer.specs.declared.Planning.TheVariants.{Planned, Refused as NotPlanned}
use Rattle.plan_answer.specs.Plan.{planning, sheet_after}
use Rattle.capi_answers.specs.Answers.{Answer, refuses, gives, left_beside}

-- the sheet's length
abbrev pub on_planning : Planning → Answer
on_planning (Planned n) = gives (n ∷ [])
on_planning (NotPlanned n) = refuses n

abbrev pub plan_answer : List ℕ → ℕ → Answer
plan_answer board room = on_planning (planning board room)

-- with no room for the answer nothing is planned
abbrev pub sheet_left : List ℕ → List ℕ → List ℕ → List ℕ
sheet_left board sheet written = left_beside written sheet (sheet_after board sheet)
