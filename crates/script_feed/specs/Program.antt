-- What the program `script` writes: of an input that is a requester ID in two bytes, a tag in one and then a board, to the end, the board's
-- script, or the line `refused N` with the planner's number. An input of fewer than three bytes has a board of no bytes. Assumes nothing.
use Rattle.std.specs.Prelude.{ℕ, List, get_or, drop}
use Rattle.text.specs.Text.{refusal_text}
use Rattle.endian.specs.Endian.{be}
use Rattle.sheet.specs.Sheet.{full_sheet}
use Rattle.plan_answer.specs.declared.Planning.{Planning}
use Rattle.plan_answer.specs.declared.Planning.TheVariants.{Planned, Refused as NotPlanned}
use Rattle.plan_answer.specs.Plan.{planning}
use Rattle.scripter.specs.Scripting.{script_of}

abbrev pub front_size : ℕ
front_size = 3

abbrev pub board_in : List ℕ → List ℕ
board_in input = drop front_size input

-- of the first three bytes, or of more
abbrev pub requester_in : List ℕ → ℕ
requester_in front = be 2 front 0

abbrev pub tag_in : List ℕ → ℕ
tag_in front = get_or front 2 0

abbrev pub on_planning : Planning → List ℕ → List ℕ
on_planning (Planned n) input = script_of (board_in input) (requester_in input) (tag_in input)
on_planning (NotPlanned n) input = refusal_text n

abbrev pub program_of : List ℕ → List ℕ
program_of input = on_planning (planning (board_in input) full_sheet) input
