-- Document 02, E14: what the call answers for a board, and what the room then holds: "A board the planner refuses gets that number", "Short
-- room is 11 with no byte written". Assumes nothing.
use Rattle.std.specs.Prelude.{ℕ, ◌*◌, cond, List, ◌++◌, ltb, length, drop}
use Rattle.board.specs.Board.{host_of, functions_of}
use Rattle.sheet.specs.Sheet.{parts_in, full_sheet}
use Rattle.sheet_bytes.specs.Layout.{sheet_bytes}
use Rattle.plan_answer.specs.declared.Planning.{Planning}
use Rattle.plan_answer.specs.declared.Planning.TheVariants.{Planned, Refused as NotPlanned}
use Rattle.plan_answer.specs.Plan.{plan_of, planning}
use Rattle.script_writes.specs.declared.Boot.{Boot}
use Rattle.script_writes.specs.Writes.{Write, writes_of}
use Rattle.script_writes.specs.Script.{write_stride, script_from}
use Rattle.scripter.specs.declared.Scripting.{Scripting}
use Rattle.scripter.specs.declared.Scripting.TheVariants.{Written, Refused}

-- ## The script of a board that is planned

abbrev pub planned_sheet : List ℕ → List ℕ
planned_sheet b = sheet_bytes (plan_of (host_of b) (functions_of b))

unfoldable pub board_writes : List ℕ → List Write
board_writes b = writes_of (parts_in (planned_sheet b))

-- the root bus is the host's first
abbrev pub boot_of : List ℕ → ℕ → Boot
boot_of b requester = record { requester = requester; root = (host_of b).first_bus }

abbrev pub script_of : List ℕ → ℕ → ℕ → List ℕ
script_of b requester tag = script_from (boot_of b requester) tag (board_writes b)

abbrev pub script_length : List ℕ → ℕ
script_length b = write_stride * length (board_writes b)

-- ## The answer: the planner's number, given room for its sheet, then short room (11)

abbrev pub scripting_as : Planning → ℕ → ℕ → Scripting
scripting_as (NotPlanned n) size room = Refused n
scripting_as (Planned n) size room = cond (ltb room size) (Refused 11) (Written size)

unfoldable pub scripting : List ℕ → ℕ → Scripting
scripting b room = scripting_as (planning b full_sheet) (script_length b) room

-- document 01's number of a scripting
abbrev pub number_of : Scripting → ℕ
number_of (Written n) = 0
number_of (Refused n) = n

-- the script's bytes followed by what was there; unchanged when refused
abbrev pub room_as : Scripting → List ℕ → ℕ → ℕ → List ℕ → List ℕ
room_as (Written n) b requester tag room = script_of b requester tag ++ drop n room
room_as (Refused n) b requester tag room = room

unfoldable pub room_after : List ℕ → ℕ → ℕ → List ℕ → List ℕ
room_after b requester tag room = room_as (scripting b (length room)) b requester tag room
