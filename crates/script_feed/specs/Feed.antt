-- An input of any length, fed in pieces: three bytes are kept and then the board, as `board_feed` keeps it. `pieces_scripted` of FeedLaws
-- says that the answer is the program's on all the bytes, wherever the cuts fall. Assumes nothing.
use Rattle.std.specs.Prelude.{ℕ, ◌+◌, ◌-◌, min, cond, List, length, take, drop}
use Rattle.std.proofs.lemmas.List.Edits.{sets}
use Rattle.text.specs.Text.{refusal_text}
use Rattle.board_feed.specs.Feed as board
use Rattle.board_feed.specs.Feed.{is_long, frame_number}
use Rattle.scripter.specs.declared.Scripting.{Scripting}
use Rattle.scripter.specs.declared.Scripting.TheVariants.{Written, Refused}
use Rattle.scripter.specs.Scripting.{script_of, scripting, room_after}
use Rattle.scripter.specs.LongestLaws.{longest_script}
use Rattle.script_feed.specs.declared.Input.{Input}
use Rattle.script_feed.specs.Program.{front_size, requester_in, tag_in}

abbrev pub started : Input
started = record { front = 0; board = board.started }

-- what of a piece comes before the board, and what is the board's
abbrev pub before_board : Input → List ℕ → List ℕ
before_board f piece = take (front_size - f.front) piece

abbrev pub of_board : Input → List ℕ → List ℕ
of_board f piece = drop (front_size - f.front) piece

-- with a piece more, and the two rooms
abbrev pub fed_of : Input → List ℕ → Input
fed_of f piece =
    record { front = min (f.front + length (before_board f piece)) front_size; board = board.fed_of f.board (of_board f piece) }

abbrev pub front_after : Input → List ℕ → List ℕ → List ℕ
front_after f front piece = sets front f.front (before_board f piece)

abbrev pub kept_after : Input → List ℕ → List ℕ → List ℕ
kept_after f kept piece = board.kept_after f.board kept (of_board f piece)

-- ## The answer: of an input too long for a board, by its frame; else of the bytes kept

abbrev pub board_of : Input → List ℕ → List ℕ
board_of f kept = take f.board.count kept

unfoldable pub scripting_of : Input → List ℕ → ℕ → Scripting
scripting_of f kept room = cond (is_long f.board) (Refused (frame_number f.board)) (scripting (board_of f kept) room)

unfoldable pub room_of : Input → List ℕ → List ℕ → List ℕ → List ℕ
room_of f front kept room = cond (is_long f.board) room (room_after (board_of f kept) (requester_in front) (tag_in front) room)

-- as it is written out
abbrev pub answer_as : Scripting → List ℕ → List ℕ → List ℕ
answer_as (Written n) board front = script_of board (requester_in front) (tag_in front)
answer_as (Refused n) board front = refusal_text n

unfoldable pub answer_of : Input → List ℕ → List ℕ → List ℕ
answer_of f front kept = answer_as (scripting_of f kept longest_script) (board_of f kept) front
