-- A board of any length, fed in pieces: as many bytes are kept as a lawful board can have, and one more to tell that there are more.
-- `pieces_planned` of FeedLaws says that the answer is the planner's on all the bytes, wherever the cuts fall. Assumes nothing.
use Rattle.std.specs.Prelude.{ℕ, ◌+◌, min, Bool, cond, List, length, take, ltb}
use Rattle.std.proofs.lemmas.List.Edits.{sets}
use Rattle.records.specs.declared.frame.Stage.TheVariants.{Start}
use Rattle.records.specs.Frame.{ending_of}
use Rattle.plan_answer.specs.declared.Planning.{Planning}
use Rattle.plan_answer.specs.declared.Planning.TheVariants.{Refused}
use Rattle.plan_answer.specs.Plan.{planning, sheet_after}
use Rattle.sheet_text.specs.Listing.{planning_text}
use Rattle.board_feed.specs.declared.Feed.{Feed}
use Rattle.board_feed.specs.Tally.{most_bytes, fresh, number_at}
use Rattle.board_feed.specs.Shown.{board_stage, board_heard}

abbrev pub kept : ℕ
kept = most_bytes + 1

abbrev pub started : Feed
started = record { count = 0; stage = Start; tally = fresh }

-- with a piece more, and the room that keeps the first bytes
abbrev pub fed_of : Feed → List ℕ → Feed
fed_of f piece =
    record {
      count = min (f.count + length piece) kept;
      stage = board_stage f.stage piece;
      tally = board_heard f.stage f.tally piece;
    }

abbrev pub kept_after : Feed → List ℕ → List ℕ → List ℕ
kept_after f room piece = sets room f.count piece

-- ## The answer: of an input too long for a board, by its frame; else the planner's, on the bytes kept

unfoldable pub is_long : Feed → Bool
is_long f = ltb most_bytes f.count

unfoldable pub frame_number : Feed → ℕ
frame_number f = number_at (ending_of f.stage) f.tally

unfoldable pub planning_of : Feed → List ℕ → ℕ → Planning
planning_of f room size = cond (is_long f) (Refused (frame_number f)) (planning (take f.count room) size)

unfoldable pub sheet_of : Feed → List ℕ → List ℕ → List ℕ
sheet_of f room sheet = cond (is_long f) sheet (sheet_after (take f.count room) sheet)

-- as it is printed
unfoldable pub answer_of : Feed → List ℕ → List ℕ → List ℕ
answer_of f room sheet = planning_text (planning_of f room (length sheet)) (sheet_of f room sheet)
