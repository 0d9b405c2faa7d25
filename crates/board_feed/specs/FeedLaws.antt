-- Wherever the cuts fall, an input of any length comes to the planner's answer on all its bytes. Assumes nothing.
use Rattle.std.specs.Prelude.{◌≡◌, Bool, cond, ◌||◌, ℕ, ◌+◌, ◌≤◌, ◌<◌, min, length, take, eqb}
use Rattle.std.proofs.Math.Path.{refl, ap, ap₂}
use Rattle.std.proofs.Common.{sym, ◌∙◌, arith}
use Rattle.std.proofs.Math.Bool.{true, false}
use mathlib.Core.List.{List, [], ◌++◌, flatten}
use Rattle.std.proofs.Math.Dec.{ltb}
use borrow.Author.Tests.{ne_eqb, lt-ltb, le-ltb, ltb-true, ltb-false}
use Rattle.endian.specs.Endian.{Bytes}
use Rattle.text.specs.Kept.{Kept}
use Rattle.text.specs.KeptLaws.{kept_start, kept_more, count_of_kept, all_kept}
use Rattle.records.specs.declared.frame.Stage.{Stage}
use Rattle.records.specs.declared.frame.Stage.TheVariants.{Start}
use Rattle.records.specs.declared.frame.Ending.{Ending}
use Rattle.records.specs.declared.frame.Ending.TheVariants.{Empty, Unread, Whole, Cut}
use Rattle.records.specs.Frame.{stage_of, heard_of, ending_of}
use Rattle.records.specs.Limits.{most_functions}
use Rattle.records.specs.Pieces.{State, fed_all}
use Rattle.records.specs.PiecesLaws.{fed_all_lem}
use Rattle.board.specs.Board.{board_number}
use Rattle.plan_answer.specs.declared.Planning.{Planning}
use Rattle.plan_answer.specs.declared.Planning.TheVariants.{Refused}
use Rattle.plan_answer.specs.Plan.{planning, sheet_as, sheet_after}
use Rattle.sheet_text.specs.BoardText.{board_text}
use Rattle.sheet_text.proofs.BoardText.{planner_prints}
use Rattle.board_feed.specs.declared.Feed.{Feed}
use Rattle.board_feed.specs.declared.Tally.{Tally}
use Rattle.board_feed.specs.Tally.{most_bytes, fresh, whole_number, number_at}
use Rattle.board_feed.specs.Shown.{board_stage, board_heard}
use Rattle.board_feed.specs.ShownLaws.{board_stage_append, board_heard_append}
use Rattle.board_feed.specs.Feed.{kept, started, fed_of, kept_after, is_long, frame_number, planning_of, sheet_of, answer_of}
use Rattle.board_feed.specs.LongBoards.{long_board_number}

-- ## In the words of the code

pub fed_is : (f : Feed) (room piece : List ℕ) (n : ℕ) (g : Stage) (t : Tally) → length room ≡ kept
    → n ≡ min (f.count + length piece) (length room)
    → g ≡ board_stage f.stage piece → t ≡ board_heard f.stage f.tally piece
    → ◌≡◌ {A = Feed} (record { count = n; stage = g; tally = t }) (fed_of f piece)
fed_is f room piece n g t l e staged tallied = rw (staged, tallied, e, l)

-- ## What was fed

-- s was fed, from a start with some room
pub record Fed (s : List ℕ) (f : Feed) (room : List ℕ) : Type 0 where
  pub in_room : Kept kept s f.count room
  pub staged : f.stage ≡ board_stage Start s
  pub tallied : f.tally ≡ board_heard Start fresh s

pub fed_start : (room : List ℕ) → length room ≡ kept → Fed [] started room
unfolding stage_of heard_of
fed_start room l = record { in_room = kept_start kept room l; staged = refl; tallied = refl }

pub fed_more : {s : List ℕ} {f : Feed} {room : List ℕ} → Fed s f room → (piece : List ℕ)
    → Fed (s ++ piece) (fed_of f piece) (kept_after f room piece)
fed_more {s} {f} {room} before piece =
    record {
      in_room = kept_more before.in_room piece;
      staged = ap (λ (g : Stage). board_stage g piece) before.staged ∙ sym (board_stage_append Start s piece);
      tallied =
          ap₂ (λ (g : Stage) (t : Tally). board_heard g t piece) before.staged before.tallied
          ∙ sym (board_heard_append Start fresh s piece);
    }

-- ## A long input is refused

number_nonzero : (e : Ending) (t : Tally) → number_at e t ≡ 0 → ⊥
unfolding whole_number
number_nonzero Empty t e = absurd (omega (arith, e))
number_nonzero Unread t e = absurd (omega (arith, e))
number_nonzero Whole t e = go (eqb t.records 0 || t.misframed) (ltb (1 + most_functions) t.records) e
  where
    go : (a b : Bool) → ◌≡◌ {A = ℕ} (cond a 20 (cond b 22 24)) 0 → ⊥
    go true b e = absurd (omega (arith, e))
    go false true e = absurd (omega (arith, e))
    go false false e = absurd (omega (arith, e))
number_nonzero Cut t e = absurd (omega (arith, e))

frame_nonzero : (f : Feed) → frame_number f ≡ 0 → ⊥
unfolding frame_number
frame_nonzero f = number_nonzero (ending_of f.stage) f.tally

module _ (s : List ℕ) (long : most_bytes < length s) where
  long_number_lem : board_number s ≡ frame_number (fed_of started s)
  long_number_lem = sym (long_board_number s long)

  long_planning : (size : ℕ) → planning s size ≡ Refused (frame_number (fed_of started s))
  unfolding planning
  long_planning size = rw (long_number_lem, ne_eqb (frame_number (fed_of started s)) 0 (frame_nonzero (fed_of started s)))

  pub long_sheet : (sheet : List ℕ) → sheet_after s sheet ≡ sheet
  unfolding sheet_after
  long_sheet sheet = ap (λ (p : Planning). sheet_as p s sheet) (long_planning (length sheet))

-- ## Any input is planned

module _ {s : List ℕ} {f : Feed} {room : List ℕ} (fed : Fed s f room) where
  count_is : f.count ≡ min (length s) kept
  count_is = count_of_kept fed.in_room

  number_is : frame_number f ≡ frame_number (fed_of started s)
  unfolding frame_number
  number_is = ap₂ (λ (g : Stage) (t : Tally). number_at (ending_of g) t) fed.staged fed.tallied

  is_long_lem : most_bytes < length s → is_long f ≡ true
  unfolding is_long
  is_long_lem h = lt-ltb most_bytes f.count (omega (arith, count_is))

  is_short_lem : length s ≤ most_bytes → is_long f ≡ false
  unfolding is_long
  is_short_lem h = le-ltb most_bytes f.count (omega (arith, count_is))

  kept_is : length s ≤ most_bytes → take f.count room ≡ s
  kept_is h = all_kept fed.in_room (omega arith)

  -- of an input that is not too long all is kept
  pub kept_of_short : is_long f ≡ false → take f.count room ≡ s
  unfolding is_long
  kept_of_short e = kept_is (omega (arith, ltb-false most_bytes f.count e, count_is))

  pub any_planning : (size : ℕ) → planning_of f room size ≡ planning s size
  unfolding planning_of
  any_planning size = go (ltb most_bytes (length s)) refl
    where
      go : (b : Bool) → ltb most_bytes (length s) ≡ b → planning_of f room size ≡ planning s size
      go true e = let h = ltb-true most_bytes (length s) e in rw (is_long_lem h, number_is) (sym (long_planning s h size))
      go false e = let h = ltb-false most_bytes (length s) e in rw (is_short_lem h, kept_is h)

  any_sheet : (sheet : List ℕ) → sheet_of f room sheet ≡ sheet_after s sheet
  unfolding sheet_of
  any_sheet sheet = go (ltb most_bytes (length s)) refl
    where
      go : (b : Bool) → ltb most_bytes (length s) ≡ b → sheet_of f room sheet ≡ sheet_after s sheet
      go true e = let h = ltb-true most_bytes (length s) e in rw (is_long_lem h) (sym (long_sheet s h sheet))
      go false e = let h = ltb-false most_bytes (length s) e in rw (is_short_lem h, kept_is h)

  -- and printed
  any_answer : Bytes s → (sheet : List ℕ) → answer_of f room sheet ≡ board_text s (length sheet)
  unfolding answer_of
  any_answer bytes sheet = rw (any_planning (length sheet), any_sheet sheet) (planner_prints s sheet bytes)

-- ## Pieces

abbrev pub next : State Feed → List ℕ → State Feed
next t piece = record { feed = fed_of t.feed piece; room = kept_after t.feed t.room piece }

abbrev pub at_end : List (List ℕ) → List ℕ → State Feed
at_end pieces room = fed_all next (record { feed = started; room = room }) pieces

-- from a start, any pieces come to document 01's plan of all their bytes, and to its text
pub record PlannedWhole (pieces : List (List ℕ)) (room : List ℕ) : Type 0 where
  pub planning_is : (size : ℕ) → planning_of (at_end pieces room).feed (at_end pieces room).room size ≡ planning (flatten pieces) size
  pub sheet_is : (sheet : List ℕ) → sheet_of (at_end pieces room).feed (at_end pieces room).room sheet ≡ sheet_after (flatten pieces) sheet
  pub answer_is : Bytes (flatten pieces) → (sheet : List ℕ)
      → answer_of (at_end pieces room).feed (at_end pieces room).room sheet ≡ board_text (flatten pieces) (length sheet)

pub pieces_planned : (pieces : List (List ℕ)) (room : List ℕ) → length room ≡ kept → PlannedWhole pieces room
pieces_planned pieces room l =
    let f =
    fed_all_lem next (λ s t. Fed s t.feed t.room) (λ s t f piece. fed_more f piece) [] (record { feed = started; room = room }) pieces
    (fed_start room l) in
    record { planning_is = any_planning f; sheet_is = any_sheet f; answer_is = any_answer f }
