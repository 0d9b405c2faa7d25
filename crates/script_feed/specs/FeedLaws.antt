-- Wherever the cuts fall, an input of any length comes to the program's answer on all its bytes. Assumes nothing.
use Rattle.std.proofs.Math.Path.{◌≡◌, refl, sym, ap}
use Rattle.std.proofs.Common.{ap₂, ◌∙◌, arith, length-take, length-drop, take_all, length-take-le, get_or-take}
use Rattle.std.specs.Prelude.{Bool, ℕ, ◌+◌, ◌-◌, ◌≤◌, ◌<◌, min, get_or, take}
use Rattle.std.proofs.Math.Bool.{true, false, cond}
use mathlib.Core.List.{List, [], ◌++◌, flatten}
use Rattle.std.proofs.Math.ListN.{length, drop}
use Rattle.endian.specs.Endian.{Bytes}
use Rattle.endian.specs.EndianLaws.{be_agree}
use Rattle.endian.specs.BytesLaws.{bytes_drop}
use Rattle.text.specs.Text.{Put, refusal_text}
use Rattle.text.specs.TextLaws.{refusal_short, put_whole}
use Rattle.text.specs.Kept.{Kept}
use Rattle.text.specs.KeptLaws.{kept_start, kept_more, count_of_kept, front_kept, front_append, rest_append}
use Rattle.records.specs.RecordsLaws.{fits_at}
use Rattle.records.specs.Pieces.{fed_all}
use Rattle.records.specs.PiecesLaws.{fed_all_lem}
use Rattle.board_record.specs.Host.{host_length, host_at}
use Rattle.board.proofs.BoardLaws.{accepted_of_zero}
use Rattle.sheet.specs.Sheet.{full_sheet}
use Rattle.plan_answer.specs.declared.Planning.{Planning}
use Rattle.plan_answer.specs.declared.Planning.TheVariants.{Planned, Refused as NotPlanned}
use Rattle.plan_answer.specs.Plan.{planning}
use Rattle.plan_sheet.proofs.Answer.{planned_of_answer}
use Rattle.board_feed.specs.declared.Feed.{Feed}
use Rattle.board_feed.specs.Feed.{is_long, frame_number, planning_of}
use Rattle.board_feed.specs.Feed as board
use Rattle.board_feed.specs.FeedLaws as board_laws
use Rattle.board_feed.specs.FeedLaws.{any_planning, kept_of_short}
use Rattle.scripter.specs.declared.Scripting.{Scripting}
use Rattle.scripter.specs.declared.Scripting.TheVariants.{Written, Refused}
use Rattle.scripter.specs.Scripting.{script_of, scripting, room_after}
use Rattle.scripter.specs.AnswerLaws.{refused_as_planned, else_written, refused_keeps_room, length_written}
use Rattle.scripter.specs.LongestLaws.{longest_script, script_length_le}
use Rattle.script_feed.specs.declared.Input.{Input}
use Rattle.script_feed.specs.Program.{front_size, board_in, requester_in, tag_in, on_planning, program_of}
use Rattle.script_feed.specs.Feed.{started, before_board, of_board, fed_of, front_after, kept_after, board_of}
use Rattle.script_feed.specs.Feed.{scripting_of, room_of, answer_as, answer_of}

-- ## In the words of the code

pub started_is : (b : Feed) → b ≡ board.started → ◌≡◌ {A = Input} (record { front = 0; board = b }) started
started_is b e = rw e

pub fed_is : (f : Input) (front piece : List ℕ) (n : ℕ) (g : Feed) → length front ≡ front_size
    → n ≡ min (f.front + length (before_board f piece)) (length front) → g ≡ board.fed_of f.board (of_board f piece)
    → ◌≡◌ {A = Input} (record { front = n; board = g }) (fed_of f piece)
fed_is f front piece n g l e fed = rw (fed, e, l)

module _ (f : Input) (front kept answer after : List ℕ) (w : Scripting) (n : ℕ) (l : length answer ≡ longest_script)
    (w_is : w ≡ scripting_of f kept (length answer)) (after_is : after ≡ room_of f front kept answer) where
  script_is : (v : Scripting) → w ≡ v → answer_of f front kept ≡ answer_as v (board_of f kept) front
  unfolding answer_of
  script_is v e =
      ap (λ (k : ℕ). answer_as (scripting_of f kept k) (board_of f kept) front) (sym l)
      ∙ ap (λ (x : Scripting). answer_as x (board_of f kept) front) (sym w_is ∙ e)

  -- a script fills the room that it is printed from
  pub printed_script : w ≡ Written n
      → (n ≡ length (answer_of f front kept)) × (after ≡ answer_of f front kept ++ drop n answer)
  unfolding scripting_of room_of room_after
  printed_script e = rw (script_is (Written n) e) (go (is_long f.board) refl (sym w_is ∙ e))
    where
      go : (t : Bool) → is_long f.board ≡ t
          → cond t (Refused (frame_number f.board)) (scripting (board_of f kept) (length answer)) ≡ Written n
          → (n ≡ length (script_of (board_of f kept) (requester_in front) (tag_in front)))
          × (after ≡ script_of (board_of f kept) (requester_in front) (tag_in front) ++ drop n answer)
      go true long q = absurd (let z : ◌≡◌ {A = ℕ} 0 1 = cc in omega arith)
      go false long q = (
        sym (length_written (board_of f kept) (length answer) (requester_in front) (tag_in front) n q),
        after_is ∙ rw (long, q),
      )

  -- a line does too
  pub printed_refusal : {line : List ℕ} {r : ℕ} → w ≡ Refused n → n < 1000 → Put after 0 (refusal_text n) line r
      → (r ≡ length (answer_of f front kept)) × (line ≡ answer_of f front kept ++ drop r answer)
  unfolding scripting_of room_of
  printed_refusal {line} {r} e small put =
      let kept_room : after ≡ answer = after_is ∙ go (is_long f.board) (sym w_is ∙ e) in
      let p : Put answer 0 (refusal_text n) line r = rw kept_room at put in
      let done = put_whole (omega (arith, refusal_short n small, l)) p in
      rw (script_is (Refused n) e) (done.0, done.1 ∙ ap (λ (k : ℕ). refusal_text n ++ drop k answer) (sym done.0))
    where
      go : (t : Bool) → cond t (Refused (frame_number f.board)) (scripting (board_of f kept) (length answer)) ≡ Refused n
          → cond t answer (room_after (board_of f kept) (requester_in front) (tag_in front) answer) ≡ answer
      go true q = refl
      go false q = refused_keeps_room (board_of f kept) answer (requester_in front) (tag_in front) n q

-- ## What was fed

-- s was fed, from a start with some room for the first three bytes and for the board
pub record Fed (s : List ℕ) (f : Input) (front kept : List ℕ) : Type 0 where
  pub in_front : Kept front_size (take front_size s) f.front front
  pub of_board_lem : board_laws.Fed (board_in s) f.board kept

fed_start : (front kept : List ℕ) → length front ≡ front_size → length kept ≡ board.kept → Fed [] started front kept
fed_start front kept l k = record { in_front = kept_start front_size front l; of_board_lem = board_laws.fed_start kept k }

-- how much of a piece comes before the board
module _ (f : Input) (s piece : List ℕ) (e : f.front ≡ min (length (take front_size s)) front_size) where
  left : front_size - length s ≡ front_size - f.front
  left = omega (arith, e, length-take front_size s)

  front_more : take front_size (s ++ piece) ≡ take front_size s ++ before_board f piece
  front_more = front_append front_size s piece ∙ ap (λ (m : ℕ). take front_size s ++ take m piece) left

  board_more : board_in (s ++ piece) ≡ board_in s ++ of_board f piece
  board_more = rest_append front_size s piece ∙ ap (λ (m : ℕ). board_in s ++ drop m piece) left

fed_more : {s : List ℕ} {f : Input} {front kept : List ℕ} → Fed s f front kept → (piece : List ℕ)
    → Fed (s ++ piece) (fed_of f piece) (front_after f front piece) (kept_after f kept piece)
fed_more {s} {f} {front} {kept} before piece =
    let n = count_of_kept before.in_front in
    record {
      in_front = rw (front_more f s piece n) (kept_more before.in_front (before_board f piece));
      of_board_lem = rw (board_more f s piece n) (board_laws.fed_more before.of_board_lem (of_board f piece));
    }

-- ## Any input is scripted

module _ {s : List ℕ} {f : Input} {front kept : List ℕ} (fed : Fed s f front kept) where
  -- the first three bytes
  front_byte : front_size ≤ length s → (j : ℕ) → j < front_size → get_or front j 0 ≡ get_or s j 0
  front_byte long j h =
      let n : length (take front_size s) ≡ front_size = length-take-le front_size s long in
      let same : take front_size front ≡ take front_size s =
      front_kept fed.in_front front_size (omega (arith, n)) (omega arith) ∙ take_all front_size (take front_size s) (omega (arith, n)) in
      sym (get_or-take front_size front j 0 h) ∙ ap (λ (l : List ℕ). get_or l j 0) same ∙ get_or-take front_size s j 0 h

  requester_is : front_size ≤ length s → requester_in front ≡ requester_in s
  requester_is long = be_agree 2 front s 0 0 (λ i l. front_byte long (0 + i) (omega arith))

  by_front : (b : List ℕ) → front_size ≤ length s
      → script_of b (requester_in front) (tag_in front) ≡ script_of b (requester_in s) (tag_in s)
  by_front b long = ap₂ (script_of b) (requester_is long) (front_byte long 2 (omega arith))

  -- a board that is planned has a host record
  not_short : (n : ℕ) → planning (board_in s) full_sheet ≡ Planned n → front_size ≤ length s
  not_short n planned =
      let a = accepted_of_zero (board_in s) (planned_of_answer (board_in s) full_sheet n planned).accepted in
      omega (arith, fits_at (board_in s) host_at host_length a.host_record_lem, length-drop front_size s)

  planning_is : planning_of f.board kept full_sheet ≡ planning (board_in s) full_sheet
  planning_is = any_planning fed.of_board_lem full_sheet

  long_planning : is_long f.board ≡ true → planning_of f.board kept full_sheet ≡ NotPlanned (frame_number f.board)
  unfolding planning_of
  long_planning e = rw e

  short_answer : Bytes s → answer_as (scripting (board_in s) longest_script) (board_in s) front ≡ program_of s
  short_answer bytes = go (planning (board_in s) full_sheet) refl
    where
      go : (p : Planning) → planning (board_in s) full_sheet ≡ p
          → answer_as (scripting (board_in s) longest_script) (board_in s) front ≡ on_planning p s
      go (NotPlanned n) e =
          ap (λ (x : Scripting). answer_as x (board_in s) front) (refused_as_planned (board_in s) longest_script n e)
      go (Planned n) e =
          let fits = script_length_le (board_in s) n (bytes_drop front_size s bytes) e in
          ap (λ (x : Scripting). answer_as x (board_in s) front) (else_written (board_in s) longest_script n e fits)
          ∙ by_front (board_in s) (not_short n e)

  any_answer : Bytes s → answer_of f front kept ≡ program_of s
  unfolding answer_of scripting_of
  any_answer bytes = go (is_long f.board) refl
    where
      go : (t : Bool) → is_long f.board ≡ t
          → answer_as (cond t (Refused (frame_number f.board)) (scripting (board_of f kept) longest_script)) (board_of f kept) front
          ≡ program_of s
      go true e = sym (ap (λ (p : Planning). on_planning p s) (sym planning_is ∙ long_planning e))
      go false e =
          let b : board_of f kept ≡ board_in s = kept_of_short fed.of_board_lem e in
          ap (λ (x : List ℕ). answer_as (scripting x longest_script) x front) b ∙ short_answer bytes

-- ## Pieces

pub record State : Type 0 where
  pub input : Input
  pub front : List ℕ
  pub kept : List ℕ

abbrev pub next : State → List ℕ → State
next t piece =
    record {
      input = fed_of t.input piece;
      front = front_after t.input t.front piece;
      kept = kept_after t.input t.kept piece;
    }

abbrev pub at_end : List (List ℕ) → List ℕ → List ℕ → State
at_end pieces front kept = fed_all next (record { input = started; front = front; kept = kept }) pieces

-- from a start, any pieces come to what the program writes for all their bytes
pub pieces_scripted : (pieces : List (List ℕ)) (front kept : List ℕ) → length front ≡ front_size → length kept ≡ board.kept
    → Bytes (flatten pieces)
    → answer_of (at_end pieces front kept).input (at_end pieces front kept).front (at_end pieces front kept).kept
    ≡ program_of (flatten pieces)
pieces_scripted pieces front kept l k bytes =
    let f =
    fed_all_lem next (λ s t. Fed s t.input t.front t.kept) (λ s t f piece. fed_more f piece) []
    (record { input = started; front = front; kept = kept }) pieces (fed_start front kept l k) in
    any_answer f bytes
