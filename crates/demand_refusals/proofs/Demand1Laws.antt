-- Demand 1 is proved, from the definition of what each call leaves. Assumes nothing.
use Rattle.std.specs.Prelude.{◌≡◌, refl, Bool, true, false, cond, List, ◌++◌, ℕ, length, take, drop, leb}
use Rattle.std.proofs.Common.{ap}
use Rattle.packet.specs.declared.Packet.{Packet}
use Rattle.tlp.specs.declared.Writing.{Writing}
use Rattle.tlp.specs.declared.Writing.TheVariants.{Refused as NotWritten}
use Rattle.tlp.specs.Writing.{write_of, room_as, room_after}
use Rattle.sheet.specs.declared.Lookup.{Lookup}
use Rattle.sheet.specs.Lookup.{with_command}
use Rattle.plan_answer.specs.declared.Planning.{Planning}
use Rattle.plan_answer.specs.declared.Planning.TheVariants.{Refused as NotPlanned}
use Rattle.plan_answer.specs.Plan.{planning, sheet_as, sheet_after}
use Rattle.board_feed.specs.declared.Feed.{Feed}
use Rattle.board_feed.specs.Feed.{is_long, frame_number, planning_of, sheet_of}
use Rattle.route_answer.specs.declared.Routing.{Routing}
use Rattle.route.specs.Listed.{list_after}
use Rattle.route_answer.specs.declared.Routing.TheVariants.{Delivered, Broadcast, Port, Refused as NotRouted}
use Rattle.route_sent.specs.declared.BothEnds.{BothEnds}
use Rattle.route_sent.specs.declared.BothEnds.TheVariants.{FromHost, FromFunction, Refused as NotSent}
use Rattle.route_sent.specs.BothEnds as ends
use Rattle.route_sent.specs.BothEnds.{both_ends_of}
use Rattle.trace.specs.declared.Trace.{Trace}
use Rattle.trace.specs.declared.Finished.{Finished}
use Rattle.trace.specs.Trace.{lines_of, end_line}
use Rattle.trace.specs.Feed.{text_put, taken_fed, refused_fed, fed_of, fed_put, ended_of, finished_of, finished_put}
use Rattle.route_answer.specs.Listed.{listed_after}
use Rattle.ledger.specs.Ledger.{opening_of, completing_of}
use Rattle.ledger.proofs.SentencesLaws.{refused_same}
use Rattle.scripter.specs.declared.Scripting.{Scripting}
use Rattle.scripter.specs.declared.Scripting.TheVariants.{Refused as NotScripted}
use Rattle.scripter.specs.Scripting as scripter
use Rattle.scripter.specs.AnswerLaws.{refused_keeps_room}
use Rattle.script_feed.specs.declared.Input.{Input}
use Rattle.script_feed.specs.Program.{requester_in, tag_in}
use Rattle.script_feed.specs.Feed as fed
use Rattle.capi_laws.specs.Refused.{refused_keeps}
use Rattle.demand_refusals.specs.Demand1.{Demand1}

keeps_room : (p : Packet) (room : List ℕ) (n : ℕ) → write_of p (length room) ≡ NotWritten n → room_after p room ≡ room
unfolding room_after
keeps_room p room n e = ap (λ (w : Writing). room_as w p room) e

keeps_sheet : (b sheet : List ℕ) (n : ℕ) → planning b (length sheet) ≡ NotPlanned n → sheet_after b sheet ≡ sheet
unfolding sheet_after
keeps_sheet b sheet n e = ap (λ (p : Planning). sheet_as p b sheet) e

-- ## Fed in pieces: an input longer than any lawful board changes nothing

fed_keeps_sheet : (f : Feed) (kept sheet : List ℕ) (n : ℕ) → planning_of f kept (length sheet) ≡ NotPlanned n → sheet_of f kept sheet ≡ sheet
unfolding planning_of sheet_of
fed_keeps_sheet f kept sheet n = go (is_long f)
  where
    go : (long : Bool) → cond long (NotPlanned (frame_number f)) (planning (take f.count kept) (length sheet)) ≡ NotPlanned n
        → cond long sheet (sheet_after (take f.count kept) sheet) ≡ sheet
    go true e = refl
    go false e = keeps_sheet (take f.count kept) sheet n e

fed_keeps_room : (f : Input) (front kept room : List ℕ) (n : ℕ) → fed.scripting_of f kept (length room) ≡ NotScripted n
    → fed.room_of f front kept room ≡ room
unfolding fed.scripting_of fed.room_of
fed_keeps_room f front kept room n = go (is_long f.board)
  where
    go : (long : Bool)
        → cond long (NotScripted (frame_number f.board)) (scripter.scripting (fed.board_of f kept) (length room)) ≡ NotScripted n
        → cond long room (scripter.room_after (fed.board_of f kept) (requester_in front) (tag_in front) room) ≡ room
    go true e = refl
    go false e = refused_keeps_room (fed.board_of f kept) room (requester_in front) (tag_in front) n e

-- ## Both ends: only a broadcast that is not refused has a list

ends_keep_list : (r : BothEnds) (list : List ℕ) → ¬ (ends.number_of r ≡ 0) → ends.listed_after r list ≡ list
ends_keep_list (FromHost (Delivered d)) list h = refl
ends_keep_list (FromHost (Broadcast n p)) list h = absurd (h refl)
ends_keep_list (FromHost (Port p)) list h = refl
ends_keep_list (FromHost (NotRouted n)) list h = refl
ends_keep_list (FromFunction number f) list h = refl
ends_keep_list (NotSent n) list h = refl

-- ## A trace: lines that do not fit are not put

feed_keeps : (line : ℕ → List ℕ → List ℕ) (t : Trace) (piece room : List ℕ) → ¬ ((fed_of line t piece (length room)).number ≡ 0)
    → (fed_put line t piece room ≡ room) × ((fed_of line t piece (length room)).state ≡ t)
unfolding fed_of text_put
feed_keeps line t piece room = go (leb (length (lines_of line t piece)) (length room))
  where
    go : (fits : Bool) → ¬ (◌≡◌ {A = ℕ} (cond fits (taken_fed line t piece) (refused_fed line t)).number 0)
        → (cond fits (lines_of line t piece ++ drop (length (lines_of line t piece)) room) room ≡ room)
        × ((cond fits (taken_fed line t piece) (refused_fed line t)).state ≡ t)
    go true h = absurd (h refl)
    go false h = (refl, refl)

finish_keeps : (t : Trace) (room : List ℕ) → ¬ ((finished_of t (length room)).number ≡ 0) → finished_put t room ≡ room
unfolding ended_of text_put
finish_keeps t room = go (leb (length (end_line t)) (length room))
  where
    none : Finished
    none = record { number = 11; written = 0 }

    go : (fits : Bool) → ¬ (◌≡◌ {A = ℕ} (cond fits (record { number = 0; written = length (end_line t) }) none).number 0)
        → cond fits (end_line t ++ drop (length (end_line t)) room) room ≡ room
    go true h = absurd (h refl)
    go false h = refl

pub demand_1 : Demand1
demand_1 =
    record {
      write_keeps_room = keeps_room;
      plan_keeps_sheet = keeps_sheet;
      fed_plan_keeps_sheet = fed_keeps_sheet;
      script_keeps_room = refused_keeps_room;
      fed_script_keeps_room = fed_keeps_room;
      command_keeps_sheet = λ s id command n e. ap (λ (l : Lookup). with_command l s command) e;
      route_keeps_list = λ header s list n e. ap (λ (r : Routing). list_after r s list) e;
      search_keeps_list = λ header index list n e. ap (λ (r : Routing). listed_after r list) e;
      sent_keeps_list = λ host_id header s list h. ends_keep_list (ends.on_room (both_ends_of host_id header s) (length list)) list h;
      build_keeps_slice = refused_keeps.index_slice;
      build_sound_keeps_slice = refused_keeps.sound_index_slice;
      build_alone_keeps_slice = refused_keeps.alone_index_slice;
      feed_keeps_room = feed_keeps;
      finish_keeps_room = finish_keeps;
      open_keeps_ledger = λ header ledger h. refused_same (opening_of header ledger) ledger h;
      complete_keeps_ledger = λ header ledger h. refused_same (completing_of header ledger) ledger h;
      from_c = refused_keeps;
    }
