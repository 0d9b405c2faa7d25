-- Demand 1 at the C boundary: a refused call changes nothing that it was lent. Assumes nothing.
use Rattle.std.specs.Prelude.{ℕ, ◌≡◌, refl, Bool, true, false, cond, List, length, ltb, eqb}
use Rattle.std.proofs.Common.{◌∙◌, ne_eqb}
use Rattle.packet.specs.declared.Packet.{Packet}
use Rattle.packet_parsing.specs.declared.Parsed.{Parsed}
use Rattle.packet_parsing.specs.declared.Parsed.TheVariants.{Accepted as Taken, Refused as NotTaken}
use Rattle.packet_parsing.specs.Parsing.{packet_of}
use Rattle.tlp.specs.declared.Writing.{Writing}
use Rattle.tlp.specs.declared.Writing.TheVariants.{Written, Refused as NotWritten}
use Rattle.tlp.specs.Writing.{write_of, room_as, room_after}
use Rattle.sheet.specs.declared.Lookup.{Lookup}
use Rattle.sheet.specs.declared.Lookup.TheVariants.{Registers, Refused as NotFound}
use Rattle.sheet.specs.Sheet.{sheet_number}
use Rattle.sheet.specs.Lookup.{lookup_of, lookup_number, with_command}
use Rattle.plan_answer.specs.declared.Planning.{Planning}
use Rattle.plan_answer.specs.declared.Planning.TheVariants.{Planned, Refused as NotPlanned}
use Rattle.plan_answer.specs.Plan.{planning, sheet_as, sheet_after}
use Rattle.any_host.specs.AnyHost.{host_alone}
use Rattle.index_build.specs.Build.{build_number, sound_build_number, index_after, sound_index_after}
use Rattle.index_alone.specs.Alone.{alone_build_number, alone_index_after}
use Rattle.capi_answers.specs.Answers.{Answer, returned, filled}
use Rattle.capi_answers.proofs.AnswersLaws.{one_given, refused_keeps_slice}
use Rattle.capi_trace.specs.Calls.{piece_answer, state_left, lines_left, follow_answer, follow_state, follow_lines, end_answer, end_left}
use Rattle.capi_script.specs.Calls.{script_answer, script_left}
use Rattle.capi_script.specs.Refused.{refused_keeps_script}
use Rattle.capi_trace.specs.Refused.{refused_keeps_state, refused_keeps_lines, follow_keeps_state, follow_keeps_lines, refused_keeps_last}
use Rattle.capi_ledger.specs.Calls.{open_answer, open_left, complete_answer, complete_left}
use Rattle.capi_ledger.specs.Refused.{refused_open_keeps, refused_complete_keeps}
use Rattle.capi_packet.specs.Calls.{on_writing, on_parsed, write_answer, room_of, room_left}
use Rattle.capi_sheet.specs.Calls.{word, command_number, command_left}
use Rattle.capi_plan.specs.Calls.{on_planning, plan_answer, sheet_left}

pub record RefusedKeeps : Type 0 where
  -- whatever the answer slice
  pub answer_slice : (a : Answer) (slice : List ℕ) → ¬ (returned a slice ≡ 0) → filled a slice ≡ slice
  -- the room of a write
  pub room : (packet room written : List ℕ) → ¬ (returned (write_answer packet (length room)) written ≡ 0)
      → room_left packet room written ≡ room
  -- the sheet of a plan
  pub planned_sheet_lem : (board sheet written : List ℕ) → ¬ (returned (plan_answer board (length sheet)) written ≡ 0)
      → sheet_left board sheet written ≡ sheet
  -- the room of a script
  pub script_room : (board : List ℕ) (requester tag : ℕ) (room written : List ℕ)
      → ¬ (returned (script_answer board requester tag (length room)) written ≡ 0) → script_left board requester tag room written ≡ room
  -- the sheet of a command word
  pub commanded_sheet : (sheet : List ℕ) (id command : ℕ) → ¬ (command_number sheet id command ≡ 0) → command_left sheet id command ≡ sheet
  -- the slice of an index, by the audit and by the second verdict
  pub index_slice : (host sheet slice : List ℕ) → ¬ (build_number host sheet (length slice) ≡ 0) → index_after host sheet slice ≡ slice
  pub sound_index_slice : (host sheet slice : List ℕ) → ¬ (sound_build_number host sheet (length slice) ≡ 0)
      → sound_index_after host sheet slice ≡ slice
  pub alone_index_slice : (sheet slice : List ℕ) → ¬ (alone_build_number sheet (length slice) ≡ 0) → alone_index_after sheet slice ≡ slice
  -- the state and the lines of a trace, over a sheet or by an index, and the line of its end
  pub trace_state : (line : ℕ → List ℕ → List ℕ) (state piece written : List ℕ) (room : ℕ)
      → ¬ (returned (piece_answer line state piece room) written ≡ 0) → state_left line state piece room written ≡ state
  pub trace_lines : (line : ℕ → List ℕ → List ℕ) (state piece lines written : List ℕ)
      → ¬ (returned (piece_answer line state piece (length lines)) written ≡ 0) → lines_left line state piece lines written ≡ lines
  -- and those of a trace with both ends
  pub follow_state_lem : (host_id : ℕ) (sheet state piece written : List ℕ) (room : ℕ)
      → ¬ (returned (follow_answer host_id sheet state piece room) written ≡ 0) → follow_state host_id sheet state piece room written ≡ state
  pub follow_lines_lem : (host_id : ℕ) (sheet state piece lines written : List ℕ)
      → ¬ (returned (follow_answer host_id sheet state piece (length lines)) written ≡ 0)
      → follow_lines host_id sheet state piece lines written ≡ lines
  pub end_lines : (state lines written : List ℕ) → ¬ (returned (end_answer state (length lines)) written ≡ 0)
      → end_left state lines written ≡ lines
  -- the ledger of an opening and of a completion
  pub opened_ledger : (header ledger : List ℕ) → ¬ (open_answer header ledger ≡ 0) → open_left header ledger ≡ ledger
  pub completed_ledger : (header ledger : List ℕ) → ¬ (complete_answer header ledger ≡ 0) → complete_left header ledger ≡ ledger

room_as_lem : (p : Packet) (room : List ℕ) → room_after p room ≡ room_as (write_of p (length room)) p room
unfolding room_after
room_as_lem p room = refl

keeps_room : (packet room written : List ℕ) → ¬ (returned (write_answer packet (length room)) written ≡ 0)
    → room_left packet room written ≡ room
keeps_room packet room written h = go (eqb (length written) 0) refl
  where
    by_writing : (p : Packet) (w : Writing) → eqb (length written) 0 ≡ false → ¬ (returned (on_writing w) written ≡ 0)
        → room_as w p room ≡ room
    by_writing p (Written n) e h = absurd (h (one_given n written e))
    by_writing p (NotWritten n) e h = refl

    by_packet : (q : Parsed) → eqb (length written) 0 ≡ false → ¬ (returned (on_parsed q (length room)) written ≡ 0) → room_of q room ≡ room
    by_packet (Taken p) e h = room_as_lem p room ∙ by_writing p (write_of p (length room)) e h
    by_packet (NotTaken n) e h = refl

    go : (b : Bool) → eqb (length written) 0 ≡ b → cond b room (room_of (packet_of packet) room) ≡ room
    go true e = refl
    go false e = by_packet (packet_of packet) e h

sheet_as_lem : (board sheet : List ℕ) → sheet_after board sheet ≡ sheet_as (planning board (length sheet)) board sheet
unfolding sheet_after
sheet_as_lem board sheet = refl

keeps_planned : (board sheet written : List ℕ) → ¬ (returned (plan_answer board (length sheet)) written ≡ 0)
    → sheet_left board sheet written ≡ sheet
keeps_planned board sheet written h = go (eqb (length written) 0) refl
  where
    by_planning : (a : Planning) → eqb (length written) 0 ≡ false → ¬ (returned (on_planning a) written ≡ 0) → sheet_as a board sheet ≡ sheet
    by_planning (Planned n) e h = absurd (h (one_given n written e))
    by_planning (NotPlanned n) e h = refl

    go : (b : Bool) → eqb (length written) 0 ≡ b → cond b sheet (sheet_after board sheet) ≡ sheet
    go true e = refl
    go false e = sheet_as_lem board sheet ∙ by_planning (planning board (length sheet)) e h

keeps_sheet : (sheet : List ℕ) (id command : ℕ) → ¬ (command_number sheet id command ≡ 0) → command_left sheet id command ≡ sheet
unfolding command_number command_left
keeps_sheet sheet id command = go (ltb word command) (lookup_of sheet id)
  where
    go : (b : Bool) (l : Lookup) → ¬ (cond b 10 (lookup_number l) ≡ 0) → cond b sheet (with_command l sheet command) ≡ sheet
    go true l h = refl
    go false (Registers at) h = absurd (h refl)
    go false (NotFound n) h = refl

keeps_index : (host sheet slice : List ℕ) → ¬ (build_number host sheet (length slice) ≡ 0) → index_after host sheet slice ≡ slice
unfolding index_after
keeps_index host sheet slice h = rw (ne_eqb (build_number host sheet (length slice)) 0 h)

keeps_sound_index : (host sheet slice : List ℕ) → ¬ (sound_build_number host sheet (length slice) ≡ 0)
    → sound_index_after host sheet slice ≡ slice
unfolding sound_index_after
keeps_sound_index host sheet slice h = rw (ne_eqb (sound_build_number host sheet (length slice)) 0 h)

keeps_alone_index : (sheet slice : List ℕ) → ¬ (alone_build_number sheet (length slice) ≡ 0) → alone_index_after sheet slice ≡ slice
unfolding alone_build_number alone_index_after
keeps_alone_index sheet slice = go (eqb (sheet_number sheet) 0)
  where
    go : (t : Bool) → ¬ (cond t (sound_build_number (host_alone sheet) sheet (length slice)) (sheet_number sheet) ≡ 0)
        → cond t (sound_index_after (host_alone sheet) sheet slice) slice ≡ slice
    go true h = keeps_sound_index (host_alone sheet) sheet slice h
    go false h = refl

pub refused_keeps : RefusedKeeps
refused_keeps =
    record {
      answer_slice = refused_keeps_slice;
      room = keeps_room;
      planned_sheet_lem = keeps_planned;
      script_room = refused_keeps_script;
      commanded_sheet = keeps_sheet;
      index_slice = keeps_index;
      sound_index_slice = keeps_sound_index;
      alone_index_slice = keeps_alone_index;
      trace_state = refused_keeps_state;
      trace_lines = refused_keeps_lines;
      follow_state_lem = follow_keeps_state;
      follow_lines_lem = follow_keeps_lines;
      end_lines = refused_keeps_last;
      opened_ledger = refused_open_keeps;
      completed_ledger = refused_complete_keeps;
    }
