-- The call's answer by the planner's: its number, 11 for short room, or the script at the room's start. Assumes nothing.
use Rattle.std.specs.Prelude.{◌≡◌, Bool, true, false, cond, List, ℕ, ◌≤◌, ◌<◌, ltb, length, take, drop}
use Rattle.std.proofs.Common.{ap, ◌∙◌, arith, take_at, drop_at, lt-ltb, le-ltb}
use Rattle.sheet.specs.Sheet.{full_sheet}
use Rattle.plan_answer.specs.declared.Planning.{Planning}
use Rattle.plan_answer.specs.declared.Planning.TheVariants.{Planned, Refused as NotPlanned}
use Rattle.plan_answer.specs.Plan.{planning}
use Rattle.script_writes.proofs.ScriptLaws.{length_script}
use Rattle.scripter.specs.declared.Scripting.{Scripting}
use Rattle.scripter.specs.declared.Scripting.TheVariants.{Written, Refused}
use Rattle.scripter.specs.Scripting.{board_writes, boot_of, script_of, script_length, scripting_as, scripting, room_as, room_after}

-- ## The number

answer_as_lem : (b : List ℕ) (room : ℕ) (p : Planning) → planning b full_sheet ≡ p → scripting b room ≡ scripting_as p (script_length b) room
unfolding scripting
answer_as_lem b room p e = ap (λ (x : Planning). scripting_as x (script_length b) room) e

pub refused_as_planned : (b : List ℕ) (room n : ℕ) → planning b full_sheet ≡ NotPlanned n → scripting b room ≡ Refused n
refused_as_planned b room n e = answer_as_lem b room (NotPlanned n) e

pub short_room_lem : (b : List ℕ) (room n : ℕ) → planning b full_sheet ≡ Planned n → room < script_length b → scripting b room ≡ Refused 11
short_room_lem b room n e l = answer_as_lem b room (Planned n) e ∙ rw (lt-ltb room (script_length b) l)

pub else_written : (b : List ℕ) (room n : ℕ) → planning b full_sheet ≡ Planned n → script_length b ≤ room
    → scripting b room ≡ Written (script_length b)
else_written b room n e l = answer_as_lem b room (Planned n) e ∙ rw (le-ltb room (script_length b) l)

written_size : (p : Planning) (size room n : ℕ) → scripting_as p size room ≡ Written n → size ≡ n
written_size (NotPlanned m) size room n e = absurd (let z : ◌≡◌ {A = ℕ} 0 1 = cc in omega arith)
written_size (Planned m) size room n e = go (ltb room size) e
  where
    go : (t : Bool) → cond t (Refused 11) (Written size) ≡ Written n → size ≡ n
    go true e = absurd (let z : ◌≡◌ {A = ℕ} 0 1 = cc in omega arith)
    go false e = cc

-- ## The room

pub refused_keeps_room : (b room : List ℕ) (requester tag n : ℕ) → scripting b (length room) ≡ Refused n
    → room_after b requester tag room ≡ room
unfolding room_after
refused_keeps_room b room requester tag n e = ap (λ (s : Scripting). room_as s b requester tag room) e

pub length_written : (b : List ℕ) (room requester tag n : ℕ) → scripting b room ≡ Written n → length (script_of b requester tag) ≡ n
unfolding scripting
length_written b room requester tag n e =
    length_script (boot_of b requester) tag (board_writes b) ∙ written_size (planning b full_sheet) (script_length b) room n e

pub script_starts_room : (b room : List ℕ) (requester tag n : ℕ) → scripting b (length room) ≡ Written n
    → (take n (room_after b requester tag room) ≡ script_of b requester tag) × (drop n (room_after b requester tag room) ≡ drop n room)
unfolding room_after
script_starts_room b room requester tag n e =
    let size = length_written b (length room) requester tag n e in
    let room_is = ap (λ (s : Scripting). room_as s b requester tag room) e in (
      ap (take n) room_is ∙ take_at (script_of b requester tag) (drop n room) n size,
      ap (drop n) room_is ∙ drop_at (script_of b requester tag) (drop n room) n size,
    )
