-- The call's answers, in the words of its code. Assumes nothing.
use Rattle.std.specs.Prelude.{◌≡◌, refl, List, ◌++◌, ℕ, ◌+◌, ◌*◌, ◌≤◌, ◌<◌, length, drop}
use Rattle.std.proofs.Common.{sym, subst, ◌∙◌, zero-add, arith, lt-ltb, le-ltb}
use Rattle.std.proofs.Math.Path.{ap}
use Rattle.std.proofs.Math.ListN.{length-append}
use Rattle.std.proofs.lemmas.List.{length-map, length-replicate}
use Rattle.std.proofs.Math.Seq.{sets}
use Rattle.std.proofs.lemmas.List.Edits.{sets-eq}
use Rattle.endian.specs.Endian.{Bytes}
use Rattle.records.specs.Limits.{most_functions}
use Rattle.records.specs.Records.{parts_from}
use Rattle.plan_rule.specs.Refusals.{refusal_of}
use Rattle.board_record.specs.declared.Host.{Host}
use Rattle.board_record.specs.Function.{function_of_part}
use Rattle.board_record.specs.Host.{functions_at}
use Rattle.board.specs.Board.{board_number, host_of, functions_of}
use Rattle.board.proofs.BoardLaws.{accepted_of_zero}
use Rattle.board.specs.ToPlacing.{to_host, to_placing}
use Rattle.sheet.specs.Sheet.{sheet_length, full_sheet}
use Rattle.plan_answer.specs.declared.Planning.{Planning}
use Rattle.plan_answer.specs.declared.Planning.TheVariants.{Planned}
use Rattle.plan_answer.specs.Plan.{on_board}
use Rattle.plan_pass.specs.Loop.{Placing}
use Rattle.planner.specs.declared.Measured.{Measured}
use Rattle.planner.specs.Measure.{refusal_by, IsMeasured}
use Rattle.planner.specs.MeasureLaws.{refusal_by_is}
use Rattle.planner.specs.PlanLaws.{planning_unlawful, planning_lawful, on_board_planned, lawful_refused, lawful_placing}
use Rattle.script_writes.specs.declared.Pass.TheVariants.{Buses, Registers, Commands}
use Rattle.script_writes.specs.declared.Boot.{Boot}
use Rattle.script_writes.specs.declared.Place.{Place}
use Rattle.script_writes.specs.Writes.{writes_of}
use Rattle.script_writes.specs.Script.{write_stride, script_from}
use Rattle.script_writes.proofs.ScriptLaws.{length_script}
use Rattle.script_writes.specs.Wrote.{Wrote}
use Rattle.script_writes.proofs.Wrote.{wrote_append, room_left_lem}
use Rattle.scripter.specs.declared.Scripting.{Scripting}
use Rattle.scripter.specs.declared.Scripting.TheVariants.{Written, Refused}
use Rattle.scripter.specs.Scripting.{board_writes, boot_of, script_of, script_length, scripting_as, scripting, room_as}
use Rattle.scripter.specs.Scripting.{room_after}
use Rattle.scripter.specs.Counting.{count_in}
use Rattle.scripter.specs.CountingLaws.{count_is}
use Rattle.scripter.specs.PassLaws.{ghost_sheet, pass_of, front_of}

-- ---- an unlawful board

pub scripting_unlawful : (b : List ℕ) (room : ℕ) → ¬ (board_number b ≡ 0) → scripting b room ≡ Refused (board_number b)
unfolding scripting
scripting_unlawful b room n = ap (λ (p : Planning). scripting_as p (script_length b) room) (planning_unlawful b full_sheet n)

pub scripting_lawful : (b : List ℕ) (room : ℕ) → board_number b ≡ 0
    → scripting b room ≡ scripting_as (on_board (host_of b) (functions_of b) full_sheet) (script_length b) room
unfolding scripting
scripting_lawful b room e = ap (λ (p : Planning). scripting_as p (script_length b) room) (planning_lawful b full_sheet e)

-- the room by the answer
pub room_after_is : {p : Scripting} {s : List ℕ} (b : List ℕ) (requester tag : ℕ) (room : List ℕ) → p ≡ scripting b (length room)
    → s ≡ room_as p b requester tag room → s ≡ room_after b requester tag room
unfolding room_after
room_after_is b requester tag room e g = g ∙ ap (λ (p : Scripting). room_as p b requester tag room) e

-- ---- a lawful one

module _ {h : Host} {counts memo : List ℕ} {m : Measured} {n : ℕ} (b : List ℕ) (bytes : Bytes b) (accepted : board_number b ≡ 0)
    (host_is : h ≡ host_of b) (is : IsMeasured b h counts memo m) (number : n ≡ refusal_by h m) where
  number_is : n ≡ refusal_of (to_host (host_of b)) (to_placing (functions_of b))
  number_is = number ∙ ap (λ (x : Host). refusal_by x m) host_is
      ∙ refusal_by_is b bytes accepted (subst (λ (x : Host). IsMeasured b x counts memo m) host_is is)

  pub script_refused : (size room : ℕ) → ¬ (n ≡ 0) → Refused n ≡ scripting_as (on_board (host_of b) (functions_of b) full_sheet) size room
  script_refused size room some =
      ap (λ (p : Planning). scripting_as p size room) (lawful_refused b bytes accepted host_is is number full_sheet some)

  module _ (none : n ≡ 0) (count : ℕ) (c : count ≡ count_in (functions_of b)) where
    not_refused : refusal_of (to_host (host_of b)) (to_placing (functions_of b)) ≡ 0
    not_refused = sym number_is ∙ none

    size_is : 18 * count ≡ script_length b
    size_is = ap (18 *◌) (c ∙ sym (count_is b bytes accepted not_refused))

    few : length (functions_of b) ≤ most_functions
    few =
        let a = accepted_of_zero b accepted in
        omega (arith, ap length a.functions_read, length-map (parts_from b functions_at) function_of_part, a.few)

    planned_is : on_board (host_of b) (functions_of b) full_sheet ≡ Planned (sheet_length (length (functions_of b)))
    planned_is = on_board_planned (host_of b) (functions_of b) full_sheet not_refused (omega (arith, few))

    pub script_short : (room : ℕ) → room < 18 * count
        → Refused 11 ≡ scripting_as (on_board (host_of b) (functions_of b) full_sheet) (script_length b) room
    script_short room l = rw (planned_is, lt-ltb room (script_length b) (omega (arith, l, size_is)))

    pub script_written : (room : ℕ) → 18 * count ≤ room
        → Written (18 * count) ≡ scripting_as (on_board (host_of b) (functions_of b) full_sheet) (script_length b) room
    script_written room l = rw (planned_is, le-ltb room (script_length b) (omega (arith, l, size_is)), ← size_is)

    pub script_fits : (room : ℕ) → 18 * count ≤ room → script_length b ≤ room
    script_fits room l = omega (arith, l, size_is)

    pub script_placing : Placing b h counts memo (ghost_sheet b)
    script_placing =
        lawful_placing b bytes accepted host_is is number none (sheet_length m.functions) refl (ghost_sheet b)
        (omega (arith, is.functions, length-replicate {A = ℕ} (sheet_length (length (functions_of b))) 0))

    -- the script's bytes, and past them what was there
    pub script_stored : {s : List ℕ} (requester tag : ℕ) (room : List ℕ) → 18 * count ≤ length room
        → s ≡ sets room 0 (script_of b requester tag) → s ≡ room_as (Written (18 * count)) b requester tag room
    script_stored requester tag room l g =
        let script = script_of b requester tag in
        let size : length script ≡ 18 * count = length_script (boot_of b requester) tag (board_writes b) ∙ sym size_is in
        g ∙ sets-eq script room 0 (omega (arith, size)) ∙ ap (λ (k : ℕ). script ++ drop k room) (zero-add (length script) ∙ size)

-- ---- the three parts

module _ (b : List ℕ) where
  length_parts : length (board_writes b) ≡ length (pass_of Buses b) + (length (pass_of Registers b) + length (pass_of Commands b))
  unfolding board_writes writes_of
  length_parts =
      length-append (pass_of Buses b ++ pass_of Registers b) (pass_of Commands b)
      ∙ omega (arith, length-append (pass_of Buses b) (pass_of Registers b))

  pub fits_front : (room : List ℕ) → script_length b ≤ length room → 0 + write_stride * length (front_of b) ≤ length room
  fits_front room fits = omega (arith, length_parts, length-append (pass_of Buses b) (pass_of Registers b), fits)

  -- bus registers, then BARs and windows
  module _ (room : List ℕ) (from : Place) (fits : from.at + write_stride * length (front_of b) ≤ length room) where
    pub fits_buses : from.at + write_stride * length (pass_of Buses b) ≤ length room
    fits_buses = omega (arith, length-append (pass_of Buses b) (pass_of Registers b), fits)

    pub fits_registers : {boot : Boot} {room₁ : List ℕ} {p : Place} → Wrote boot room from (pass_of Buses b) room₁ p
        → p.at + write_stride * length (pass_of Registers b) ≤ length room₁
    fits_registers w =
        room_left_lem (length (pass_of Registers b)) (length (pass_of Buses b)) w refl
        (omega (arith, length-append (pass_of Buses b) (pass_of Registers b), fits))

  pub front_written : {boot : Boot} {room room₁ room₂ : List ℕ} {from p q : Place} → Wrote boot room from (pass_of Buses b) room₁ p
      → Wrote boot room₁ p (pass_of Registers b) room₂ q → Wrote boot room from (front_of b) room₂ q
  front_written w₁ w₂ = wrote_append (pass_of Buses b) (pass_of Registers b) w₁ w₂

  -- then command words
  module _ {boot : Boot} {tag : ℕ} {room room₁ : List ℕ} {p : Place} (fits : script_length b ≤ length room)
      (w : Wrote boot room (record { at = 0; tag = tag }) (front_of b) room₁ p) where
    pub fits_commands : p.at + write_stride * length (pass_of Commands b) ≤ length room₁
    fits_commands =
        room_left_lem (length (pass_of Commands b)) (length (front_of b)) w refl
        (omega (arith, length_parts, length-append (pass_of Buses b) (pass_of Registers b), fits))

    pub all_written : {room₂ : List ℕ} {q : Place} (requester : ℕ) → boot ≡ boot_of b requester
        → Wrote boot room₁ p (pass_of Commands b) room₂ q → room₂ ≡ sets room 0 (script_of b requester tag)
    unfolding board_writes writes_of
    all_written requester boot_is v =
        (wrote_append (front_of b) (pass_of Commands b) w v).stored
        ∙ ap (λ (x : Boot). sets room 0 (script_from x tag (board_writes b))) boot_is

-- the boot that the code makes, of the host that it read
pub boot_is : (b : List ℕ) (h : Host) (requester : ℕ) → h ≡ host_of b
    → ◌≡◌ {A = Boot} (record { requester = requester; root = h.first_bus }) (boot_of b requester)
boot_is b h requester e = ap (λ (x : Host). record { requester = requester; root = x.first_bus }) e
