-- A board whose script is not written is refused with 1 to 99. Assumes nothing.
use Rattle.std.specs.Prelude.{refl, List, ℕ, ltb}
use Rattle.refusals.specs.Refusals.{IsRefusal}
use Rattle.refusals.specs.RefusalsLaws.{refusal, either}
use Rattle.sheet.specs.Sheet.{full_sheet}
use Rattle.plan_answer.specs.declared.Planning.{Planning}
use Rattle.plan_answer.specs.declared.Planning.TheVariants.{Planned, Refused as NotPlanned}
use Rattle.plan_answer.specs.Plan.{planning}
use Rattle.plan_answer.specs.NumberLaws.{Numbered as NumberedPlanning, numbered_planning}
use Rattle.scripter.specs.declared.Scripting.{Scripting}
use Rattle.scripter.specs.declared.Scripting.TheVariants.{Written, Refused}
use Rattle.scripter.specs.Scripting.{script_length, scripting_as, scripting}

abbrev pub Numbered : Scripting → Type 0
Numbered (Written n) = Unit {0}
Numbered (Refused n) = IsRefusal n

pub numbered_scripting : (b : List ℕ) (room : ℕ) → Numbered (scripting b room)
unfolding scripting
numbered_scripting b room = go (planning b full_sheet) (numbered_planning b full_sheet)
  where
    go : (p : Planning) → NumberedPlanning p → Numbered (scripting_as p (script_length b) room)
    go (NotPlanned n) h = h
    go (Planned n) h =
        either Numbered (ltb room (script_length b)) (Refused 11) (Written (script_length b)) (refusal 11 refl) tt
