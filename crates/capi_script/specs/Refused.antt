-- A refused call on a write script keeps the room, and no refusal has the number 0; its answer slice is that of every call
-- (`refused_keeps_slice` of capi_answers). Assumes nothing.
use Rattle.std.specs.Prelude.{ℕ, ◌≡◌, refl, Bool, true, false, cond, List, length, eqb}
use Rattle.std.proofs.Common.{arith}
use Rattle.refusals.specs.RefusalsLaws.{either}
use Rattle.scripter.specs.declared.Scripting.{Scripting}
use Rattle.scripter.specs.declared.Scripting.TheVariants.{Written, Refused}
use Rattle.scripter.specs.Scripting.{scripting, room_as, room_after}
use Rattle.scripter.specs.NumberLaws.{Numbered as NumberedScripting, numbered_scripting}
use Rattle.capi_answers.specs.Answers.{refuses, returned, left_beside}
use Rattle.capi_answers.proofs.AnswersLaws.{one_given, Numbered}
use Rattle.capi_script.specs.Calls.{too_wide, on_scripting, script_answer, script_left}

pub refused_keeps_script : (board : List ℕ) (requester tag : ℕ) (room written : List ℕ)
    → ¬ (returned (script_answer board requester tag (length room)) written ≡ 0) → script_left board requester tag room written ≡ room
unfolding room_after
refused_keeps_script board requester tag room written = by_width (too_wide requester tag)
  where
    by_answer : (w : Scripting) → eqb (length written) 0 ≡ false → ¬ (returned (on_scripting w) written ≡ 0)
        → room_as w board requester tag room ≡ room
    by_answer (Written n) e h = absurd (h (one_given n written e))
    by_answer (Refused n) e h = refl

    by_slice : (t : Bool) → eqb (length written) 0 ≡ t → ¬ (returned (on_scripting (scripting board (length room))) written ≡ 0)
        → cond t room (room_after board requester tag room) ≡ room
    by_slice true e h = refl
    by_slice false e h = by_answer (scripting board (length room)) e h

    by_width : (t : Bool) → ¬ (returned (cond t (refuses 10) (on_scripting (scripting board (length room)))) written ≡ 0)
        → cond t room (left_beside written room (room_after board requester tag room)) ≡ room
    by_width true h = refl
    by_width false h = by_slice (eqb (length written) 0) refl h

pub numbered_script : (board : List ℕ) (requester tag room : ℕ) → Numbered (script_answer board requester tag room)
numbered_script board requester tag room =
    let answer = on_scripting (scripting board room) in
    either Numbered (too_wide requester tag) (refuses 10) answer (omega arith) (go (scripting board room) (numbered_scripting board room))
  where
    go : (w : Scripting) → NumberedScripting w → Numbered (on_scripting w)
    go (Written n) h = tt
    go (Refused n) h = h.0
