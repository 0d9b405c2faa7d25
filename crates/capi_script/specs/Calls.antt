-- What the call on a write script answers, and what the room that it was lent then holds. Assumes nothing.
use Rattle.std.specs.Prelude.{ℕ, Bool, cond, ◌||◌, List, [], ◌∷◌, ltb}
use Rattle.scripter.specs.declared.Scripting.{Scripting}
use Rattle.scripter.specs.declared.Scripting.TheVariants.{Written, Refused}
use Rattle.scripter.specs.Scripting.{scripting, room_after}
use Rattle.capi_answers.specs.Answers.{Answer, refuses, gives, left_beside}

-- a requester ID above FFFFh or a tag above FFh
abbrev pub too_wide : ℕ → ℕ → Bool
too_wide requester tag = ltb 65535 requester || ltb 255 tag

-- the script's length
abbrev pub on_scripting : Scripting → Answer
on_scripting (Written n) = gives (n ∷ [])
on_scripting (Refused n) = refuses n

-- too wide is 10, tried first
abbrev pub script_answer : List ℕ → ℕ → ℕ → ℕ → Answer
script_answer board requester tag room = cond (too_wide requester tag) (refuses 10) (on_scripting (scripting board room))

-- with no room for the answer nothing is written
abbrev pub script_left : List ℕ → ℕ → ℕ → List ℕ → List ℕ → List ℕ
script_left board requester tag room written =
    cond (too_wide requester tag) room (left_beside written room (room_after board requester tag room))
