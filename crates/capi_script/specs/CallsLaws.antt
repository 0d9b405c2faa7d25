-- The call on a write script, in the words of its code. Assumes nothing.
use Rattle.std.specs.Prelude.{ℕ, ◌≤◌, ◌<◌, ◌≡◌, Bool, cond, length, take, eqb}
use Rattle.std.proofs.Common.{arith, sym, ◌∙◌}
use Rattle.std.proofs.Math.Path.{refl, ap}
use Rattle.std.proofs.Math.Bool.{true, false}
use mathlib.Core.List.{List, [], ◌∷◌, ◌++◌, append-nil}
use Rattle.std.proofs.Math.ListN.{drop, drop_of_length-le}
use Rattle.std.proofs.Math.Seq.{take-length}
use Rattle.std.proofs.Math.Dec.{ltb}
use borrow.Author.Tests.{lt-ltb, le-ltb, ltb-false, eqb-true}
use Rattle.sheet.specs.Sheet.{full_sheet}
use Rattle.plan_answer.specs.declared.Planning.{Planning}
use Rattle.plan_answer.specs.declared.Planning.TheVariants.{Planned, Refused as NotPlanned}
use Rattle.plan_answer.specs.Plan.{planning}
use Rattle.script_writes.proofs.ScriptLaws.{length_script}
use Rattle.scripter.specs.declared.Scripting.{Scripting}
use Rattle.scripter.specs.declared.Scripting.TheVariants.{Written, Refused}
use Rattle.scripter.specs.Scripting.{board_writes, boot_of, script_of, script_length, scripting_as, scripting, room_as, room_after}
use Rattle.capi_answers.specs.Answers.{returned, filled, left_beside}
use Rattle.capi_answers.proofs.AnswersLaws.{Answered, answered_short}
use Rattle.capi_script.specs.Calls.{on_scripting, script_answer, script_left}

-- the answer, the room and the slice after, together
abbrev pub ScriptedFor : List ℕ → ℕ → ℕ → List ℕ → List ℕ → ℕ → List ℕ → List ℕ → Type 0
ScriptedFor board requester tag room written r after slice =
    (r ≡ returned (script_answer board requester tag (length room)) written)
    × ((after ≡ script_left board requester tag room written)
    × (slice ≡ filled (script_answer board requester tag (length room)) written))

-- the number with no room for the answer
abbrev unwritten : Scripting → ℕ
unwritten (Written n) = 11
unwritten (Refused n) = n

module _ (board : List ℕ) (requester tag : ℕ) (room written : List ℕ) where
  pub requester_too_wide : 65535 < requester → ScriptedFor board requester tag room written 10 room written
  requester_too_wide h = rw (lt-ltb 65535 requester h) (refl, (refl, refl))

  pub tag_too_wide : requester ≤ 65535 → 255 < tag → ScriptedFor board requester tag room written 10 room written
  tag_too_wide l h = rw (le-ltb 65535 requester l, lt-ltb 255 tag h) (refl, (refl, refl))

  -- an answer slice of no numbers
  unanswered : length written ≡ 0 → (w : Scripting) → Answered (on_scripting w) written (unwritten w) written
  unanswered z (Written n) = answered_short (n ∷ []) written (omega arith)
  unanswered z (Refused n) = (refl, refl)

  -- an empty room answers the same: it is short of every script but that of no writes
  empty_room : unwritten (scripting board 0) ≡ unwritten (scripting board (length room))
  unfolding scripting
  empty_room = go (planning board full_sheet)
    where
      short : (t : Bool) → unwritten (cond t (Refused 11) (Written (script_length board))) ≡ 11
      short true = refl
      short false = refl

      go : (p : Planning) → unwritten (scripting_as p (script_length board) 0) ≡ unwritten (scripting_as p (script_length board) (length room))
      go (NotPlanned n) = refl
      go (Planned n) = short (ltb 0 (script_length board)) ∙ sym (short (ltb (length room) (script_length board)))

  nil_of : (l : List ℕ) → length l ≡ 0 → l ≡ []
  nil_of [] e = refl
  nil_of (x ∷ l) e = absurd (omega arith)

  left_empty : room_after board requester tag [] ≡ []
  unfolding room_after scripting
  left_empty = go (planning board full_sheet)
    where
      by_size : (t : Bool) → ltb 0 (script_length board) ≡ t
          → room_as (cond t (Refused 11) (Written (script_length board))) board requester tag [] ≡ []
      by_size true e = refl
      by_size false e =
          let none = ltb-false 0 (script_length board) e in
          let size = length_script (boot_of board requester) tag (board_writes board) in
          let rest : drop {A = ℕ} (script_length board) [] ≡ [] = drop_of_length-le [] {i = script_length board} (omega arith) in
          ap (script_of board requester tag ++◌) rest
          ∙ append-nil (script_of board requester tag)
          ∙ nil_of (script_of board requester tag) (omega (arith, none, size))

      go : (p : Planning) → room_as (scripting_as p (script_length board) 0) board requester tag [] ≡ []
      go (NotPlanned n) = refl
      go (Planned n) = by_size (ltb 0 (script_length board)) refl

  -- the writer was lent so much of the room and left a part in its place
  module _ (narrow : requester ≤ 65535) (small : tag ≤ 255) (space : ℕ) (lent : space ≡ cond (eqb (length written) 0) 0 (length room))
      (w : Scripting) (e : w ≡ scripting board (length (take space room))) (part : List ℕ)
      (f : part ≡ room_after board requester tag (take space room)) where
    abbrev Left : ℕ → List ℕ → List ℕ → Type 0
    Left r after slice =
        (r ≡ returned (on_scripting (scripting board (length room))) written)
        × ((after ≡ left_beside written room (room_after board requester tag room))
        × (slice ≡ filled (on_scripting (scripting board (length room))) written))

    left : (r : ℕ) (slice : List ℕ) → Answered (on_scripting w) written r slice → Left r (part ++ drop space room) slice
    left r slice a = go (eqb (length written) 0) refl
      where
        go : (t : Bool) → eqb (length written) 0 ≡ t → Left r (part ++ drop space room) slice
        go true z =
            let none : space ≡ 0 = lent ∙ rw z in
            let empty = eqb-true (length written) 0 z in
            let before = unanswered empty (scripting board 0) in
            let after = unanswered empty (scripting board (length room)) in
            let w_is : w ≡ scripting board 0 = e ∙ rw none in
            let part_is : part ≡ [] = f ∙ rw none left_empty in (
              a.0
                  ∙ ap (λ (x : Scripting). returned (on_scripting x) written) w_is
                  ∙ sym before.0
                  ∙ empty_room
                  ∙ after.0,
              (
                rw (z, part_is, none),
                a.1 ∙ ap (λ (x : Scripting). filled (on_scripting x) written) w_is ∙ sym before.1 ∙ after.1,
              ),
            )
        go false z =
            let all : space ≡ length room = lent ∙ rw z in
            let whole : take space room ≡ room = ap (λ (n : ℕ). take n room) all ∙ take-length room in
            let rest : drop space room ≡ [] = drop_of_length-le room {i = space} (omega arith) in
            let w_is : w ≡ scripting board (length room) = e ∙ ap (λ (s : List ℕ). scripting board (length s)) whole in (
              a.0 ∙ ap (λ (x : Scripting). returned (on_scripting x) written) w_is,
              (
                rw (z, rest, append-nil part) (f ∙ ap (room_after board requester tag) whole),
                a.1 ∙ ap (λ (x : Scripting). filled (on_scripting x) written) w_is,
              ),
            )

    pub scripted : (r : ℕ) (slice : List ℕ) → Answered (on_scripting w) written r slice
        → ScriptedFor board requester tag room written r (part ++ drop space room) slice
    scripted r slice a = rw (le-ltb 65535 requester narrow, le-ltb 255 tag small) (left r slice a)
