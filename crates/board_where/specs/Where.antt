-- Who fails a board's own checks: for 24, 23 and 25 the first function at which that check fails, in record order, and its place; for every
-- other number nobody. Assumes nothing.
use Rattle.std.specs.Prelude.{Bool, cond, List, [], ◌∷◌, ℕ, suc, eqb, get_or, take, drop}
use Rattle.records.specs.Records.{parts_of}
use Rattle.bar.specs.declared.Slot.{Slot}
use Rattle.bar.specs.Bar.{slots, is_bad}
use Rattle.board_record.specs.declared.Function.{Function}
use Rattle.board_record.specs.declared.Rule.{Rule}
use Rattle.board_record.specs.declared.Rule.TheVariants.{Length, Header, ReadBacks}
use Rattle.board_record.specs.Function.{function_of_part, slot_count}
use Rattle.board_record.specs.Rules.{breaks}
use Rattle.board_order.specs.Order.{first_misplaced}
use Rattle.board.specs.Board.{board_number, functions_of}
use Rattle.finding.specs.declared.Party.{Party}
use Rattle.finding.specs.Places.{function_id, nobody}

-- what is said of the first element that passes the test and of its number, counted from k; or else this
module _ {A B : Type 0} where
  unfoldable pub first_from : (A → Bool) → (ℕ → A → B) → B → ℕ → List A → B
  first_from t say else_this k [] = else_this
  first_from t say else_this k (x ∷ xs) = let later = first_from t say else_this (suc k) xs in cond (t x) (say k x) later

abbrev pub party_of : ℕ → ℕ → Party
party_of number place = record { number = number; place = place }

-- ## One rule: 24, the header type or the length for it; 25, the read-backs

abbrev pub slots_of : Function → List Slot
slots_of f = slots (take (slot_count f) f.readbacks)

-- the first slot of a function that is bad, 0 where none is
abbrev pub bad_slot : Function → ℕ
bad_slot f = first_from is_bad (λ i x. i) 0 0 (slots_of f)

-- where a record that breaks the rule does so
abbrev pub place_in : Rule → List ℕ → ℕ
place_in Length p = function_id
place_in (Header version) p = function_id
place_in ReadBacks p = bad_slot (function_of_part p)

-- the first of the functions' parts that breaks the rule
abbrev pub first_breaking : Rule → List (List ℕ) → Party
first_breaking rule ps = first_from (breaks rule) (λ k p. party_of k (place_in rule p)) nobody 1 ps

-- ## By the board's number; 23 is `first_misplaced`

abbrev pub function_parts : List ℕ → List (List ℕ)
function_parts b = drop 1 (parts_of (drop 1 b)).parts

unfoldable pub failing_under : ℕ → List ℕ → Party
failing_under n b =
    cond (eqb n 24) (first_breaking (Header (get_or b 0 0)) (function_parts b))
    (cond (eqb n 23) (party_of (first_misplaced 0 [] (functions_of b)) function_id)
    (cond (eqb n 25) (first_breaking ReadBacks (function_parts b)) nobody))

unfoldable pub failing_of : List ℕ → Party
failing_of b = failing_under (board_number b) b
