-- The calls one step each, in the words of the code. Assumes nothing.
use Rattle.std.specs.Prelude.{ℕ, ◌≤◌, ◌<◌, ◌≡◌, refl, List, [], ◌∷◌, ◌++◌, length, take, drop}
use Rattle.std.proofs.Common.{lt-ltb, le-ltb}
use Rattle.ledger.specs.Words.{in_use}
use Rattle.ledger.specs.Ledger.{open_number, open_after, complete_number, complete_after}
use Rattle.capi_answers.specs.Answers.{gives, returned, filled}
use Rattle.capi_ledger.specs.Calls.{places, open_answer, open_left, complete_answer, complete_left, count_answer}

module _ (header numbers : List ℕ) where
  module _ (few : length numbers < places) where
    pub open_short : (11 ≡ open_answer header numbers) × (numbers ≡ open_left header numbers)
    unfolding open_answer open_left
    open_short = rw (lt-ltb (length numbers) places few) (refl, refl)

    pub complete_short : (11 ≡ complete_answer header numbers) × (numbers ≡ complete_left header numbers)
    unfolding complete_answer complete_left
    complete_short = rw (lt-ltb (length numbers) places few) (refl, refl)

  module _ (whole : places ≤ length numbers) (r : ℕ) (after : List ℕ) where
    pub open_whole : (r ≡ open_number header (take places numbers)) × (after ≡ open_after header (take places numbers))
        → (r ≡ open_answer header numbers) × (after ++ drop places numbers ≡ open_left header numbers)
    unfolding open_answer open_left
    open_whole (e, f) = rw (le-ltb (length numbers) places whole, ← f) (e, refl)

    pub complete_whole : (r ≡ complete_number header (take places numbers)) × (after ≡ complete_after header (take places numbers))
        → (r ≡ complete_answer header numbers) × (after ++ drop places numbers ≡ complete_left header numbers)
    unfolding complete_answer complete_left
    complete_whole (e, f) = rw (le-ltb (length numbers) places whole, ← f) (e, refl)

module _ (numbers slice : List ℕ) where
  pub count_short : length numbers < places
      → (11 ≡ returned (count_answer numbers) slice) × (slice ≡ filled (count_answer numbers) slice)
  unfolding count_answer
  count_short few = rw (lt-ltb (length numbers) places few) (refl, refl)

  pub count_whole : places ≤ length numbers → (n r : ℕ) (after : List ℕ) → n ≡ in_use (take places numbers)
      → (r ≡ returned (gives (n ∷ [])) slice) × (after ≡ filled (gives (n ∷ [])) slice)
      → (r ≡ returned (count_answer numbers) slice) × (after ≡ filled (count_answer numbers) slice)
  unfolding count_answer
  count_whole whole n r after e given = rw (le-ltb (length numbers) places whole, ← e) given
