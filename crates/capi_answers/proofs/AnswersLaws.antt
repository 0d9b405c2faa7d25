-- An answer and its slice: the two ways in which a call gives numbers, that a refused call keeps the slice, and what 0 says.
-- Assumes nothing.
use Rattle.std.specs.Prelude.{ℕ, ◌<◌, ◌≤◌, ◌≡◌, refl, Bool, true, false, cond, List, [], ◌∷◌, ◌++◌, length, drop, ltb, eqb}
use Rattle.std.proofs.Common.{arith, zero-add, ◌∙◌, lt-ltb, le-ltb, ltb-false}
use Rattle.std.proofs.lemmas.List.Edits.{sets, sets-eq}
use Rattle.std.proofs.lemmas.Bool.{eqb-false}
use Rattle.capi_answers.specs.Answers.{Answer, refuses, gives, returned, filled, left_beside}

-- what was returned and what the slice holds after, together
abbrev pub Answered : Answer → List ℕ → ℕ → List ℕ → Type 0
Answered a slice r after = (r ≡ returned a slice) × (after ≡ filled a slice)

-- ## Numbers given

module _ (ns slice : List ℕ) where
  pub answered_short : length slice < length ns → Answered (gives ns) slice 11 slice
  answered_short h = (rw (lt-ltb (length slice) (length ns) h), rw (lt-ltb (length slice) (length ns) h))

  pub answered_filled : {after : List ℕ} → length ns ≤ length slice → after ≡ sets slice 0 ns → Answered (gives ns) slice 0 after
  answered_filled h e = (
    rw (le-ltb (length slice) (length ns) h),
    rw (le-ltb (length slice) (length ns) h) (e ∙ sets-eq ns slice 0 (omega arith) ∙ rw zero-add),
  )

-- an answer of one number has room in a slice that is not empty
pub one_given : (n : ℕ) (slice : List ℕ) → eqb (length slice) 0 ≡ false → returned (gives (n ∷ [])) slice ≡ 0
one_given n slice e = rw (le-ltb (length slice) 1 (omega (arith, eqb-false (length slice) 0 e)))

-- what stays where nothing is written stays
pub left_same : (slice s : List ℕ) → s ≡ left_beside slice s s
left_same slice s = go (eqb (length slice) 0)
  where
    go : (b : Bool) → s ≡ cond b s s
    go true = refl
    go false = refl

-- ## Refused

-- an answer slice too short is tried last: a refusal's own number comes back whatever the slice
pub returned_refuses : (n : ℕ) (slice : List ℕ) → returned (refuses n) slice ≡ n
returned_refuses n slice = refl

pub refused_keeps_slice : (a : Answer) (slice : List ℕ) → ¬ (returned a slice ≡ 0) → filled a slice ≡ slice
refused_keeps_slice (refuses n) slice h = refl
refused_keeps_slice (gives ns) slice h = go (ltb (length slice) (length ns)) h
  where
    go : (b : Bool) → ¬ (◌≡◌ {A = ℕ} (cond b 11 0) 0) → cond b slice (ns ++ drop (length ns) slice) ≡ slice
    go true h = refl
    go false h = absurd (h refl)

-- ## What 0 says

-- no refusal has the number 0
abbrev pub Numbered : Answer → Type 0
Numbered (gives ns) = Unit
Numbered (refuses n) = 0 < n

-- numbers that the slice has room for
pub record Given (a : Answer) (slice : List ℕ) : Type 0 where
  pub numbers : List ℕ
  pub answer_is : a ≡ gives numbers
  pub fits : length numbers ≤ length slice
  pub slice_is : filled a slice ≡ numbers ++ drop (length numbers) slice

pub given_of_zero : (a : Answer) (slice : List ℕ) → Numbered a → returned a slice ≡ 0 → Given a slice
given_of_zero (refuses n) slice h z = absurd (omega arith)
given_of_zero (gives ns) slice h z = go (ltb (length slice) (length ns)) refl z
  where
    go : (b : Bool) → ltb (length slice) (length ns) ≡ b → ◌≡◌ {A = ℕ} (cond b 11 0) 0 → Given (gives ns) slice
    go true e z = absurd (omega arith)
    go false e z = record { numbers = ns; answer_is = refl; fits = ltb-false (length slice) (length ns) e; slice_is = rw e }
