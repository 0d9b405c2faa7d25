-- A test's two cases, both sides of tests joined by && and ||, and a number of 0 behind a test. Assumes nothing.
use Rattle.std.specs.Prelude.{◌≡◌, refl, ◌⊎◌, Bool, true, false, cond, ◌&&◌, ◌||◌, ℕ, suc}
use Rattle.std.proofs.Common.{inl, inr, true≢false, arith}
use Rattle.std.proofs.lemmas.Bool.{false≢true}

-- A test is true or false, with the equation
pub true_or_false : (t : Bool) → (t ≡ true) ⊎ (t ≡ false)
true_or_false true = inl refl
true_or_false false = inr refl

pub both_of_and : (s t : Bool) → (s && t) ≡ true → (s ≡ true) × (t ≡ true)
both_of_and true t e = (refl, e)
both_of_and false t e = absurd (false≢true e)

pub either_of_or : (s t : Bool) → (s || t) ≡ true → (s ≡ true) ⊎ (t ≡ true)
either_of_or true t e = inl refl
either_of_or false t e = inr e

pub false_of_or : (a b : Bool) → (a || b) ≡ false → (a ≡ false) × (b ≡ false)
false_of_or true b e = absurd (true≢false e)
false_of_or false b e = (refl, e)

-- A number given back is not 0, so a number of 0 says that the test failed
pub past_test : (t : Bool) (n rest : ℕ) → cond t (suc n) rest ≡ 0 → (t ≡ false) × (rest ≡ 0)
past_test true n rest e = absurd (omega arith)
past_test false n rest e = (refl, e)
