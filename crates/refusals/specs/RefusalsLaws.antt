-- A refusal's number as a definition has it, and what holds of both answers of a test. Assumes nothing.
use Rattle.std.specs.Prelude.{◌≡◌, refl, Bool, true, false, cond, ◌&&◌, ℕ, eqb, ltb}
use Rattle.std.proofs.lemmas.Bool.{false≢true, eqb-false}
use Rattle.std.proofs.Common.{arith, ltb-true}
use Rattle.refusals.specs.Refusals.{IsRefusal, IsNumber}

-- of a number that is written out, by computation
pub refusal : (n : ℕ) → ltb 0 n && ltb n 100 ≡ true → IsRefusal n
refusal n = go (ltb 0 n) (ltb n 100) refl refl
  where
    go : (a b : Bool) → ltb 0 n ≡ a → ltb n 100 ≡ b → a && b ≡ true → IsRefusal n
    go true true e f h = (ltb-true 0 n e, omega (arith, ltb-true n 100 f))
    go true false e f h = absurd (false≢true h)
    go false b e f h = absurd (false≢true h)

module _ {A : Type 0} (P : A → Type 0) where
  pub either : (b : Bool) (x y : A) → P x → P y → P (cond b x y)
  either true x y p q = p
  either false x y p q = q

  -- a number that is given back where it is not 0
  pub unless_zero : (n : ℕ) (x y : A) → IsNumber n → P x → (IsRefusal n → P y) → P (cond (eqb n 0) x y)
  unless_zero n x y small p q = go (eqb n 0) refl
    where
      go : (b : Bool) → eqb n 0 ≡ b → P (cond b x y)
      go true e = p
      go false e = q (omega (arith, eqb-false n 0 e), small)
