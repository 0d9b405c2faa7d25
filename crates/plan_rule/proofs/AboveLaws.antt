-- The bridges above a function, step by step: on a lawful board a parent comes before, so the way up ends. Assumes nothing.
use Rattle.std.specs.Prelude.{◌≡◌, refl, ℕ, zero, suc, ◌≤◌, ◌<◌, length, drop}
use Rattle.std.proofs.Common.{sym, ap, subst, ◌∙◌, ⊎_elim, arith, drop-cons}
use mathlib.Core.List.{List, [], ◌∷◌, cons≢nil, head-eq_of_cons-eq}
use Rattle.std.proofs.Math.ListN.{get_or-eq_default}
use Rattle.arith.specs.Order.{le_or_lt}
use Rattle.plan_rule.specs.Records.{Function, DepthFirst, Lawful}
use Rattle.plan_rule.proofs.RecordLaws.{ordered_from}
use Rattle.plan_rule.specs.Preorder.{no_function, parent_of}
use Rattle.plan_rule.specs.Above.{step_up, above_within, above_by_parents, above_bus}

pub parent_at : (i : ℕ) (l : List Function) (f : Function) (fs : List Function) → drop i l ≡ f ∷ fs → parent_of l (suc i) ≡ f.parent
parent_at zero [] f fs e = absurd (cons≢nil (sym e))
parent_at zero (g ∷ l) f fs e = ap (λ (x : Function). x.parent) (head-eq_of_cons-eq e)
parent_at (suc i) [] f fs e = absurd (cons≢nil (sym e))
parent_at (suc i) (g ∷ l) f fs e = parent_at i l f fs e

-- On a lawful board a record's parent comes before it
pub parent_before : {fs : List Function} → Lawful fs → (i : ℕ) → parent_of fs (suc i) ≤ i
parent_before {fs} lawful i = ⊎_elim past there (le_or_lt (length fs) i)
  where
    past : length fs ≤ i → parent_of fs (suc i) ≤ i
    past l = omega (arith, ap (λ (f : Function). f.parent) (get_or-eq_default fs no_function l))

    there : i < length fs → parent_of fs (suc i) ≤ i
    there l =
        let o = ordered_from fs lawful.ordered i in
        let d = subst (DepthFirst o.allowed (suc i)) (drop-cons fs i no_function l) o.ordered in
        omega (arith, o.bounded (parent_of fs (suc i)) d.0)

step_up_pos : (p : ℕ) (on : ℕ → List ℕ) → 0 < p → step_up p on ≡ p ∷ on p
step_up_pos zero on l = absurd (omega arith)
step_up_pos (suc p) on l = refl

-- The bound does not matter
above_within_agree : {fs : List Function} → Lawful fs → (m n k : ℕ) → k ≤ m → k ≤ n → above_within m fs k ≡ above_within n fs k
unfolding above_within
above_within_agree lawful zero zero k l g = refl
above_within_agree lawful zero (suc n) zero l g = refl
above_within_agree lawful zero (suc n) (suc k) l g = absurd (omega arith)
above_within_agree lawful (suc m) zero zero l g = refl
above_within_agree lawful (suc m) zero (suc k) l g = absurd (omega arith)
above_within_agree lawful (suc m) (suc n) zero l g = refl
above_within_agree {fs} lawful (suc m) (suc n) (suc k) l g =
    go (parent_of fs (suc k)) (parent_before lawful k) (λ p a. above_within_agree lawful m n p (omega arith) (omega arith))
  where
    go : (p : ℕ) → p ≤ k → ((p : ℕ) → p ≤ k → above_within m fs p ≡ above_within n fs p)
        → step_up p (above_within m fs) ≡ step_up p (above_within n fs)
    go zero a on = refl
    go (suc p) a on = ap (suc p ∷◌) (on (suc p) a)

-- Below the host there is no bridge above
pub above_host : (fs : List Function) (k : ℕ) → parent_of fs k ≡ 0 → above_by_parents fs k ≡ []
unfolding above_by_parents above_within
above_host fs zero e = refl
above_host fs (suc k) e = rw e

-- Below a bridge there are that bridge and those above it
pub above_parent : {fs : List Function} → Lawful fs → (k : ℕ) → 0 < parent_of fs k
    → above_by_parents fs k ≡ parent_of fs k ∷ above_by_parents fs (parent_of fs k)
unfolding above_by_parents above_within
above_parent lawful zero l = absurd (omega arith)
above_parent {fs} lawful (suc k) l =
    let p = parent_of fs (suc k) in
    step_up_pos p (above_within k fs) l ∙ ap (p ∷◌) (above_within_agree lawful k p p (parent_before lawful k) (omega arith))

-- A record has above it what its bus has
pub above_on_bus : {fs : List Function} → Lawful fs → (k : ℕ) → above_by_parents fs k ≡ above_bus fs (parent_of fs k)
above_on_bus {fs} lawful k = go (parent_of fs k) refl
  where
    go : (p : ℕ) → parent_of fs k ≡ p → above_by_parents fs k ≡ above_bus fs p
    go zero e = above_host fs k e
    go (suc p) e = above_parent lawful k (omega arith) ∙ ap (λ (n : ℕ). n ∷ above_by_parents fs n) e
