-- The laws of depth-first order: who may be a parent after a record, that it comes earlier, and that more may ask no more.
-- Assumes nothing.
use Rattle.std.specs.Prelude.{◌≡◌, ◌⊎◌, Bool, true, false, ◌&&◌, List, [], ◌∷◌, ℕ, zero, suc, ◌+◌, ◌≤◌, ◌<◌, drop, eqb, leb}
use Rattle.std.proofs.Common.{sym, ◌∙◌, inl, inr, ⊎_elim, true≢false, add-zero, arith, eqb-true, eq-eqb, leb-true, le-leb}
use Rattle.std.proofs.lemmas.Bool.{false≢true}
use Rattle.std.proofs.Math.Bool.{or-true}
use Rattle.arith.specs.BoolLaws.{true_or_false, both_of_and, either_of_or}
use Rattle.plan_rule.specs.Records.{Function, DepthFirst, parents_after, only_host}

-- After record k a parent is k itself, a bridge, or was one before and is not past k's own
pub parent_cases : (ok : ℕ → Bool) (k : ℕ) (f : Function) (j : ℕ) → parents_after ok k f j ≡ true
    → ((j ≡ k) × (f.bridge ≡ true)) ⊎ ((ok j ≡ true) × (j ≤ f.parent))
parent_cases ok k f j e =
    ⊎_elim
    (λ (g : (eqb j k && f.bridge) ≡ true).
    let b = both_of_and (eqb j k) f.bridge g in
    inl (eqb-true j k b.0, b.1))
    (λ (g : (ok j && leb j f.parent) ≡ true).
    let b = both_of_and (ok j) (leb j f.parent) g in
    inr (b.0, leb-true j f.parent b.1))
    (either_of_or (eqb j k && f.bridge) (ok j && leb j f.parent) e)

pub parent_new : (ok : ℕ → Bool) (k : ℕ) (f : Function) (j : ℕ) → j ≡ k → f.bridge ≡ true → parents_after ok k f j ≡ true
parent_new ok k f j e b = rw (eq-eqb j k e, b)

pub parent_kept : (ok : ℕ → Bool) (k : ℕ) (f : Function) (j : ℕ) → ok j ≡ true → j ≤ f.parent → parents_after ok k f j ≡ true
parent_kept ok k f j e l = rw (e, le-leb j f.parent l) (or-true (eqb j k && f.bridge))

-- What is never true is false
pub false_of_not : (t : Bool) → (t ≡ true → ⊥) → t ≡ false
false_of_not t h = ⊎_elim (λ e. absurd (h e)) (λ e. e) (true_or_false t)

abbrev pub Subset : (ℕ → Bool) → (ℕ → Bool) → Type 0
Subset s t = (j : ℕ) → s j ≡ true → t j ≡ true

-- Those that may be parents come earlier
abbrev pub Bounded : (ℕ → Bool) → ℕ → Type 0
Bounded ok k = (j : ℕ) → ok j ≡ true → j < k

pub bounded_start : Bounded only_host 1
bounded_start j e = omega (arith, eqb-true j 0 e)

pub bounded_step : (ok : ℕ → Bool) (k : ℕ) (f : Function) → Bounded ok k → Bounded (parents_after ok k f) (suc k)
bounded_step ok k f h j e = ⊎_elim (λ g. omega (arith, g.0)) (λ g. omega (arith, h j g.0)) (parent_cases ok k f j e)

-- Only a bridge may be the parent of what follows it
pub not_parent : (ok : ℕ → Bool) (k : ℕ) (f : Function) → Bounded ok k → f.bridge ≡ false → parents_after ok k f k ≡ false
not_parent ok k f l e =
    false_of_not (parents_after ok k f k)
    (λ g. ⊎_elim (λ t. true≢false (sym t.1 ∙ e)) (λ t. omega (arith, l k t.0)) (parent_cases ok k f k g))

pub depth_first_mono : (s t : ℕ → Bool) (k : ℕ) (fs : List Function) → Subset s t → DepthFirst s k fs → DepthFirst t k fs
depth_first_mono s t k [] h d = tt
depth_first_mono s t k (f ∷ fs) h d =
    (h f.parent d.0, depth_first_mono (parents_after s k f) (parents_after t k f) (suc k) fs after d.1)
  where
    after : Subset (parents_after s k f) (parents_after t k f)
    after j e =
        ⊎_elim (λ g. parent_new t k f j g.0 g.1) (λ g. parent_kept t k f j (h j g.0) g.1) (parent_cases s k f j e)

-- f is the record at index i, and so has number i + 1. A proof that reads by index has it by `drop-cons` of `lib.Seq`
abbrev pub IsAt : List Function → ℕ → Function → Type 0
IsAt fs i f = drop i fs ≡ f ∷ drop (suc i) fs

-- The order holds of what follows any record, from those that may be parents there
pub record OrderedFrom (k : ℕ) (fs : List Function) : Type 0 where
  pub allowed : ℕ → Bool
  pub ordered : DepthFirst allowed k fs
  pub bounded : Bounded allowed k

ordered_drop : (ok : ℕ → Bool) (k : ℕ) (fs : List Function) → DepthFirst ok k fs → Bounded ok k → (i : ℕ) → OrderedFrom (k + i) (drop i fs)
ordered_drop ok k fs d l zero = rw (add-zero k) (record { allowed = ok; ordered = d; bounded = l })
ordered_drop ok k [] d l (suc i) = record { allowed = λ j. false; ordered = tt; bounded = λ j e. absurd (false≢true e) }
ordered_drop ok k (f ∷ fs) d l (suc i) =
    let e : suc k + i ≡ k + suc i = omega arith in
    rw (← e) (ordered_drop (parents_after ok k f) (suc k) fs d.1 (bounded_step ok k f l) i)

pub ordered_from : (fs : List Function) → DepthFirst only_host 1 fs → (i : ℕ) → OrderedFrom (suc i) (drop i fs)
ordered_from fs d i = let e : 1 + i ≡ suc i = omega arith in rw e at (ordered_drop only_host 1 fs d bounded_start i)
