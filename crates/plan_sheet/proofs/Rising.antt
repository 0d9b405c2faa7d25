-- Check 23 by pairs: of two functions with one parent the later has the greater device/function. Assumes nothing.
use Rattle.std.specs.Prelude.{◌≡◌, refl, Bool, true, false, cond, List, [], ◌∷◌, ℕ, zero, suc, ◌≤◌, ◌<◌, length, eqb}
use Rattle.std.proofs.Common.{ap, arith, eqb-true}
use Rattle.std.proofs.lemmas.List.{length-map}
use Rattle.std.proofs.lemmas.Bool.{eqb-false}
use Rattle.arith.specs.BoolLaws.{false_of_or}
use Rattle.lists.specs.Lists.{All, Pairwise}
use Rattle.lists.specs.ListLaws.{all_imp, all_imp₂}
use Rattle.plan_rule.specs.Preorder.{parent_of}
use Rattle.board_record.specs.declared.Function.{Function}
use Rattle.board_order.specs.Order.{last_sibling, misplaced, any_misplaced}
use Rattle.board_order.specs.OrderLaws.{placed_of_not_misplaced}
use Rattle.board.specs.ToPlacing.{to_function, to_placing, devfn_of}
use Rattle.plan_good.specs.Ids.{SiblingsRise}

-- where they share a parent, f has the smaller device/function
abbrev RisesTo : Function → Function → Type 0
RisesTo f g = f.parent ≡ g.parent → f.devfn < g.devfn

-- the functions before have smaller ones than the next sibling may have
abbrev Below : List Function → Type 0
Below before = (p : ℕ) → All (λ g. g.parent ≡ p → g.devfn < last_sibling p before) before

below_step : (f : Function) (before : List Function) → Below before → last_sibling f.parent before ≤ f.devfn → Below (f ∷ before)
unfolding last_sibling
below_step f before h l p = go (eqb f.parent p) refl
  where
    go : (t : Bool) → eqb f.parent p ≡ t
        → All (λ g. g.parent ≡ p → g.devfn < cond t (suc f.devfn) (last_sibling p before)) (f ∷ before)
    go true e = (
      λ _. omega arith,
      all_imp (λ g. g.parent ≡ p → g.devfn < last_sibling p before) _ before (h p)
          (λ g k same. omega (arith, k same, ap (λ (q : ℕ). last_sibling q before) (eqb-true f.parent p e))),
    )
    go false e = (λ same. absurd (eqb-false f.parent p e same), h p)

rising_from : (n : ℕ) (before fs : List Function) → Below before → any_misplaced n before fs ≡ false
    → Pairwise RisesTo fs × All (λ g. All (RisesTo g) fs) before
unfolding any_misplaced
rising_from n before [] h e = (tt, all_imp (λ g. g.parent ≡ 0 → g.devfn < last_sibling 0 before) _ before (h 0) (λ g k. tt))
rising_from n before (f ∷ fs) h e =
    let both = false_of_or (misplaced n before f) (any_misplaced (suc n) (f ∷ before) fs) e in
    let rising = (placed_of_not_misplaced n before f both.0).rising in
    let rest = rising_from (suc n) (f ∷ before) fs (below_step f before h rising) both.1 in (
      (rest.1.0, rest.0),
      all_imp₂ _ _ _ before (h f.parent) rest.1.1 (λ g k later. (λ same. omega (arith, k same), later)),
    )

-- ## By record numbers

at_index : (f : Function) (fs : List Function) → All (RisesTo f) fs → (j : ℕ) → j < length fs
    → f.parent ≡ parent_of (to_placing fs) (suc j) → f.devfn < devfn_of fs (suc j)
at_index f [] h j l e = absurd (omega arith)
at_index f (g ∷ fs) h zero l e = h.0 e
at_index f (g ∷ fs) h (suc j) l e = at_index f fs h.1 j (omega arith) e

by_index : (fs : List Function) → Pairwise RisesTo fs → (i j : ℕ) → i < j → j < length fs
    → parent_of (to_placing fs) (suc i) ≡ parent_of (to_placing fs) (suc j) → devfn_of fs (suc i) < devfn_of fs (suc j)
by_index [] h i j l m e = absurd (omega arith)
by_index (f ∷ fs) h zero zero l m e = absurd (omega arith)
by_index (f ∷ fs) h zero (suc j) l m e = at_index f fs h.0 j (omega arith) e
by_index (f ∷ fs) h (suc i) zero l m e = absurd (omega arith)
by_index (f ∷ fs) h (suc i) (suc j) l m e = by_index fs h.1 i j (omega arith) (omega arith) e

pub siblings_rise_of_placed : (fs : List Function) → any_misplaced 0 [] fs ≡ false → SiblingsRise (to_placing fs) (devfn_of fs)
siblings_rise_of_placed fs e zero k pos l m same = absurd (omega arith)
siblings_rise_of_placed fs e (suc i) zero pos l m same = absurd (omega arith)
siblings_rise_of_placed fs e (suc i) (suc j) pos l m same =
    by_index fs (rising_from 0 [] fs (λ p. tt) e).0 i j (omega arith) (omega (arith, length-map fs to_function)) same
