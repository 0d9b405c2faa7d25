-- Check 23's depth by parent records: how many bridges stand above any function at the most. Assumes nothing.
use Rattle.std.specs.Prelude.{◌≡◌, refl, Bool, true, false, List, [], ◌∷◌, ℕ, zero, suc, ◌+◌, ◌≤◌, ◌<◌, length, get_or, eqb}
use Rattle.std.proofs.Common.{sym, ap, ◌∙◌, ⊎_elim, add-zero, arith, eqb-true}
use Rattle.std.proofs.lemmas.List.{length-map}
use Rattle.std.proofs.Math.ListN.{get_or-eq_default}
use Rattle.std.proofs.lemmas.Bool.{eqb-false}
use Rattle.arith.specs.Order.{le_or_lt}
use Rattle.arith.specs.BoolLaws.{false_of_or}
use Rattle.records.specs.Limits.{most_above}
use Rattle.plan_rule.specs.Records.{Lawful}
use Rattle.plan_rule.specs.Records as placing
use Rattle.plan_rule.specs.Preorder.{no_function, parent_of}
use Rattle.plan_rule.specs.Above.{above_within, above_by_parents, above_bus}
use Rattle.plan_rule.proofs.AboveLaws.{parent_before, above_host, above_on_bus}
use Rattle.board_record.specs.declared.Function.{Function}
use Rattle.board_order.specs.Order.{above, misplaced, any_misplaced}
use Rattle.board_order.specs.OrderLaws.{placed_of_not_misplaced, above_here, above_later}
use Rattle.board.specs.Board.{board_number, functions_of}
use Rattle.board.proofs.BoardLaws.{accepted_of_zero}
use Rattle.board.specs.ToPlacing.{to_function, to_placing}
use Rattle.board.proofs.ToPlacingLaws.{lawful_of_accepted}

-- the records before, nearest first, put back in front of the rest
abbrev onto : List Function → List Function → List Function
onto [] fs = fs
onto (g ∷ before) fs = onto before (g ∷ fs)

parent_onto : (before : List Function) (f : Function) (fs : List Function)
    → parent_of (to_placing (onto before (f ∷ fs))) (suc (length before)) ≡ f.parent
parent_onto before f fs =
    ap (λ (i : ℕ). (get_or (to_placing (onto before (f ∷ fs))) i no_function).parent) (sym (add-zero (length before))) ∙ go before (f ∷ fs) 0
  where
    go : (b gs : List Function) (i : ℕ) → (get_or (to_placing (onto b gs)) (length b + i) no_function).parent
        ≡ (get_or (to_placing gs) i no_function).parent
    go [] gs i = ap (λ (k : ℕ). (get_or (to_placing gs) k no_function).parent) (omega arith)
    go (g ∷ b) gs i =
        let place : suc (length b) + i ≡ length b + suc i = omega arith in
        ap (λ (k : ℕ). (get_or (to_placing (onto b (g ∷ gs))) k no_function).parent) place ∙ go b (g ∷ gs) (suc i)

-- the bridges above, told by the records before and by parent records
above_agree : (before fs : List Function) → Lawful (to_placing (onto before fs)) → (p : ℕ) → p ≤ length before
    → above (length before) p before ≡ above_bus (to_placing (onto before fs)) p
unfolding above
above_agree [] fs lawful zero l = refl
above_agree [] fs lawful (suc p) l = absurd (omega arith)
above_agree (g ∷ before) fs lawful p l = go (eqb p (suc (length before))) refl (above_agree before (g ∷ fs) lawful)
  where
    all : List placing.Function
    all = to_placing (onto before (g ∷ fs))

    go : (t : Bool) → eqb p (suc (length before)) ≡ t
        → ((q : ℕ) → q ≤ length before → above (length before) q before ≡ above_bus all q)
        → above (suc (length before)) p (g ∷ before) ≡ above_bus all p
    go true e on =
        let is : p ≡ suc (length before) = eqb-true p (suc (length before)) e in
        let up = parent_onto before g fs in
        let next = on g.parent (omega (arith, parent_before lawful (length before))) in
        above_here (length before) p g before e
        ∙ ap (p ∷◌) (next ∙ sym (above_on_bus lawful (suc (length before)) ∙ ap (above_bus all) up))
        ∙ ap (λ (q : ℕ). q ∷ above_by_parents all (suc (length before))) is
        ∙ ap (above_bus all) (sym is)
    go false e on = above_later (length before) p g before e ∙ on p (omega (arith, eqb-false p (suc (length before)) e))

few_above_from : (before fs : List Function) → Lawful (to_placing (onto before fs)) → any_misplaced (length before) before fs ≡ false
    → (i : ℕ) → i < length fs → length (above_by_parents (to_placing (onto before fs)) (suc (length before + i))) ≤ most_above
unfolding any_misplaced
few_above_from before [] lawful e i l = absurd (omega arith)
few_above_from before (f ∷ fs) lawful e zero l =
    let both = false_of_or (misplaced (length before) before f) (any_misplaced (suc (length before)) (f ∷ before) fs) e in
    let up = parent_onto before f fs in
    let low : f.parent ≤ length before = omega (arith, parent_before lawful (length before)) in
    let all = to_placing (onto before (f ∷ fs)) in
    let same : above_by_parents all (suc (length before)) ≡ above (length before) f.parent before =
    above_on_bus lawful (suc (length before)) ∙ ap (above_bus all) up ∙ sym (above_agree before (f ∷ fs) lawful f.parent low) in
    rw (add-zero (length before), same) (placed_of_not_misplaced (length before) before f both.0).shallow
few_above_from before (f ∷ fs) lawful e (suc i) l =
    let both = false_of_or (misplaced (length before) before f) (any_misplaced (suc (length before)) (f ∷ before) fs) e in
    let place : length before + suc i ≡ suc (length before) + i = omega arith in
    rw place (few_above_from (f ∷ before) fs lawful both.1 i (omega arith))

few_above_of_placed : (fs : List Function) → Lawful (to_placing fs) → any_misplaced 0 [] fs ≡ false
    → (k : ℕ) → length (above_by_parents (to_placing fs) k) ≤ most_above
unfolding above_by_parents above_within
few_above_of_placed fs lawful e zero = omega arith
few_above_of_placed fs lawful e (suc i) = ⊎_elim past there (le_or_lt (length fs) i)
  where
    past : length fs ≤ i → length (above_by_parents (to_placing fs) (suc i)) ≤ most_above
    past l =
        let none = get_or-eq_default (to_placing fs) no_function {n = i} (omega (arith, length-map fs to_function)) in
        let host = above_host (to_placing fs) (suc i) (ap (λ (f : placing.Function). f.parent) none) in
        omega (arith, ap length host)

    there : i < length fs → length (above_by_parents (to_placing fs) (suc i)) ≤ most_above
    there l = let place : 0 + i ≡ i = omega arith in rw place at (few_above_from [] fs lawful e i l)

pub few_above_of_accepted : (b : List ℕ) → board_number b ≡ 0 → (k : ℕ) → length (above_by_parents (to_placing (functions_of b)) k) ≤ most_above
few_above_of_accepted b e = few_above_of_placed (functions_of b) (lawful_of_accepted b e) (accepted_of_zero b e).order
