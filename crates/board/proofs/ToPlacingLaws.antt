-- A board that is accepted is lawful for numbering and placing. Assumes nothing.
use Rattle.std.specs.Prelude.{◌≡◌, refl, Bool, true, false, ◌||◌, List, [], ◌∷◌, ℕ, suc, ◌≤◌, ◌<◌, length, take, eqb}
use Rattle.std.proofs.Common.{sym, ap, ◌∙◌, arith, eqb-true}
use Rattle.arith.specs.BoolLaws.{false_of_or}
use Rattle.plan_bars.specs.BarsLaws.{bars_from_sized}
use Rattle.lists.specs.Lists.{any}
use Rattle.lists.specs.ListLaws.{all_imp}
use Rattle.plan_rule.specs.Records.{parents_after, only_host, DepthFirst, Sized, Lawful}
use Rattle.plan_rule.proofs.RecordLaws.{Subset, parent_new, parent_kept}
use Rattle.board_record.specs.declared.Function.{Function}
use Rattle.board_record.specs.Function.{is_bridge, slot_count}
use Rattle.board_order.specs.Order.{parents, misplaced, any_misplaced}
use Rattle.board_order.specs.OrderLaws.{placed_of_not_misplaced, up_to_host, lt_up_to_host, from_on, from_on_parents, le_of_any, any_later}
use Rattle.board_order.specs.OrderLaws.{parents_bridge, parents_end}
use Rattle.board_order.specs.StackLaws.{up_cons, outer}
use Rattle.board.specs.Board.{board_number, functions_of}
use Rattle.board.proofs.BoardLaws.{accepted_of_zero}
use Rattle.board.specs.ToPlacing.{to_function, to_placing}

-- ---- sizes are powers of two

sized_functions : (fs : List Function) → Sized (to_placing fs)
sized_functions [] = tt
sized_functions (f ∷ fs) = (bars_from_sized 0 (take (slot_count f) f.readbacks), sized_functions fs)

-- ---- depth-first

any_of_from_on : (j p : ℕ) (xs : List ℕ) → any (eqb j) (from_on p xs) ≡ true → any (eqb j) xs ≡ true
unfolding any from_on
any_of_from_on j p [] e = e
any_of_from_on j p (x ∷ xs) e = go (eqb p x) refl (any_of_from_on j p xs)
  where
    either : (a b : Bool) → b ≡ true → (a || b) ≡ true
    either true b h = refl
    either false b h = h

    go : (t : Bool) → eqb p x ≡ t → (any (eqb j) (from_on p xs) ≡ true → any (eqb j) xs ≡ true) → (eqb j x || any (eqb j) xs) ≡ true
    go true h on = rw h at e
    go false h on = either (eqb j x) (any (eqb j) xs) (on (rw h at e))

module _ (before : List Function) (f : Function) (ok : ℕ → Bool)
    (h : Subset (λ (j : ℕ). any (eqb j) (parents (length before) before)) ok)
    (e : any (eqb f.parent) (parents (length before) before) ≡ true) where
  -- a parent above stays one
  kept : (j : ℕ) → any (eqb j) (up_to_host (length before) f.parent before) ≡ true
      → parents_after ok (suc (length before)) (to_function f) j ≡ true
  kept j m =
      parent_kept ok (suc (length before)) (to_function f) j
      (h j (any_of_from_on j f.parent (parents (length before) before)
      (ap (any (eqb j)) (from_on_parents (length before) f.parent before e) ∙ m)))
      (le_of_any f.parent j (f.parent ∷ outer f.parent before) (
        omega arith,
        all_imp (λ b. b < f.parent) (λ b. b ≤ f.parent) (outer f.parent before) (lt_up_to_host (length before) f.parent before)
            (λ b l. omega arith),
      )
      (sym (ap (any (eqb j)) (up_cons f.parent before e)) ∙ m))

  subset_step : Subset (λ (j : ℕ). any (eqb j) (parents (suc (length before)) (f ∷ before)))
      (parents_after ok (suc (length before)) (to_function f))
  subset_step j m = go (is_bridge f) refl
    where
      new : is_bridge f ≡ true → (t : Bool) → eqb j (suc (length before)) ≡ t
          → any (eqb j) (suc (length before) ∷ up_to_host (length before) f.parent before) ≡ true
          → parents_after ok (suc (length before)) (to_function f) j ≡ true
      new b true r m = parent_new ok (suc (length before)) (to_function f) j (eqb-true j (suc (length before)) r) b
      new b false r m = kept j (any_later j (suc (length before)) (up_to_host (length before) f.parent before) r m)

      go : (t : Bool) → is_bridge f ≡ t → parents_after ok (suc (length before)) (to_function f) j ≡ true
      go true b = new b (eqb j (suc (length before))) refl (sym (ap (any (eqb j)) (parents_bridge (length before) f before b)) ∙ m)
      go false b = kept j (sym (ap (any (eqb j)) (parents_end (length before) f before b)) ∙ m)

depth_first_of : (fs before : List Function) (ok : ℕ → Bool) → Subset (λ (j : ℕ). any (eqb j) (parents (length before) before)) ok
    → any_misplaced (length before) before fs ≡ false → DepthFirst ok (suc (length before)) (to_placing fs)
unfolding any_misplaced
depth_first_of [] before ok h e = tt
depth_first_of (f ∷ fs) before ok h e =
    let both = false_of_or (misplaced (length before) before f) (any_misplaced (suc (length before)) (f ∷ before) fs) e in
    let open_parent = (placed_of_not_misplaced (length before) before f both.0).parent_open in (
      h f.parent open_parent,
      depth_first_of fs (f ∷ before) (parents_after ok (suc (length before)) (to_function f)) (subset_step before f ok h open_parent)
          both.1,
    )

-- no function misplaced is depth-first order
depth_first_of_placed : (fs : List Function) → any_misplaced 0 [] fs ≡ false → DepthFirst only_host 1 (to_placing fs)
unfolding any parents
depth_first_of_placed fs e = depth_first_of fs [] only_host (λ j m. alone (eqb j 0) m) e
  where
    alone : (t : Bool) → (t || false) ≡ true → t ≡ true
    alone true m = refl
    alone false m = m

lawful_of_placed : (fs : List Function) → any_misplaced 0 [] fs ≡ false → Lawful (to_placing fs)
lawful_of_placed fs e = record { ordered = depth_first_of_placed fs e; sized = sized_functions fs }

-- a board that is accepted is lawful for numbering and placing
pub lawful_of_accepted : (b : List ℕ) → board_number b ≡ 0 → Lawful (to_placing (functions_of b))
lawful_of_accepted b e = lawful_of_placed (functions_of b) (accepted_of_zero b e).order
