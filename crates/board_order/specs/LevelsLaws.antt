-- The laws of open buses in arrays: finding a parent's level, and one turn of the pass over functions. Assumes nothing.
use Rattle.std.proofs.Math.Path.{◌≡◌, refl, ap}
use Rattle.std.proofs.Common.{sym, ap₂, ◌∙◌, add-one, length-set, get_or-set_same, get_or-set_other}
use Rattle.std.specs.Prelude.{◌≢◌, Bool, cond, not, ◌||◌, None, Some, length, get_or, take, drop, set, ltb}
use Rattle.std.proofs.Math.Bool.{true, false}
use mathlib.Core.List.{List, [], ◌∷◌, map}
use Prim.Native.Nat.{ℕ, zero, suc, ◌+◌, ◌/◌, ◌%◌, ◌≤◌, ◌<◌}
use native.Mathlib.Omega.{arith}
use Rattle.std.proofs.Math.Dec.{eqb}
use borrow.Author.Tests.{eq-eqb, ne_eqb, ltb-false}
use Rattle.arith.specs.BoolLaws.{false_of_or}
use Rattle.records.specs.declared.Next.TheVariants.{Record}
use Rattle.records.specs.Records.{next_of, parts_from}
use Rattle.records.specs.RecordsLaws.{pass_record}
use Rattle.records.specs.Limits.{most_above}
use Rattle.board_record.specs.declared.Function.{Function}
use Rattle.board_record.specs.Function.{is_bridge, function_of_part}
use Rattle.board_order.specs.Stack.{Level, fresh, close_to, unplaced_at, entered, enter, shared_after, first_unplaced}
use Rattle.board_order.specs.Levels.{level_at, deepest, found_in, open_after}

-- ---- finding

module _ (p : ℕ) (buses : List ℕ) where
  pub found_here : (n i : ℕ) → n ≡ suc i → get_or buses i 0 ≡ p → found_in p buses n ≡ Some i
  unfolding found_in
  found_here n i e h = rw (e, eq-eqb p (get_or buses i 0) (sym h))

  pub found_later : (n i : ℕ) → n ≡ suc i → (get_or buses i 0 ≡ p → ⊥) → found_in p buses n ≡ found_in p buses i
  unfolding found_in
  found_later n i e h = rw (e, ne_eqb p (get_or buses i 0) (λ x. h (sym x)))

  pub lt_of_found : (n i : ℕ) → found_in p buses n ≡ Some i → i < n
  unfolding found_in
  lt_of_found zero i e = let z : ◌≡◌ {A = ℕ} 0 1 = cc in absurd (omega arith)
  lt_of_found (suc n) i e = go (eqb p (get_or buses n 0)) refl (lt_of_found n i)
    where
      go : (t : Bool) → eqb p (get_or buses n 0) ≡ t → (found_in p buses n ≡ Some i → i < n) → i < suc n
      go true h on = let q : Some n ≡ Some i = rw h at e in let r : n ≡ i = cc in omega arith
      go false h on = let l = on (rw h at e) in omega arith

-- ---- what is found is what stays open

module _ (p : ℕ) (b n s : List ℕ) where
  close_to_found : (k i : ℕ) → found_in p b k ≡ Some i → close_to p (deepest b n s k) ≡ deepest b n s (suc i)
  unfolding found_in close_to deepest
  close_to_found zero i e = let z : ◌≡◌ {A = ℕ} 0 1 = cc in absurd (omega arith)
  close_to_found (suc k) i e = go (eqb p (get_or b k 0)) refl (close_to_found k i)
    where
      go : (t : Bool) → eqb p (get_or b k 0) ≡ t → (found_in p b k ≡ Some i → close_to p (deepest b n s k) ≡ deepest b n s (suc i))
          → close_to p (deepest b n s (suc k)) ≡ deepest b n s (suc i)
      go true h on =
          let q : Some k ≡ Some i = rw h at e in
          let r : k ≡ i = cc in
          rw h (ap (λ (j : ℕ). deepest b n s (suc j)) r)
      go false h on = rw h (on (rw h at e))

  close_to_nowhere : (k : ℕ) → found_in p b k ≡ None → close_to p (deepest b n s k) ≡ []
  unfolding found_in close_to deepest
  close_to_nowhere zero e = refl
  close_to_nowhere (suc k) e = go (eqb p (get_or b k 0)) refl (close_to_nowhere k)
    where
      go : (t : Bool) → eqb p (get_or b k 0) ≡ t → (found_in p b k ≡ None → close_to p (deepest b n s k) ≡ [])
          → close_to p (deepest b n s (suc k)) ≡ []
      go true h on = let q : Some k ≡ None = rw h at e in let z : ◌≡◌ {A = ℕ} 0 1 = cc in absurd (omega arith)
      go false h on = rw h (on (rw h at e))

  length_deepest : (k : ℕ) → length (deepest b n s k) ≡ k
  unfolding deepest
  length_deepest zero = refl
  length_deepest (suc k) = ap suc (length_deepest k)

-- ---- one function

module _ (b n s : List ℕ) (k number : ℕ) (f : Function) (fs : List Function) where
  pub order_nowhere : found_in f.parent b k ≡ None → first_unplaced number (deepest b n s k) (f ∷ fs) ≡ suc number
  unfolding first_unplaced
  order_nowhere e = rw (close_to_nowhere f.parent b n s k e)

  pub order_hit : (i : ℕ) → found_in f.parent b k ≡ Some i → unplaced_at (get_or n i 0) (get_or s i 0) i f ≡ true
      → first_unplaced number (deepest b n s k) (f ∷ fs) ≡ suc number
  unfolding first_unplaced deepest
  order_hit i e h = rw (close_to_found f.parent b n s k i e, length_deepest f.parent b n s i, h)

  pub order_miss : (i : ℕ) → found_in f.parent b k ≡ Some i → unplaced_at (get_or n i 0) (get_or s i 0) i f ≡ false
      → first_unplaced number (deepest b n s k) (f ∷ fs) ≡ first_unplaced (suc number) (enter (suc number) f (deepest b n s (suc i))) fs
  unfolding first_unplaced deepest
  order_miss i e h = rw (close_to_found f.parent b n s k i e, length_deepest f.parent b n s i, h)

-- ---- what a function in its place changes

deepest_agree : (b n s b' n' s' : List ℕ) (k : ℕ) → ((i : ℕ) → i < k → level_at b n s i ≡ level_at b' n' s' i) → deepest b n s k
    ≡ deepest b' n' s' k
unfolding deepest
deepest_agree b n s b' n' s' zero h = refl
deepest_agree b n s b' n' s' (suc k) h = ap₂ ◌∷◌ (h k (omega arith)) (deepest_agree b n s b' n' s' k (λ i l. h i (omega arith)))

module _ (b n s : List ℕ) (i number x y : ℕ) (f : Function) (in_b : i + 1 < length b) (in_n : i + 1 < length n)
    (in_s : i + 1 < length s) where
  abbrev pub buses_after : List ℕ
  buses_after = set b (i + 1) number

  abbrev pub nexts_after : List ℕ
  nexts_after = set (set n i x) (i + 1) 0

  abbrev pub shareds_after : List ℕ
  shareds_after = set (set s i y) (i + 1) 0

  below : (j : ℕ) → j < i → level_at buses_after nexts_after shareds_after j ≡ level_at b n s j
  below j l =
      let p : j ≢ i = λ e. omega arith in
      let q : j ≢ i + 1 = λ e. omega arith in
      rw (
        get_or-set_other b (i + 1) j number 0 q,
        get_or-set_other (set n i x) (i + 1) j 0 0 q,
        get_or-set_other n i j x 0 p,
        get_or-set_other (set s i y) (i + 1) j 0 0 q,
        get_or-set_other s i j y 0 p,
      )

  -- the levels after a function at level i is entered, and its own level opened
  pub deepest_enter : (k : ℕ) → x ≡ suc f.devfn → y ≡ shared_after (get_or s i 0) f → k ≡ open_after i f
      → deepest buses_after nexts_after shareds_after k ≡ enter number f (deepest b n s (suc i))
  unfolding deepest
  deepest_enter k ex ey ek = ap (deepest buses_after nexts_after shareds_after) ek ∙ go (is_bridge f) refl
    where
      q : i ≢ i + 1
      q e = omega arith

      here : level_at buses_after nexts_after shareds_after i ≡ entered f (level_at b n s i)
      here =
          rw (
            get_or-set_other b (i + 1) i number 0 q,
            get_or-set_other (set n i x) (i + 1) i 0 0 q,
            get_or-set_same n i x 0 (omega arith),
            get_or-set_other (set s i y) (i + 1) i 0 0 q,
            get_or-set_same s i y 0 (omega arith),
            ex,
            ey,
          )

      new : level_at buses_after nexts_after shareds_after (i + 1) ≡ fresh number
      new =
          rw (
            get_or-set_same b (i + 1) number 0 in_b,
            get_or-set_same (set n i x) (i + 1) 0 0 (omega (arith, length-set n i x)),
            get_or-set_same (set s i y) (i + 1) 0 0 (omega (arith, length-set s i y)),
          )

      kept : deepest buses_after nexts_after shareds_after (suc i) ≡ entered f (level_at b n s i) ∷ deepest b n s i
      kept = ap₂ ◌∷◌ here (deepest_agree buses_after nexts_after shareds_after b n s i below)

      go : (t : Bool) → is_bridge f ≡ t → deepest buses_after nexts_after shareds_after (open_after i f) ≡ enter number f (deepest b n s (suc i))
      go true e =
          let two : i + 2 ≡ suc (i + 1) = omega arith in
          rw (e, two) (ap₂ ◌∷◌ new (ap (deepest buses_after nexts_after shareds_after) (add-one i) ∙ kept))
      go false e = rw e (ap (deepest buses_after nexts_after shareds_after) (add-one i) ∙ kept)

-- ---- bounds

pub shallow_of_placed : (next shared depth : ℕ) (f : Function) → unplaced_at next shared depth f ≡ false → depth ≤ most_above
shallow_of_placed next shared depth f e =
    ltb-false most_above depth
    (false_of_or (ltb f.devfn next) (ltb most_above depth)
    (false_of_or (ltb f.devfn next || ltb most_above depth) (not (eqb (f.devfn % 8) 0 || eqb shared (suc (f.devfn / 8)))) e).0).1

pub open_after_le : (i : ℕ) (f : Function) → open_after i f ≤ i + 2
open_after_le i f = go (is_bridge f)
  where
    go : (t : Bool) → cond t (i + 2) (i + 1) ≤ i + 2
    go true = omega arith
    go false = omega arith

-- ---- one turn of the pass: the function at the cursor, then those from the next cursor on

pub order_turn : (s : List ℕ) (at n : ℕ) (f : Function) → next_of (drop at s) ≡ Record n → f ≡ function_of_part (take n (drop (at + 2) s))
    → (number : ℕ) (ls : List Level)
    → first_unplaced number ls (map function_of_part (parts_from s at))
    ≡ first_unplaced number ls (f ∷ map function_of_part (parts_from s (at + 2 + n)))
order_turn s at n f e h number ls =
    pass_record (λ (ps : List (List ℕ)). first_unplaced number ls (map function_of_part ps)) s at n e
    ∙ ap (λ (g : Function). first_unplaced number ls (g ∷ map function_of_part (parts_from s (at + 2 + n)))) (sym h)
