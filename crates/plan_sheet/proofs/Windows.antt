-- The window registers of a record: closed, or those of its one placed window in the pool, whose edges are multiples of the granule.
-- Assumes nothing.
use Rattle.std.specs.Prelude.{◌≡◌, refl, ◌⊎◌, Bool, true, false, cond, ◌&&◌, List, [], ◌∷◌, ℕ, ◌^◌, ◌≤◌, eqb}
use Rattle.std.proofs.Common.{subst, inl, inr, ⊎_elim, arith}
use mathlib.Core.List.Memᴰ
use Rattle.arith.specs.BoolLaws.{both_of_and}
use Rattle.arith.specs.Align.{Multiple}
use Rattle.pools.specs.declared.Pool.{Pool}
use Rattle.pools.specs.declared.Pool.TheVariants.{Low, High, Io}
use Rattle.pools.specs.Pools.{granule, same_pool}
use Rattle.window.specs.declared.Window.{Window}
use Rattle.window.specs.Window.{closed, opened, bound, is_nibbled, Fits}
use Rattle.window.proofs.WindowLaws.{Edges, closed_nibbled, closed_fits, opened_fits, opened_nibbled}
use Rattle.plan_rule.proofs.PoolLaws.{eq_of_same_pool}
use Rattle.plan_rule.specs.Records as placing
use Rattle.plan_rule.specs.Records.{Host}
use Rattle.plan_rule.specs.Layout.{Placed, end_of, is_window}
use Rattle.plan_rule.specs.Placing.{placed}
use Rattle.plan_rule.proofs.Placed.{well_placed}
use Rattle.plan_function.specs.Registers.{is_window_in, window_for}
use Rattle.lists.specs.Lists.{◌∈◌}
use Rattle.lists.specs.ListLaws.{all_elim}
use Rattle.plan_good.specs.Boards.{Board}
use Rattle.plan_good.proofs.Kept.{AllKept, not_empty}
use Rattle.plan_sheet.specs.Starts.{address_bits}
use Rattle.plan_sheet.proofs.Starts.{end_le}

-- ## Closed, or a placed window's

-- x is among the pieces, and a window of pool q
pub record WindowAt (q : Pool) (xs : List Placed) (x : Placed) : Type 0 where
  pub among : x ∈ xs
  pub is_window_lem : is_window x.piece.part ≡ true
  pub pool_is : x.piece.pool ≡ q

window_for_cases : (k : ℕ) (q : Pool) (xs : List Placed)
    → (window_for k q xs ≡ closed q) ⊎ ((x : Placed) × WindowAt q xs x × (window_for k q xs ≡ opened q x.start (end_of x)))
unfolding window_for
window_for_cases k q [] = inl refl
window_for_cases k q (x ∷ xs) = go (eqb x.piece.owner k && is_window_in q x) refl (window_for_cases k q xs)
  where
    later : (w : Window) → (w ≡ closed q) ⊎ ((y : Placed) × WindowAt q xs y × (w ≡ opened q y.start (end_of y)))
        → (w ≡ closed q) ⊎ ((y : Placed) × WindowAt q (x ∷ xs) y × (w ≡ opened q y.start (end_of y)))
    later w (inl e) = inl e
    later w (inr (y, at, e)) = inr (y, record { among = Memᴰ.tail at.among; is_window_lem = at.is_window_lem; pool_is = at.pool_is }, e)

    go : (t : Bool) → (eqb x.piece.owner k && is_window_in q x) ≡ t
        → (window_for k q xs ≡ closed q) ⊎ ((y : Placed) × WindowAt q xs y × (window_for k q xs ≡ opened q y.start (end_of y)))
        → (cond t (opened q x.start (end_of x)) (window_for k q xs) ≡ closed q)
        ⊎ ((y : Placed) × WindowAt q (x ∷ xs) y ×
        (cond t (opened q x.start (end_of x)) (window_for k q xs) ≡ opened q y.start (end_of y)))
    go true e rest =
        let outer = both_of_and (eqb x.piece.owner k) (is_window_in q x) e in
        let inner = both_of_and (is_window x.piece.part) (same_pool x.piece.pool q) outer.1 in
        let here : WindowAt q (x ∷ xs) x = record
        { among = Memᴰ.head refl; is_window_lem = inner.0; pool_is = eq_of_same_pool x.piece.pool q inner.1 } in
        inr (x, here, refl)
    go false e rest = later (window_for k q xs) rest

bits_bound : (q : Pool) → 2 ^ address_bits q ≤ bound q
bits_bound Low = omega arith
bits_bound High = omega arith
bits_bound Io = omega arith

module _ (h : Host) (fs : List placing.Function) (board : Board h fs) (kept : AllKept h fs) where
  pub window_edges : (q : Pool) (x : Placed) → WindowAt q (placed h fs) x → Edges q x.start (end_of x)
  window_edges q x w =
      let multiples = all_elim _ (placed h fs) (well_placed h fs board.lawful).window_aligned w.among w.is_window_lem in
      let end = subst (λ (p : Pool). end_of x ≤ 2 ^ address_bits p) w.pool_is (end_le h fs board kept w.among) in
      record {
        start_multiple = subst (λ (p : Pool). Multiple (granule p) x.start) w.pool_is multiples.0;
        stop_multiple = subst (λ (p : Pool). Multiple (granule p) (end_of x)) w.pool_is multiples.1;
        start_lt = omega (arith, not_empty h fs board.lawful w.among);
        stop_le = omega (arith, bits_bound q);
      }

  pub window_fits : (k : ℕ) (q : Pool) → Fits q (window_for k q (placed h fs))
  window_fits k q =
      ⊎_elim
      (λ e. rw e (closed_fits q))
      (λ there. rw there.2 (opened_fits (window_edges q there.0 there.1)))
      (window_for_cases k q (placed h fs))

-- 29
pub window_nibbled : (k : ℕ) (q : Pool) (xs : List Placed) → is_nibbled q (window_for k q xs) ≡ true
window_nibbled k q xs =
    ⊎_elim
    (λ e. rw e (closed_nibbled q))
    (λ there. rw there.2 (opened_nibbled q there.0.start (end_of there.0)))
    (window_for_cases k q xs)
