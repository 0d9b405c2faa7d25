-- The window registers of a record as ranges: the open ones are its placed windows of the space, low before high. Assumes nothing.
use Rattle.std.specs.Prelude.{◌≡◌, Bool, true, false, cond, ◌&&◌, ℕ, eqb}
use Rattle.std.proofs.Math.Path.{refl}
use Rattle.std.proofs.Common.{sym, ap, ◌∙◌, true≢false, eqb-true, eq-eqb}
use Rattle.std.proofs.Math.Bool.{and-false}
use mathlib.Core.List.Memᴰ
use mathlib.Core.List.{List, [], ◌∷◌, ◌++◌, map, cons≢nil, head-eq_of_cons-eq, tail-eq_of_cons-eq}
use Rattle.arith.specs.BoolLaws.{both_of_and}
use Rattle.pools.specs.declared.Pool.{Pool}
use Rattle.pools.specs.declared.Pool.TheVariants.{Low, High, Io}
use Rattle.pools.specs.Pools.{same_pool}
use Rattle.pools.specs.declared.Space.{Space}
use Rattle.pools.specs.Pools.{in_space}
use Rattle.window.specs.Window.{closed, opened}
use Rattle.window.proofs.WindowLaws.{Edges, closed_shut, opened_start, opened_stop, opened_open}
use Rattle.plan_rule.specs.Pools.{low, high, io}
use Rattle.plan_rule.proofs.PoolLaws.{same_pool_refl, eq_of_same_pool}
use Rattle.plan_rule.proofs.RecordLaws.{false_of_not}
use Rattle.plan_rule.specs.Layout.{Piece, Placed, end_of, is_window}
use Rattle.plan_rule.specs.Pieces.{window_over, window_piece}
use Rattle.plan_function.specs.Registers.{is_window_in, window_for}
use Rattle.lists.specs.Lists.{◌∈◌, keep}
use Rattle.walk.specs.Ranges.{Pool as RangePool}
use Rattle.sheet_record.specs.Spaces.{pool_of, open_range}
use Rattle.plan_good.specs.Spaces.{range_pool}
use Rattle.plan_good.specs.Registers.{range_of, is_window_of}
use Rattle.plan_sheet.proofs.Windows.{WindowAt}

-- both name a pool the same on the walk
pub pool_agree : (q : Pool) → pool_of q ≡ range_pool q
pool_agree Low = refl
pool_agree High = refl
pool_agree Io = refl

pub range_of_closed : (q : Pool) → open_range q (closed q) ≡ []
range_of_closed q = rw (closed_shut q)

range_of_opened : {q : Pool} {a e : ℕ} → Edges q a e → open_range q (opened q a e) ≡ record { pool = pool_of q; start = a; stop = e } ∷ []
range_of_opened {q} {a} {e} d = rw (opened_open d, opened_start d, opened_stop d)

-- the search for a window, past pieces that it does not look for
window_for_none : (k : ℕ) (q : Pool) → window_for k q [] ≡ closed q
unfolding window_for
window_for_none k q = refl

module _ (k : ℕ) (q : Pool) (x : Placed) (xs : List Placed) where
  window_for_hit : x.piece.owner ≡ k → is_window x.piece.part ≡ true → same_pool x.piece.pool q ≡ true
      → window_for k q (x ∷ xs) ≡ opened q x.start (end_of x)
  unfolding window_for
  window_for_hit o w p = rw (eq-eqb x.piece.owner k o, w, p)

  window_for_miss : (eqb x.piece.owner k && is_window_in q x) ≡ false → window_for k q (x ∷ xs) ≡ window_for k q xs
  unfolding window_for
  window_for_miss e = rw e

-- all windows of the space that the search could look at are among those selected
pub window_for_keep : (sp : Space) (k : ℕ) (q : Pool) → in_space sp q ≡ true → (xs : List Placed)
    → window_for k q xs ≡ window_for k q (keep (is_window_of sp k) xs)
unfolding keep
window_for_keep sp k q in_sp [] = refl
window_for_keep sp k q in_sp (x ∷ xs) = go (is_window_of sp k x) refl (window_for_keep sp k q in_sp xs)
  where
    tests : (eqb x.piece.owner k && is_window_in q x) ≡ true → is_window_of sp k x ≡ true
    tests e =
        let outer = both_of_and (eqb x.piece.owner k) (is_window_in q x) e in
        let inner = both_of_and (is_window x.piece.part) (same_pool x.piece.pool q) outer.1 in
        let pool : in_space sp x.piece.pool ≡ true = ap (in_space sp) (eq_of_same_pool x.piece.pool q inner.1) ∙ in_sp in
        rw (outer.0, pool, inner.0)

    same : (t : Bool) → (eqb x.piece.owner k && is_window_in q x) ≡ t → window_for k q xs ≡ window_for k q (keep (is_window_of sp k) xs)
        → window_for k q (x ∷ xs) ≡ window_for k q (x ∷ keep (is_window_of sp k) xs)
    same true e on =
        let outer = both_of_and (eqb x.piece.owner k) (is_window_in q x) e in
        let inner = both_of_and (is_window x.piece.part) (same_pool x.piece.pool q) outer.1 in
        let o = eqb-true x.piece.owner k outer.0 in
        window_for_hit k q x xs o inner.0 inner.1 ∙ sym (window_for_hit k q x (keep (is_window_of sp k) xs) o inner.0 inner.1)
    same false e on = window_for_miss k q x xs e ∙ on ∙ sym (window_for_miss k q x (keep (is_window_of sp k) xs) e)

    go : (t : Bool) → is_window_of sp k x ≡ t → window_for k q xs ≡ window_for k q (keep (is_window_of sp k) xs)
        → window_for k q (x ∷ xs) ≡ window_for k q (cond t (x ∷ keep (is_window_of sp k) xs) (keep (is_window_of sp k) xs))
    go true e on = same (eqb x.piece.owner k && is_window_in q x) refl on
    go false e on =
        let miss = false_of_not (eqb x.piece.owner k && is_window_in q x) (λ t. true≢false (sym (tests t) ∙ e)) in
        window_for_miss k q x xs miss ∙ on

module _ (k b : ℕ) where
  -- what a record puts in one pool, and its window registers there
  pub over_kept : (sp : Space) (q : Pool) (content : List Piece) → in_space sp q ≡ true
      → keep (λ p. in_space sp p.pool) (window_over k b q content) ≡ window_over k b q content
  unfolding keep
  over_kept sp q [] e = refl
  over_kept sp q (c ∷ cs) e = rw e

  pub over_dropped : (sp : Space) (q : Pool) (content : List Piece) → in_space sp q ≡ false
      → keep (λ p. in_space sp p.pool) (window_over k b q content) ≡ []
  unfolding keep
  over_dropped sp q [] e = refl
  over_dropped sp q (c ∷ cs) e = rw e

  module _ (x : Placed) (q : Pool) (end largest : ℕ) (e : x.piece ≡ window_piece k b q end largest) where
    at_window : (xs : List Placed) → x ∈ xs → WindowAt q xs x
    at_window xs m =
        record { among = m; is_window_lem = ap (λ (p : Piece). is_window p.part) e; pool_is = ap (λ (p : Piece). p.pool) e }

    hit : (xs : List Placed) → Edges q x.start (end_of x) → open_range q (window_for k q (x ∷ xs)) ≡ range_of x ∷ []
    hit xs d =
        ap (open_range q)
        (window_for_hit k q x xs (ap (λ (p : Piece). p.owner) e) (ap (λ (p : Piece). is_window p.part) e)
        (ap (λ (p : Piece). same_pool p.pool q) e ∙ same_pool_refl q))
        ∙ range_of_opened d
        ∙ ap (λ (p : RangePool). record { pool = p; start = x.start; stop = end_of x } ∷ [])
        (pool_agree q ∙ ap (λ (p : Piece). range_pool p.pool) (sym e))

    miss : (r : Pool) (xs : List Placed) → same_pool q r ≡ false → open_range r (window_for k r (x ∷ xs)) ≡ open_range r (window_for k r xs)
    miss r xs other =
        ap (open_range r)
        (window_for_miss k r x xs
        (rw (
          ap (λ (p : Piece). same_pool p.pool r) e
              ∙ other,
          and-false (is_window x.piece.part),
          and-false (eqb x.piece.owner k),
        )))

  shut : (q : Pool) → open_range q (window_for k q []) ≡ []
  shut q = ap (open_range q) (window_for_none k q) ∙ range_of_closed q

  -- one pool after another, low before high
  pub ranges_of_two : (cl ch : List Piece) (ws : List Placed) → map (λ (x : Placed). x.piece) ws
      ≡ window_over k b low cl ++ window_over k b high ch
      → ((q : Pool) (x : Placed) → WindowAt q ws x → Edges q x.start (end_of x))
      → open_range Low (window_for k Low ws) ++ open_range High (window_for k High ws) ≡ map range_of ws
  ranges_of_two [] [] [] e d = rw (shut Low, shut High)
  ranges_of_two [] [] (x ∷ ws) e d = absurd (cons≢nil e)
  ranges_of_two [] (p ∷ ps) [] e d = absurd (cons≢nil (sym e))
  ranges_of_two [] (p ∷ ps) (x ∷ []) e d =
      let is = head-eq_of_cons-eq e in
      rw (
        miss x High _ _ is Low [] refl,
        shut Low,
        hit x High _ _ is [] (d High x (at_window x High _ _ is (x ∷ []) (Memᴰ.head refl))),
      )
  ranges_of_two [] (p ∷ ps) (x ∷ y ∷ ws) e d = absurd (cons≢nil (tail-eq_of_cons-eq e))
  ranges_of_two (p ∷ ps) [] [] e d = absurd (cons≢nil (sym e))
  ranges_of_two (p ∷ ps) [] (x ∷ []) e d =
      let is = head-eq_of_cons-eq e in
      rw (
        hit x Low _ _ is [] (d Low x (at_window x Low _ _ is (x ∷ []) (Memᴰ.head refl))),
        miss x Low _ _ is High [] refl,
        shut High,
      )
  ranges_of_two (p ∷ ps) [] (x ∷ y ∷ ws) e d = absurd (cons≢nil (tail-eq_of_cons-eq e))
  ranges_of_two (p ∷ ps) (r ∷ rs) [] e d = absurd (cons≢nil (sym e))
  ranges_of_two (p ∷ ps) (r ∷ rs) (x ∷ []) e d = absurd (cons≢nil (sym (tail-eq_of_cons-eq e)))
  ranges_of_two (p ∷ ps) (r ∷ rs) (x ∷ y ∷ []) e d =
      let is = head-eq_of_cons-eq e in
      let also = head-eq_of_cons-eq (tail-eq_of_cons-eq e) in
      rw (
        hit x Low _ _ is (y ∷ []) (d Low x (at_window x Low _ _ is (x ∷ y ∷ []) (Memᴰ.head refl))),
        miss x Low _ _ is High (y ∷ []) refl,
        hit y High _ _ also [] (d High y (at_window y High _ _ also (x ∷ y ∷ []) (Memᴰ.tail (Memᴰ.head refl)))),
      )
  ranges_of_two (p ∷ ps) (r ∷ rs) (x ∷ y ∷ z ∷ ws) e d = absurd (cons≢nil (tail-eq_of_cons-eq (tail-eq_of_cons-eq e)))

  pub ranges_of_one : (ci : List Piece) (ws : List Placed) → map (λ (x : Placed). x.piece) ws ≡ window_over k b io ci
      → ((q : Pool) (x : Placed) → WindowAt q ws x → Edges q x.start (end_of x))
      → open_range Io (window_for k Io ws) ≡ map range_of ws
  ranges_of_one [] [] e d = shut Io
  ranges_of_one [] (x ∷ ws) e d = absurd (cons≢nil e)
  ranges_of_one (p ∷ ps) [] e d = absurd (cons≢nil (sym e))
  ranges_of_one (p ∷ ps) (x ∷ []) e d =
      let is = head-eq_of_cons-eq e in
      hit x Io _ _ is [] (d Io x (at_window x Io _ _ is (x ∷ []) (Memᴰ.head refl)))
  ranges_of_one (p ∷ ps) (x ∷ y ∷ ws) e d = absurd (cons≢nil (tail-eq_of_cons-eq e))
