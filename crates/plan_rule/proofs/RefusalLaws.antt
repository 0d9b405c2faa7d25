-- The refusals both ways: a pool runs out exactly when a root bus item ends past it, and so exactly when the root bus has something of
-- that pool and its layout from the base ends past it; and which number comes first. Assumes nothing.
use Rattle.std.specs.Prelude.{◌≡◌, refl, ◌↔◌, Bool, true, false, cond, ◌&&◌, ◌||◌, List, [], ◌∷◌, ℕ, suc, ◌+◌, ◌≤◌, ◌<◌, max, ltb}
use Rattle.std.proofs.Common.{sym, ap, ◌∙◌, ⊎_elim, arith, ltb-true, ltb-false, lt-ltb, le-ltb}
use Rattle.std.proofs.Math.Bool.{or-false}
use Rattle.arith.specs.BoolLaws.{true_or_false, both_of_and}
use Rattle.lists.specs.Lists.{All, Some, any}
use Rattle.lists.specs.ListLaws.{all_imp, some_imp}
use Rattle.lists.specs.KeepLaws.{all_keep, any_of_some, some_of_any, all_of_none, none_of_all, any_keep}
use Rattle.plan_rule.specs.Pools.{Pool, low, high, io}
use Rattle.plan_rule.proofs.PoolLaws.{On, on_of_is_on, is_on_of_on}
use Rattle.plan_rule.specs.Records.{Host, Function, Lawful}
use Rattle.plan_rule.specs.Layout.{Piece, Placed, end_of, is_on, select, is_placed_on, end_at, layout, layout_end, largest_align}
use Rattle.plan_rule.proofs.LayoutLaws.{HasAlign, le_layout_end}
use Rattle.plan_rule.specs.Pieces.{pieces}
use Rattle.plan_rule.proofs.PieceLaws.{Shaped, has_align, pieces_shaped}
use Rattle.plan_rule.specs.Placing.{placed}
use Rattle.plan_rule.proofs.Placed.{well_placed}
use Rattle.plan_rule.specs.Numbering.{bridges}
use Rattle.plan_rule.specs.Refusals.{out_of_buses, is_past, out_of_pool, Kept, refusal_of}

-- A root bus item of pool q with its last byte above the pool's last
pub record Past (h : Host) (q : Pool) (x : Placed) : Type 0 where
  pub root : On 0 q x.piece
  pub beyond : suc (h.last q) < end_of x

module _ (h : Host) (q : Pool) (x : Placed) where
  past_of_is_past : is_past h q x ≡ true → Past h q x
  past_of_is_past e =
      let b = both_of_and (is_placed_on 0 q x) (ltb (suc (h.last q)) (end_of x)) e in
      record { root = on_of_is_on 0 q x.piece b.0; beyond = ltb-true (suc (h.last q)) (end_of x) b.1 }

  is_past_of_past : Past h q x → is_past h q x ≡ true
  is_past_of_past p = rw (is_on_of_on 0 q x.piece p.root) (lt-ltb (suc (h.last q)) (end_of x) p.beyond)

  kept_of_not_past : is_past h q x ≡ false → x.piece.bus ≡ 0 → x.piece.pool ≡ q → end_of x ≤ suc (h.last q)
  kept_of_not_past e b p =
      ltb-false (suc (h.last q)) (end_of x) (rw (is_on_of_on 0 q x.piece (record { bus = b; pool = p })) at e)

  not_past_of_kept : (x.piece.bus ≡ 0 → x.piece.pool ≡ q → end_of x ≤ suc (h.last q)) → is_past h q x ≡ false
  not_past_of_kept k =
      ⊎_elim
      (λ e. let p = past_of_is_past e in absurd (omega (arith, p.beyond, k p.root.bus p.root.pool)))
      (λ e. e)
      (true_or_false (is_past h q x))

module _ (h : Host) (fs : List Function) (q : Pool) where
  pub out_of_pool_iff : (out_of_pool h fs q ≡ true) ↔ Some (Past h q) (placed h fs)
  unfolding out_of_pool
  out_of_pool_iff = (
    λ e. some_imp _ _ (past_of_is_past h q) (placed h fs) (some_of_any (is_past h q) (placed h fs) e),
    λ s. any_of_some (is_past h q) (placed h fs) (some_imp _ _ (is_past_of_past h q) (placed h fs) s),
  )

  pub kept_iff : (out_of_pool h fs q ≡ false) ↔ Kept h fs q
  unfolding out_of_pool
  kept_iff = (
    λ e. all_imp _ _ (placed h fs) (all_of_none (is_past h q) (placed h fs) e) (kept_of_not_past h q),
    λ k. none_of_all (is_past h q) (placed h fs) (all_imp _ _ (placed h fs) k (not_past_of_kept h q)),
  )

-- Some item of a layout ends past l exactly when the last does
layout_past : (l e : ℕ) (p : Piece) (ps : List Piece) → All HasAlign ps
    → any (λ x. ltb l (end_of x)) (layout e (p ∷ ps)) ≡ ltb l (layout_end e (p ∷ ps))
unfolding any layout layout_end
layout_past l e p [] h = or-false (ltb l (end_at e p))
layout_past l e p (r ∷ ps) h = rw (layout_past l (end_at e p) r ps h.1) (go (ltb l (end_at e p)) refl)
  where
    go : (b : Bool) → ltb l (end_at e p) ≡ b → (b || ltb l (layout_end (end_at e p) (r ∷ ps))) ≡ ltb l (layout_end (end_at e p) (r ∷ ps))
    go true g =
        sym (lt-ltb l (layout_end (end_at e p) (r ∷ ps)) (omega (arith, ltb-true l (end_at e p) g, le_layout_end (end_at e p) (r ∷ ps) h)))
    go false g = refl

-- What the planner tests: is there anything, and does the layout from the base end past the pool?
pub out_of_pool_end : (h : Host) (fs : List Function) → Lawful fs → (q : Pool)
    → out_of_pool h fs q
    ≡ (ltb 0 (largest_align (select 0 q (pieces 1 fs))) && ltb (suc (h.last q)) (layout_end (h.base q) (select 0 q (pieces 1 fs))))
unfolding out_of_pool any layout largest_align
out_of_pool_end h fs lawful q =
    any_keep (is_placed_on 0 q) (λ x. ltb (suc (h.last q)) (end_of x)) (placed h fs)
    ∙ ap (any (λ x. ltb (suc (h.last q)) (end_of x))) ((well_placed h fs lawful).rooted q)
    ∙ go (select 0 q (pieces 1 fs))
    (all_imp _ _ (select 0 q (pieces 1 fs)) (all_keep (is_on 0 q) Shaped (pieces 1 fs) (pieces_shaped 1 fs lawful.sized)) has_align)
  where
    go : (content : List Piece) → All HasAlign content
        → any (λ x. ltb (suc (h.last q)) (end_of x)) (layout (h.base q) content)
        ≡ (ltb 0 (largest_align content) && ltb (suc (h.last q)) (layout_end (h.base q) content))
    go [] a = refl
    go (p ∷ ps) a = rw (lt-ltb 0 (max p.align (largest_align ps)) (omega (arith, a.0)))
        (layout_past (suc (h.last q)) (h.base q) p ps a.1)

abbrev pub BusesKept : Host → List Function → Type 0
BusesKept h fs = h.first_bus + bridges fs ≤ h.last_bus

abbrev pub PoolPast : Host → List Function → Pool → Type 0
PoolPast h fs q = Some (Past h q) (placed h fs)

-- The number is that of the first thing that runs out, and 0 where nothing does
pub record RefusalLaw (h : Host) (fs : List Function) : Type 0 where
  pub none_iff : (refusal_of h fs ≡ 0) ↔ (BusesKept h fs × Kept h fs low × Kept h fs high × Kept h fs io)
  pub buses_iff : (refusal_of h fs ≡ 30) ↔ (h.last_bus < h.first_bus + bridges fs)
  pub low_iff : (refusal_of h fs ≡ 31) ↔ (BusesKept h fs × PoolPast h fs low)
  pub high_iff : (refusal_of h fs ≡ 32) ↔ (BusesKept h fs × Kept h fs low × PoolPast h fs high)
  pub io_iff : (refusal_of h fs ≡ 33) ↔ (BusesKept h fs × Kept h fs low × Kept h fs high × PoolPast h fs io)

abbrev first_of : Bool → Bool → Bool → Bool → ℕ
first_of a b c d = cond a 30 (cond b 31 (cond c 32 (cond d 33 0)))

first_none : (a b c d : Bool) → first_of a b c d ≡ 0 → (a ≡ false) × (b ≡ false) × (c ≡ false) × (d ≡ false)
first_none true b c d e = absurd (omega arith)
first_none false true c d e = absurd (omega arith)
first_none false false true d e = absurd (omega arith)
first_none false false false true e = absurd (omega arith)
first_none false false false false e = (refl, refl, refl, refl)

first_buses : (a b c d : Bool) → first_of a b c d ≡ 30 → a ≡ true
first_buses true b c d e = refl
first_buses false true c d e = absurd (omega arith)
first_buses false false true d e = absurd (omega arith)
first_buses false false false true e = absurd (omega arith)
first_buses false false false false e = absurd (omega arith)

first_low : (a b c d : Bool) → first_of a b c d ≡ 31 → (a ≡ false) × (b ≡ true)
first_low true b c d e = absurd (omega arith)
first_low false true c d e = (refl, refl)
first_low false false true d e = absurd (omega arith)
first_low false false false true e = absurd (omega arith)
first_low false false false false e = absurd (omega arith)

first_high : (a b c d : Bool) → first_of a b c d ≡ 32 → (a ≡ false) × (b ≡ false) × (c ≡ true)
first_high true b c d e = absurd (omega arith)
first_high false true c d e = absurd (omega arith)
first_high false false true d e = (refl, refl, refl)
first_high false false false true e = absurd (omega arith)
first_high false false false false e = absurd (omega arith)

first_io : (a b c d : Bool) → first_of a b c d ≡ 33 → (a ≡ false) × (b ≡ false) × (c ≡ false) × (d ≡ true)
first_io true b c d e = absurd (omega arith)
first_io false true c d e = absurd (omega arith)
first_io false false true d e = absurd (omega arith)
first_io false false false true e = (refl, refl, refl, refl)
first_io false false false false e = absurd (omega arith)

pub refusal_law : (h : Host) (fs : List Function) → RefusalLaw h fs
unfolding refusal_of
refusal_law h fs =
    record {
      none_iff = (
        λ e. let g = first_none a b c d
            e in (kept g.0, (kept_iff h fs low).0 g.1, (kept_iff h fs high).0 g.2, (kept_iff h fs io).0 g.3),
        λ g. rw (below g.0, (kept_iff h fs low).1 g.1, (kept_iff h fs high).1 g.2, (kept_iff h fs io).1 g.3),
      );
      buses_iff = (
        λ e. ltb-true h.last_bus (h.first_bus + bridges fs) (first_buses a b c d e),
        λ g. rw
            (lt-ltb h.last_bus (h.first_bus + bridges fs) g),
      );
      low_iff = (
        λ e. let g = first_low a b c d e in (kept g.0, (out_of_pool_iff h fs low).0 g.1),
        λ g. rw (below g.0, (out_of_pool_iff h fs low).1 g.1),
      );
      high_iff = (
        λ e. let g = first_high a b c d e in (kept g.0, (kept_iff h fs low).0 g.1, (out_of_pool_iff h fs high).0 g.2),
        λ g. rw (below g.0, (kept_iff h fs low).1 g.1, (out_of_pool_iff h fs high).1 g.2),
      );
      io_iff = (
        λ e.
            let g = first_io a b c d e in
            (kept g.0, (kept_iff h fs low).0 g.1, (kept_iff h fs high).0 g.2, (out_of_pool_iff h fs io).0 g.3),
        λ g. rw (below g.0, (kept_iff h fs low).1 g.1, (kept_iff h fs high).1 g.2, (out_of_pool_iff h fs io).1 g.3),
      );
    }
  where
    a : Bool
    a = out_of_buses h fs

    b : Bool
    b = out_of_pool h fs low

    c : Bool
    c = out_of_pool h fs high

    d : Bool
    d = out_of_pool h fs io

    kept : a ≡ false → BusesKept h fs
    kept e = ltb-false h.last_bus (h.first_bus + bridges fs) e

    below : BusesKept h fs → a ≡ false
    below g = le-ltb h.last_bus (h.first_bus + bridges fs) g
