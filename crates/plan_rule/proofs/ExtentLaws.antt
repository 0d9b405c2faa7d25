-- What the records add to a bus, in the words of the walk that sizes it: a record of another bus is skipped, a record of this bus adds its
-- BARs and a bridge's windows, and the run below a later bridge adds nothing. Assumes nothing.
use Rattle.std.proofs.Math.Path.{◌≡◌, refl, ap}
use Rattle.std.proofs.Common.{sym, ap₂, ◌∙◌, ⊎_elim, arith, add-zero, eq-eqb, ne_eqb, leb-true, le-leb}
use Rattle.std.specs.Prelude.{Bool, ℕ, suc, ◌+◌, ◌≤◌, ◌<◌, max, eqb, leb, length, drop}
use Rattle.std.proofs.Math.Bool.{true, false, cond}
use mathlib.Core.List.{List, [], ◌∷◌, ◌++◌, append-nil}
use Rattle.arith.specs.BoolLaws.{true_or_false}
use Rattle.lists.specs.Lists.{All, keep, front}
use Rattle.lists.specs.ListLaws.{all_imp}
use Rattle.lists.specs.KeepLaws.{keep_none, keep_append}
use Rattle.plan_rule.specs.Pools.{Pool, low, high, io, same_pool}
use Rattle.plan_rule.proofs.PoolLaws.{is_on_of_ne}
use Rattle.plan_rule.specs.Records.{Bar, Function, Sized, run}
use Rattle.plan_rule.specs.Layout.{Piece, is_on, select, layout_end, largest_align}
use Rattle.plan_rule.proofs.LayoutLaws.{HasAlign, le_largest_align}
use Rattle.plan_rule.specs.Pieces.{window_size, window_align, window_piece, window_over, spare_if, spare_pieces, content_of, bar_piece}
use Rattle.plan_rule.specs.Pieces.{bar_pieces, window_pieces, own_pieces, pieces}
use Rattle.plan_rule.proofs.PieceLaws.{BarsSized, own_pieces_lem, Shaped, has_align, content_shaped}
use Rattle.plan_rule.specs.declared.Extent.{Extent}
use Rattle.plan_rule.specs.Sizing.{nothing, grow, extend, with_bars, with_window}
use Rattle.plan_rule.specs.Sizing.{window_for, spare_grown, with_spare}

-- What an extent says
pub extend_end : (e : Extent) (ps : List Piece) → (extend e ps).end ≡ layout_end e.end ps
unfolding extend layout_end
extend_end e [] = refl
extend_end e (p ∷ ps) = extend_end (grow e p.size p.align) ps

pub extend_align : (e : Extent) (ps : List Piece) → (extend e ps).align ≡ max e.align (largest_align ps)
unfolding extend largest_align
extend_align e [] = omega arith
extend_align e (p ∷ ps) = extend_align (grow e p.size p.align) ps ∙ omega arith

pub extend_nil : (e : Extent) → extend e [] ≡ e
unfolding extend
extend_nil e = refl

pub extend_append : (e : Extent) (ps qs : List Piece) → extend e (ps ++ qs) ≡ extend (extend e ps) qs
unfolding extend
extend_append e [] qs = refl
extend_append e (p ∷ ps) qs = extend_append (grow e p.size p.align) ps qs

-- A record's own pieces, in the walk's words
module _ (k b : ℕ) (q : Pool) where
  extend_bars : (e : Extent) (bs : List Bar) → extend e (select b q (bar_pieces k b bs)) ≡ with_bars q e bs
  unfolding extend with_bars bar_pieces keep
  extend_bars e [] = refl
  extend_bars e (x ∷ xs) = rw (eq-eqb b b refl) (go (same_pool x.pool q) (extend_bars e xs) (extend_bars (grow e x.size x.size) xs))
    where
      go : (t : Bool) → extend e (select b q (bar_pieces k b xs)) ≡ with_bars q e xs
          → extend (grow e x.size x.size) (select b q (bar_pieces k b xs)) ≡ with_bars q (grow e x.size x.size) xs
          → extend e (cond t (bar_piece k b x ∷ select b q (bar_pieces k b xs)) (select b q (bar_pieces k b xs)))
          ≡ with_bars q (cond t (grow e x.size x.size) e) xs
      go true h g = g
      go false h g = h

  -- Of the three windows only that of pool q is of pool q
  keep_window : (r : Pool) (content : List Piece) → select b q (window_over k b r content)
      ≡ cond (same_pool r q) (window_over k b r content) []
  unfolding keep
  keep_window r [] = go (same_pool r q)
    where
      go : (t : Bool) → ◌≡◌ {A = List Piece} [] (cond t [] [])
      go true = refl
      go false = refl
  keep_window r (c ∷ cs) = rw (eq-eqb b b refl)

  -- A window over its content, in the walk's words
  pub window_over_extent : (content : List Piece) → All HasAlign content → window_over k b q content
      ≡ window_for k b q (extend nothing content)
  window_over_extent [] h = rw (extend_nil nothing)
  window_over_extent (c ∷ cs) h =
      let x : Extent = extend nothing (c ∷ cs) in
      let size : x.end ≡ layout_end 0 (c ∷ cs) = extend_end nothing (c ∷ cs) in
      let align : x.align ≡ largest_align (c ∷ cs) = extend_align nothing (c ∷ cs) ∙ omega arith in
      let some : eqb x.align 0 ≡ false = ne_eqb x.align 0 (λ z. omega (arith, align, (le_largest_align (c ∷ cs)).0, h.0)) in
      sym (rw some (ap₂ (λ (n m : ℕ). window_piece k b q n m ∷ []) size align))

  extend_window : (e : Extent) (content : List Piece) → All HasAlign content → extend e (window_over k b q content)
      ≡ with_window q e (extend nothing content)
  unfolding extend
  extend_window e content h = ap (extend e) (window_over_extent content h) ∙ go (extend nothing content)
    where
      go : (x : Extent) → extend e (window_for k b q x) ≡ with_window q e x
      go x = settle (eqb x.align 0)
        where
          settle : (t : Bool) → extend e (cond t [] (window_piece k b q x.end x.align ∷ []))
              ≡ cond t e (grow e (window_size q x.end) (window_align q x.align))
          settle true = refl
          settle false = refl

-- The spare room, in the walk's words
extend_spare : (k n : ℕ) (q : Pool) (e : Extent) → extend e (spare_pieces k n q) ≡ with_spare q n e
unfolding extend
extend_spare k n low e = go (eqb n 0)
  where
    go : (t : Bool) → extend e (spare_if t k n) ≡ spare_grown t e n
    go true = refl
    go false = refl
extend_spare k n high e = refl
extend_spare k n io e = refl

pub extend_content : (k n : ℕ) (q : Pool) (rest : List Piece)
    → extend nothing (content_of k n q rest) ≡ with_spare q n (extend nothing (select k q rest))
extend_content k n q rest =
    extend_append nothing (select k q rest) (spare_pieces k n q) ∙ extend_spare k n q (extend nothing (select k q rest))

pub select_windows : (k b n : ℕ) (q : Pool) (rest : List Piece)
    → select b q (window_pieces k b n rest) ≡ window_over k b q (content_of k n q rest)
unfolding window_pieces
select_windows k b n q rest =
    keep_append (is_on b q) (w low) (w high ++ w io)
    ∙ ap₂ (λ (x y : List Piece). x ++ y) (keep_window k b q low (content_of k n low rest))
    (keep_append (is_on b q) (w high) (w io)
    ∙ ap₂ (λ (x y : List Piece). x ++ y) (keep_window k b q high (content_of k n high rest)) (keep_window k b q io (content_of k n io rest)))
    ∙ pick q
  where
    w : Pool → List Piece
    w r = window_over k b r (content_of k n r rest)

    pick : (r : Pool) → cond (same_pool low r) (w low) [] ++ (cond (same_pool high r) (w high) [] ++ cond (same_pool io r) (w io) []) ≡ w r
    pick low = append-nil (w low)
    pick high = append-nil (w high)
    pick io = refl

-- What a record adds to its own bus
pub extend_own : (k : ℕ) (f : Function) (rest : List Piece) → All Shaped rest → (q : Pool) (e : Extent)
    → extend e (select f.parent q (own_pieces k f rest))
    ≡ cond f.bridge (with_window q (with_bars q e f.bars) (with_spare q f.spare_low (extend nothing (select k q rest))))
    (with_bars q e f.bars)
unfolding own_pieces
extend_own k f rest h q e =
    ap (extend e) (keep_append (is_on b q) (bar_pieces k b f.bars) (cond f.bridge (window_pieces k f.parent f.spare_low rest) []))
    ∙ extend_append e (select b q (bar_pieces k b f.bars)) (select b q
    (cond f.bridge (window_pieces k f.parent f.spare_low rest) []))
    ∙ ap (λ (x : Extent). extend x (select b q (cond f.bridge (window_pieces k f.parent f.spare_low rest) [])))
    (extend_bars k b q e f.bars)
    ∙ go f.bridge
  where
    b : ℕ
    b = f.parent

    a : Extent
    a = with_bars q e f.bars

    go : (t : Bool) → extend a (select b q (cond t (window_pieces k f.parent f.spare_low rest) []))
        ≡ cond t (with_window q a (with_spare q f.spare_low (extend nothing (select k q rest)))) a
    go true =
        ap (extend a) (select_windows k f.parent f.spare_low q rest)
        ∙ extend_window k b q a (content_of k f.spare_low q rest)
        (all_imp _ _ (content_of k f.spare_low q rest) (content_shaped k f.spare_low q rest h) has_align)
        ∙ ap (with_window q a) (extend_content k f.spare_low q rest)
    go false = ap (extend a) (keep_none (is_on b q) [] tt) ∙ extend_nil a

-- A record of another bus is skipped
pub select_skip : (b : ℕ) (q : Pool) (k : ℕ) (f : Function) (fs : List Function) → BarsSized f → (f.parent ≡ b → ⊥)
    → select b q (pieces k (f ∷ fs)) ≡ select b q (pieces (suc k) fs)
unfolding pieces
select_skip b q k f fs h n =
    let rest = pieces (suc k) fs in
    keep_append (is_on b q) (own_pieces k f rest) rest
    ∙ ap (λ (l : List Piece). l ++ select b q rest)
    (keep_none (is_on b q) (own_pieces k f rest)
    (all_imp _ _ (own_pieces k f rest) (own_pieces_lem k f rest h) (λ p o. is_on_of_ne b q p (λ g. n (sym o.bus_is ∙ g)))))

-- A record of this bus goes before the rest
pub select_own : (q : Pool) (k : ℕ) (f : Function) (fs : List Function)
    → select f.parent q (pieces k (f ∷ fs)) ≡ select f.parent q (own_pieces k f (pieces (suc k) fs)) ++ select f.parent q
    (pieces (suc k) fs)
unfolding pieces
select_own q k f fs = keep_append (is_on f.parent q) (own_pieces k f (pieces (suc k) fs)) (pieces (suc k) fs)

-- The run below a later bridge has nothing on an earlier bus
pub select_past_run : (b c : ℕ) (q : Pool) (k : ℕ) (fs : List Function) → Sized fs → b < c
    → select b q (pieces k fs) ≡ select b q (pieces (k + length (run c fs)) (drop (length (run c fs)) fs))
unfolding front
select_past_run b c q k [] h l = ap (λ (n : ℕ). select b q (pieces n [])) (sym (add-zero k))
select_past_run b c q k (f ∷ fs) h l =
    ⊎_elim (under (select_past_run b c q (suc k) fs h.1 l)) past (true_or_false (leb c f.parent))
  where
    Goal : Type 0
    Goal = select b q (pieces k (f ∷ fs)) ≡ select b q (pieces (k + length (run c (f ∷ fs))) (drop (length (run c (f ∷ fs))) (f ∷ fs)))

    under : select b q (pieces (suc k) fs) ≡ select b q (pieces (suc k + length (run c fs)) (drop (length (run c fs)) fs))
        → leb c f.parent ≡ true → Goal
    under ih e =
        rw e
        (select_skip b q k f fs h.0 (λ g. omega (arith, leb-true c f.parent e))
        ∙ ih
        ∙ ap (λ (n : ℕ). select b q (pieces n (drop (length (run c fs)) fs))) (omega arith))

    past : leb c f.parent ≡ false → Goal
    past e = rw e (ap (λ (n : ℕ). select b q (pieces n (f ∷ fs))) (sym (add-zero k)))

-- The run below a bridge starts with the runs below its own bridges
pub length_run_run : (b c : ℕ) (fs : List Function) → b ≤ c
    → length (run b fs) ≡ length (run c fs) + length (run b (drop (length (run c fs)) fs))
unfolding front
length_run_run b c [] l = refl
length_run_run b c (f ∷ fs) l = ⊎_elim (under (length_run_run b c fs l)) past (true_or_false (leb c f.parent))
  where
    Goal : Type 0
    Goal = length (run b (f ∷ fs)) ≡ length (run c (f ∷ fs)) + length (run b (drop (length (run c (f ∷ fs))) (f ∷ fs)))

    under : length (run b fs) ≡ length (run c fs) + length (run b (drop (length (run c fs)) fs)) → leb c f.parent ≡ true → Goal
    under ih e = rw (e, le-leb b f.parent (omega (arith, leb-true c f.parent e))) (omega (arith, ih))

    past : leb c f.parent ≡ false → Goal
    past e = rw e (omega arith)
