-- The items of pieces: of two lists, one after the other; and of pieces on one bus, in one pool, a layout. Assumes nothing.
use Rattle.std.specs.Prelude.{◌≡◌, Bool, true, false, ℕ}
use Rattle.std.proofs.Math.Path.{refl, ap}
use Rattle.std.proofs.Common.{ap₂, ◌∙◌}
use Rattle.std.proofs.Math.Logic.{⊎_elim}
use mathlib.Core.List.{List, [], ◌∷◌, ◌++◌, map}
use borrow.Author.Tests.{eq-eqb}
use Rattle.arith.specs.BoolLaws.{true_or_false}
use Rattle.lists.specs.Lists.{All, keep}
use Rattle.plan_rule.specs.Pools.{Pool, same_pool}
use Rattle.plan_rule.proofs.PoolLaws.{eq_of_same_pool}
use Rattle.plan_rule.specs.Layout.{Piece, select, end_at, layout_end}
use Rattle.plan_rule.specs.Placing.{Cursors, is_window_of, cursors_after}
use Rattle.plan_rule.proofs.PlacingLaws.{after}
use Rattle.plan_items.specs.declared.Told.{Told}
use Rattle.plan_items.specs.Items.{Item, item_at, items_from}
use Rattle.plan_items.specs.Walk.{told_of}

abbrev pub of_pool : Pool → Item → Bool
of_pool q x = same_pool x.piece.pool q

-- those of pool q, as the walk tells them
abbrev pub told_in : Pool → List Item → List Told
told_in q xs = map told_of (keep (of_pool q) xs)

pub items_append : (c : Cursors) (ps rs : List Piece) → items_from c (ps ++ rs) ≡ items_from c ps ++ items_from (cursors_after c ps) rs
unfolding items_from cursors_after
items_append c [] rs = refl
items_append c (p ∷ ps) rs = ap (λ (l : List Item). item_at (c p.bus p.pool) p ∷ l) (items_append (after c p) ps rs)

pub all_items : (P : Piece → Type 0) (c : Cursors) (ps : List Piece) → All P ps → All (λ x. P x.piece) (items_from c ps)
unfolding items_from
all_items P c [] h = tt
all_items P c (p ∷ ps) h = (h.0, all_items P (after c p) ps h.1)

-- ## On one bus, in one pool

-- laid out one after another from e
unfoldable pub items_laid : ℕ → List Piece → List Item
items_laid e [] = []
items_laid e (p ∷ ps) = item_at e p ∷ items_laid (end_at e p) ps

pub items_laid_append : (e : ℕ) (ps rs : List Piece) → items_laid e (ps ++ rs) ≡ items_laid e ps ++ items_laid (layout_end e ps) rs
unfolding items_laid layout_end
items_laid_append e [] rs = refl
items_laid_append e (p ∷ ps) rs = ap (λ (l : List Item). item_at e p ∷ l) (items_laid_append (end_at e p) ps rs)

module _ (b : ℕ) (q : Pool) where
  -- on bus b, which it does not open
  abbrev pub OnBus : Piece → Type 0
  OnBus p = (p.bus ≡ b) × (is_window_of b q p ≡ false)

  end_before : (c : Cursors) (p : Piece) → p.bus ≡ b → same_pool p.pool q ≡ true → c p.bus p.pool ≡ c b q
  end_before c p on e = let same : p.pool ≡ q = eq_of_same_pool p.pool q e in cc

  moves : (c : Cursors) (p : Piece) → OnBus p → same_pool p.pool q ≡ true → after c p b q ≡ end_at (c b q) p
  moves c p h e = rw (h.1, eq-eqb p.bus b h.0, e) (ap (λ (n : ℕ). end_at n p) (end_before c p h.0 e))

  stays : (c : Cursors) (p : Piece) → OnBus p → same_pool p.pool q ≡ false → after c p b q ≡ c b q
  stays c p h e = rw (h.1, eq-eqb p.bus b h.0, e)

  pub items_select : (c : Cursors) (ps : List Piece) → All OnBus ps → keep (of_pool q) (items_from c ps) ≡ items_laid (c b q) (select b q ps)
  unfolding items_from items_laid keep
  items_select c [] h = refl
  items_select c (p ∷ ps) h =
      ⊎_elim
      (λ (e : same_pool p.pool q ≡ true).
      rw (e, eq-eqb p.bus b h.0.0)
      (ap₂ (λ (n : ℕ) (l : List Item). item_at n p ∷ l) (end_before c p h.0.0 e)
      (items_select (after c p) ps h.1 ∙ ap (λ (n : ℕ). items_laid n (select b q ps)) (moves c p h.0 e))))
      (λ (e : same_pool p.pool q ≡ false).
      rw (e, eq-eqb p.bus b h.0.0)
      (items_select (after c p) ps h.1 ∙ ap (λ (n : ℕ). items_laid n (select b q ps)) (stays c p h.0 e)))
      (true_or_false (same_pool p.pool q))
