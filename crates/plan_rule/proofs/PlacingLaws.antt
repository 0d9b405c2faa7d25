-- The laws of the pass that places: what it puts on one bus in one pool is a layout, from where the bus's window opened it.
-- Assumes nothing.
use Rattle.std.specs.Prelude.{◌≡◌, false, ℕ, suc}
use Rattle.std.proofs.Math.Path.{refl, sym, ap}
use Rattle.std.proofs.Common.{ap₂, ◌∙◌, inl, inr}
use Rattle.std.proofs.Math.Logic.{⊎_elim}
use Rattle.std.proofs.Math.Bool.{true}
use mathlib.Core.List.{List, [], ◌∷◌, ◌++◌}
use Rattle.arith.specs.BoolLaws.{true_or_false}
use Rattle.arith.specs.AlignLaws.{align_up_multiple}
use Rattle.lists.specs.Lists.{All, Some, Pairwise, keep}
use Rattle.lists.specs.ListLaws.{all_imp}
use Rattle.lists.specs.KeepLaws.{keep_none}
use Rattle.plan_rule.specs.Pools.{Pool}
use Rattle.plan_rule.proofs.PoolLaws.{on_of_is_on}
use Rattle.plan_rule.specs.Layout.{Piece, Placed, is_on, select, select_placed, start_at, end_at, layout, layout_end}
use Rattle.plan_rule.proofs.LayoutLaws.{HasAlign, Aligned}
use Rattle.plan_rule.specs.Records.{Function}
use Rattle.plan_rule.specs.Pieces.{own_pieces, pieces}
use Rattle.plan_rule.specs.Placing.{Cursors, is_window_of, moved, place, cursors_after}

-- The cursors after one piece
abbrev pub after : Cursors → Piece → Cursors
after c p = moved c p (start_at (c p.bus p.pool) p)

pub place_append : (c : Cursors) (ps qs : List Piece) → place c (ps ++ qs) ≡ place c ps ++ place (cursors_after c ps) qs
unfolding place cursors_after
place_append c [] qs = refl
place_append c (p ∷ ps) qs =
    ap (λ (l : List Placed). record { piece = p; start = start_at (c p.bus p.pool) p } ∷ l) (place_append (after c p) ps qs)

-- Record by record: a record's own pieces, then those of the later records
pub place_record : (c : Cursors) (k : ℕ) (f : Function) (fs : List Function)
    → let own = own_pieces k f (pieces (suc k) fs) in
    place c (pieces k (f ∷ fs)) ≡ place c own ++ place (cursors_after c own) (pieces (suc k) fs)
unfolding pieces
place_record c k f fs = place_append c (own_pieces k f (pieces (suc k) fs)) (pieces (suc k) fs)

pub all_place : (P : Piece → Type 0) (c : Cursors) (ps : List Piece) → All P ps → All (λ x. P x.piece) (place c ps)
unfolding place
all_place P c [] h = tt
all_place P c (p ∷ ps) h = (h.0, all_place P (after c p) ps h.1)

pub some_place : (P : Piece → Type 0) (c : Cursors) (ps : List Piece) → Some P ps → Some (λ x. P x.piece) (place c ps)
unfolding place
some_place P c [] h = h
some_place P c (p ∷ ps) (inl h) = inl h
some_place P c (p ∷ ps) (inr h) = inr (some_place P (after c p) ps h)

pub place_aligned : (c : Cursors) (ps : List Piece) → All HasAlign ps → All Aligned (place c ps)
unfolding place
place_aligned c [] h = tt
place_aligned c (p ∷ ps) h = (align_up_multiple p.align h.0 (c p.bus p.pool), place_aligned (after c p) ps h.1)

module _ (b : ℕ) (q : Pool) where
  -- No window of the list opens bus b in pool q
  abbrev pub Unopened : List Piece → Type 0
  Unopened = All (λ p. is_window_of b q p ≡ false)

  after_on : (c : Cursors) (p : Piece) → is_window_of b q p ≡ false → is_on b q p ≡ true → after c p b q ≡ end_at (c b q) p
  after_on c p w e =
      let o = on_of_is_on b q p e in
      rw (w, e) (ap (λ (n : ℕ). end_at n p) (cc (o.bus, o.pool)))

  after_off : (c : Cursors) (p : Piece) → is_window_of b q p ≡ false → is_on b q p ≡ false → after c p b q ≡ c b q
  after_off c p w e = rw (w, e)

  start_on : (c : Cursors) (p : Piece) → is_on b q p ≡ true → start_at (c p.bus p.pool) p ≡ start_at (c b q) p
  start_on c p e = let o = on_of_is_on b q p e in ap (λ (n : ℕ). start_at n p) (cc (o.bus, o.pool))

  pub place_select : (c : Cursors) (ps : List Piece) → Unopened ps → select_placed b q (place c ps) ≡ layout (c b q) (select b q ps)
  unfolding place layout keep
  place_select c [] h = refl
  place_select c (p ∷ ps) h =
      ⊎_elim
      (λ (e : is_on b q p ≡ true).
      rw e
      (ap₂
      (λ (n : ℕ) (l : List Placed). record { piece = p; start = n } ∷ l)
      (start_on c p e)
      (place_select (after c p) ps h.1 ∙ ap (λ (n : ℕ). layout n (select b q ps)) (after_on c p h.0 e))))
      (λ (e : is_on b q p ≡ false).
      rw e (place_select (after c p) ps h.1 ∙ ap (λ (n : ℕ). layout n (select b q ps)) (after_off c p h.0 e)))
      (true_or_false (is_on b q p))

  pub cursors_select : (c : Cursors) (ps : List Piece) → Unopened ps → cursors_after c ps b q ≡ layout_end (c b q) (select b q ps)
  unfolding cursors_after layout_end keep
  cursors_select c [] h = refl
  cursors_select c (p ∷ ps) h = ⊎_elim
      (λ (e : is_on b q p ≡ true). rw e
      (cursors_select (after c p) ps h.1 ∙ ap (λ (n : ℕ). layout_end n (select b q ps)) (after_on c p h.0 e)))
      (λ (e : is_on b q p ≡ false). rw e
      (cursors_select (after c p) ps h.1 ∙ ap (λ (n : ℕ). layout_end n (select b q ps)) (after_off c p h.0 e)))
      (true_or_false (is_on b q p))

  -- Where no piece of the list is on bus b, and one window at most opens it, it stands open at that window's start
  pub opened_at : (c : Cursors) (ps : List Piece) → All (λ p. is_on b q p ≡ false) ps
      → Pairwise (λ p r. is_window_of b q p ≡ true → is_window_of b q r ≡ false) ps
      → All (λ x. is_window_of b q x.piece ≡ true → x.start ≡ cursors_after c ps b q) (place c ps)
  unfolding place cursors_after layout_end
  opened_at c [] h d = tt
  opened_at c (p ∷ ps) h d = (here, opened_at (after c p) ps h.1 d.1)
    where
      here : is_window_of b q p ≡ true → start_at (c p.bus p.pool) p ≡ cursors_after (after c p) ps b q
      here e =
          let none : Unopened ps = all_imp _ _ ps d.0 (λ r g. g e) in
          let stands : after c p b q ≡ start_at (c p.bus p.pool) p = rw e in
          let empty : select b q ps ≡ [] = keep_none (is_on b q) ps h.1 in
          sym (cursors_select (after c p) ps none ∙ ap (layout_end (after c p b q)) empty ∙ stands)
