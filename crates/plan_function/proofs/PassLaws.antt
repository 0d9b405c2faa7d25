-- The pass by index: what lies before a record, its own pieces, what comes after; so that a record's registers are told by its own pieces.
-- Assumes nothing.
use Rattle.std.specs.Prelude.{◌≡◌, Bool, false, cond, ◌&&◌, ℕ, zero, suc, ◌+◌, ◌<◌, eqb, drop}
use Rattle.std.proofs.Math.Path.{refl, ap}
use Rattle.std.proofs.Common.{sym, ◌∙◌, arith, add-zero, ne_eqb}
use mathlib.Core.List.{List, [], ◌∷◌, ◌++◌, append_assoc, cons≢nil}
use Rattle.std.proofs.Math.Seq.{drop-nil}
use Rattle.lists.specs.Lists.{All}
use Rattle.lists.specs.ListLaws.{all_imp, all_append}
use Rattle.plan_rule.specs.Records.{Host, Function, Sized, Lawful}
use Rattle.plan_rule.proofs.RecordLaws.{IsAt}
use Rattle.plan_rule.specs.Layout.{Piece, Placed}
use Rattle.plan_rule.specs.Pieces.{own_pieces, pieces}
use Rattle.plan_rule.proofs.PieceLaws.{own_pieces_lem, pieces_owner}
use Rattle.plan_rule.specs.Placing.{Cursors, from_bases, place, cursors_after, placed}
use Rattle.plan_rule.proofs.PlacingLaws.{place_record, all_place}
use Rattle.plan_function.specs.Registers.{is_part, bar_start}
use Rattle.plan_function.specs.Pass.{cursors_from, cursors_at}

-- ## The first of record k that passes a test

module _ {A : Type 0} (k : ℕ) (t : Placed → Bool) (g : Placed → A) (d : A) where
  unfoldable pub first_of : List Placed → A
  first_of [] = d
  first_of (x ∷ xs) = let later = first_of xs in cond (eqb x.piece.owner k && t x) (g x) later

  first_skip : (xs ys : List Placed) → All (λ x. (eqb x.piece.owner k && t x) ≡ false) xs → first_of (xs ++ ys) ≡ first_of ys
  unfolding first_of
  first_skip [] ys h = refl
  first_skip (x ∷ xs) ys h = rw h.0 (first_skip xs ys h.1)

  first_none : (xs : List Placed) → All (λ x. (eqb x.piece.owner k && t x) ≡ false) xs → first_of xs ≡ d
  unfolding first_of
  first_none [] h = refl
  first_none (x ∷ xs) h = rw h.0 (first_none xs h.1)

  first_append : (xs ys : List Placed) → All (λ x. (eqb x.piece.owner k && t x) ≡ false) ys → first_of (xs ++ ys) ≡ first_of xs
  unfolding first_of
  first_append [] ys h = first_none ys h
  first_append (x ∷ xs) ys h = ap (cond (eqb x.piece.owner k && t x) (g x)) (first_append xs ys h)

bar_start_first : (k j : ℕ) (xs : List Placed) → bar_start k j xs ≡ first_of k (λ x. is_part x.piece.part j) (λ x. x.start) 0 xs
unfolding bar_start first_of
bar_start_first k j [] = refl
bar_start_first k j (x ∷ xs) = ap (cond (eqb x.piece.owner k && is_part x.piece.part j) x.start) (bar_start_first k j xs)

-- ## What lies before record k, its own, and what comes after

pub record Split (k : ℕ) (own xs : List Placed) : Type 0 where
  pub before : List Placed
  pub after : List Placed
  pub earlier : All (λ x. x.piece.owner < k) before
  pub later : All (λ x. k < x.piece.owner) after
  pub parts : xs ≡ before ++ (own ++ after)

module _ {A : Type 0} {k : ℕ} {own xs : List Placed} (s : Split k own xs) (t : Placed → Bool) (g : Placed → A) (d : A) where
  other : (x : Placed) → (x.piece.owner ≡ k → ⊥) → (eqb x.piece.owner k && t x) ≡ false
  other x n = rw (ne_eqb x.piece.owner k n)

  pub first_split : first_of k t g d xs ≡ first_of k t g d own
  first_split =
      ap (first_of k t g d) s.parts
      ∙ first_skip k t g d s.before (own ++ s.after) (all_imp _ _ s.before s.earlier (λ x l. other x (λ e. omega arith)))
      ∙ first_append k t g d own s.after (all_imp _ _ s.after s.later (λ x l. other x (λ e. omega arith)))

pub bar_start_split : {k : ℕ} {own xs : List Placed} → Split k own xs → (j : ℕ) → bar_start k j xs ≡ bar_start k j own
bar_start_split {k} {own} {xs} s j = bar_start_first k j xs ∙ first_split s _ _ 0 ∙ sym (bar_start_first k j own)

-- ## The record at index i

-- the pieces of the records after index i, the first of which has number k
abbrev pub later : ℕ → ℕ → List Function → List Piece
later k i fs = pieces (suc (k + i)) (drop (suc i) fs)

head_is : (g f : Function) (gs fs : List Function) → ◌≡◌ {A = List Function} (g ∷ gs) (f ∷ fs) → g ≡ f
head_is g f gs fs e = cc

cursors_from_step : (c : Cursors) (k : ℕ) (fs : List Function) (i : ℕ) (f : Function) → IsAt fs i f
    → cursors_from c k fs (suc i) ≡ cursors_after (cursors_from c k fs i) (own_pieces (k + i) f (later k i fs))
unfolding cursors_from
cursors_from_step c k [] i f e = absurd (cons≢nil (sym e ∙ drop-nil i))
cursors_from_step c k (g ∷ fs) zero f e = rw (add-zero k, head_is g f fs fs e)
cursors_from_step c k (g ∷ fs) (suc i) f e =
    let s : suc k + i ≡ k + suc i = omega arith in
    rw (← s) (cursors_from_step (cursors_after c (own_pieces k g (pieces (suc k) fs))) (suc k) fs i f e)

place_split : (c : Cursors) (k : ℕ) (fs : List Function) (i : ℕ) (f : Function) → Sized fs → IsAt fs i f
    → Split (k + i) (place (cursors_from c k fs i) (own_pieces (k + i) f (later k i fs))) (place c (pieces k fs))
unfolding cursors_from
place_split c k [] i f z e = absurd (cons≢nil (sym e ∙ drop-nil i))
place_split c k (g ∷ fs) zero f z e =
    let own = own_pieces k g (pieces (suc k) fs) in
    rw (add-zero k, ← head_is g f fs fs e)
    (record {
      before = [];
      after = place (cursors_after c own) (pieces (suc k) fs);
      earlier = tt;
      later = all_place (λ p. k < p.owner) (cursors_after c own) (pieces (suc k) fs) (pieces_owner (suc k) fs z.1);
      parts = place_record c k g fs;
    })
place_split c k (g ∷ fs) (suc i) f z e =
    let own = own_pieces k g (pieces (suc k) fs) in
    let s : suc k + i ≡ k + suc i = omega arith in
    let ih = place_split (cursors_after c own) (suc k) fs i f z.1 e in
    let mine = all_place (λ p. p.owner ≡ k) c own (all_imp _ _ own (own_pieces_lem k g (pieces (suc k) fs) z.0) (λ p o. o.owner_is)) in
    rw (← s)
    (record {
      before = place c own ++ ih.before;
      after = ih.after;
      earlier = all_append _ (place c own) ih.before (all_imp _ _ (place c own) mine (λ x l. omega arith)) ih.earlier;
      later = ih.later;
      parts = place_record c k g fs ∙ ap (λ (l : List Placed). place c own ++ l) ih.parts
          ∙ sym (append_assoc (place c own) ih.before _);
    })

-- a record's own pieces, by its index
abbrev pub own_at : List Function → ℕ → Function → List Piece
own_at fs i f = own_pieces (suc i) f (pieces (suc (suc i)) (drop (suc i) fs))

pub cursors_at_step : (h : Host) (fs : List Function) (i : ℕ) (f : Function) → IsAt fs i f
    → cursors_at h fs (suc i) ≡ cursors_after (cursors_at h fs i) (own_at fs i f)
cursors_at_step h fs i f e = let s : 1 + i ≡ suc i = omega arith in rw s at (cursors_from_step (from_bases h) 1 fs i f e)

pub cursors_at_start : (h : Host) (fs : List Function) → cursors_at h fs 0 ≡ from_bases h
unfolding cursors_from
cursors_at_start h fs = refl

pub record_split : (h : Host) (fs : List Function) → Lawful fs → (i : ℕ) (f : Function) → IsAt fs i f
    → Split (suc i) (place (cursors_at h fs i) (own_at fs i f)) (placed h fs)
unfolding placed
record_split h fs lawful i f e = let s : 1 + i ≡ suc i = omega arith in rw s at (place_split (from_bases h) 1 fs i f lawful.sized e)
