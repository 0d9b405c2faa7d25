-- The placed pieces of one record, in order: its BARs in slot order, then its windows, low before high. So the registers of a plan have
-- their BARs and windows in the order of the record's own. Assumes nothing.
use Rattle.std.specs.Prelude.{◌≡◌, Bool, not, ◌&&◌, ℕ, zero, suc, ◌+◌, ◌<◌, eqb, drop}
use Rattle.std.proofs.Math.Path.{refl, ap, ap₂}
use Rattle.std.proofs.Common.{sym, subst, ◌∙◌, arith}
use Rattle.std.proofs.Math.Bool.{true, false, cond, and-true, and-false}
use mathlib.Core.List.{List, [], ◌∷◌, ◌++◌, map, append-nil, cons≢nil, head-eq_of_cons-eq, tail-eq_of_cons-eq}
use borrow.Author.Tests.{eq-eqb, ne_eqb}
use Rattle.lists.specs.Lists.{◌∈◌, All, keep}
use Rattle.lists.specs.ListLaws.{all_imp, all_append, all_elim, all_intro}
use Rattle.lists.specs.KeepLaws.{keep_append, keep_agree, keep_elim, keep_all, keep_none, keep_and, map_keep}
use Rattle.pools.specs.declared.Space.{Space}
use Rattle.pools.specs.Pools.{in_space}
use Rattle.plan_rule.specs.Pools.{Pool, low, high, io}
use Rattle.plan_rule.specs.Records.{Bar, Host, Function, Lawful, Sized}
use Rattle.plan_rule.proofs.RecordLaws.{IsAt}
use Rattle.plan_rule.specs.Layout.{bar, window, Piece, Placed, is_window, start_at}
use Rattle.plan_rule.specs.Pieces.{bar_piece, bar_pieces, window_over, content_of, window_pieces, own_pieces, pieces}
use Rattle.plan_rule.proofs.PieceLaws.{own_pieces_lem, pieces_owner}
use Rattle.plan_rule.specs.Placing.{Cursors, moved, place, placed, from_bases}
use Rattle.walk.specs.Ranges.{Range}
use Rattle.plan_good.specs.Spaces.{range_pool}
use Rattle.plan_good.specs.Registers.{range_of, is_bar_of, is_window_of, bars_of}
use Rattle.plan_good.proofs.Items.{bar_of_is}

pieces_placed : (c : Cursors) (ps : List Piece) → map (λ (x : Placed). x.piece) (place c ps) ≡ ps
unfolding place
pieces_placed c [] = refl
pieces_placed c (p ∷ ps) = ap (p ∷◌) (pieces_placed (moved c p (start_at (c p.bus p.pool) p)) ps)

-- ---- of all pieces, one record's

abbrev is_own : ℕ → Piece → Bool
is_own k p = eqb p.owner k

module _ (m : ℕ) (f : Function) (fs : List Function) (h : Sized (f ∷ fs)) where
  own_here : keep (is_own m) (pieces m (f ∷ fs)) ≡ own_pieces m f (pieces (suc m) fs)
  unfolding pieces
  own_here =
      keep_append (is_own m) (own_pieces m f rest) rest
      ∙ ap₂ ◌++◌
      (keep_all (is_own m) _ (all_imp _ _ (own_pieces m f rest) (own_pieces_lem m f rest h.0) (λ p o. eq-eqb p.owner m o.owner_is)))
      (keep_none (is_own m) _
      (all_imp _ _ rest (pieces_owner (suc m) fs h.1) (λ p l. ne_eqb p.owner m (λ (e : p.owner ≡ m). omega arith))))
      ∙ append-nil (own_pieces m f rest)
    where
      rest : List Piece
      rest = pieces (suc m) fs

  own_later : (k : ℕ) → m < k → keep (is_own k) (pieces m (f ∷ fs)) ≡ keep (is_own k) (pieces (suc m) fs)
  unfolding pieces
  own_later k l =
      keep_append (is_own k) (own_pieces m f rest) rest
      ∙ ap (◌++ keep (is_own k) rest)
      (keep_none (is_own k) _
      (all_imp _ _ (own_pieces m f rest) (own_pieces_lem m f rest h.0)
      (λ p o. ne_eqb p.owner k (λ (e : p.owner ≡ k). omega (arith, o.owner_is)))))
    where
      rest : List Piece
      rest = pieces (suc m) fs

own_of_pieces : (i m k : ℕ) (fs : List Function) (f : Function) → Sized fs → m + i ≡ k → IsAt fs i f
    → keep (is_own k) (pieces m fs) ≡ own_pieces k f (pieces (suc k) (drop (suc i) fs))
own_of_pieces zero m k [] f h n e = absurd (cons≢nil (sym e))
own_of_pieces (suc i) m k [] f h n e = absurd (cons≢nil (sym e))
own_of_pieces zero m k (g ∷ fs) f h n e =
    let same : m ≡ k = omega arith in
    subst (λ (j : ℕ). keep (is_own j) (pieces m (g ∷ fs)) ≡ own_pieces j g (pieces (suc j) fs)) same (own_here m g fs h)
    ∙ ap (λ (x : Function). own_pieces k x (pieces (suc k) fs)) (head-eq_of_cons-eq e)
own_of_pieces (suc i) m k (g ∷ fs) f h n e = own_later m g fs h k (omega arith) ∙ own_of_pieces i (suc m) k fs f h.1 (omega arith) e

-- The placed pieces of record i + 1 are those that it puts there, in its order
pub pieces_of_record : (h : Host) (fs : List Function) → Lawful fs → (i : ℕ) (f : Function) → IsAt fs i f
    → map (λ (x : Placed). x.piece) (keep (λ x. eqb x.piece.owner (suc i)) (placed h fs))
    ≡ own_pieces (suc i) f (pieces (suc (suc i)) (drop (suc i) fs))
unfolding placed
pieces_of_record h fs lawful i f e =
    map_keep (is_own (suc i)) (λ (x : Placed). x.piece) (placed h fs)
    ∙ ap (keep (is_own (suc i))) (pieces_placed (from_bases h) (pieces 1 fs))
    ∙ own_of_pieces i 1 (suc i) fs f lawful.sized (omega arith) e

-- ---- of one record, the BARs and the windows of a space

abbrev is_bar : Space → Piece → Bool
is_bar sp p = in_space sp p.pool && not (is_window p.part)

abbrev is_window_in : Space → Piece → Bool
is_window_in sp p = in_space sp p.pool && is_window p.part

module _ (sp : Space) (k b : ℕ) where
  bars_keep : (bs : List Bar) → keep (is_bar sp) (bar_pieces k b bs) ≡ bar_pieces k b (keep (λ x. in_space sp x.pool) bs)
  unfolding keep bar_pieces
  bars_keep [] = refl
  bars_keep (x ∷ xs) = go (in_space sp x.pool) (bars_keep xs)
    where
      go : (a : Bool) → keep (is_bar sp) (bar_pieces k b xs) ≡ bar_pieces k b (keep (λ y. in_space sp y.pool) xs)
          → cond (a && true) (bar_piece k b x ∷ keep (is_bar sp) (bar_pieces k b xs)) (keep (is_bar sp) (bar_pieces k b xs))
          ≡ bar_pieces k b (cond a (x ∷ keep (λ y. in_space sp y.pool) xs) (keep (λ y. in_space sp y.pool) xs))
      go true e = ap (bar_piece k b x ∷◌) e
      go false e = e

  bars_no_window : (bs : List Bar) → keep (is_window_in sp) (bar_pieces k b bs) ≡ []
  unfolding keep bar_pieces
  bars_no_window [] = refl
  bars_no_window (x ∷ xs) = go (in_space sp x.pool) (bars_no_window xs)
    where
      go : (a : Bool) → keep (is_window_in sp) (bar_pieces k b xs) ≡ []
          → cond (a && false) (bar_piece k b x ∷ keep (is_window_in sp) (bar_pieces k b xs)) (keep (is_window_in sp) (bar_pieces k b xs)) ≡ []
      go true e = e
      go false e = e

  are_windows : (n : ℕ) (rest : List Piece) (t : Bool) → All (λ p. p.part ≡ window) (cond t (window_pieces k b n rest) [])
  unfolding window_pieces
  are_windows n rest false = tt
  are_windows n rest true =
      all_append _ (over low) _ (window_over_lem low (content_of k n low rest))
      (all_append _ (over high) _ (window_over_lem high (content_of k n high rest)) (window_over_lem io (content_of k n io rest)))
    where
      over : Pool → List Piece
      over q = window_over k b q (content_of k n q rest)

      window_over_lem : (q : Pool) (content : List Piece) → All (λ p. p.part ≡ window) (window_over k b q content)
      window_over_lem q [] = tt
      window_over_lem q (c ∷ cs) = (refl, tt)

  module _ (n : ℕ) (rest : List Piece) (t : Bool) where
    abbrev ws : List Piece
    ws = cond t (window_pieces k b n rest) []

    windows_no_bar : keep (is_bar sp) (cond t (window_pieces k b n rest) []) ≡ []
    windows_no_bar =
        keep_none (is_bar sp) ws
        (all_imp _ (λ (p : Piece). is_bar sp p ≡ false) ws (are_windows n rest t)
        (λ p (e : p.part ≡ window). rw e (and-false (in_space sp p.pool))))

    windows_keep : keep (is_window_in sp) (cond t (window_pieces k b n rest) [])
        ≡ keep (λ p. in_space sp p.pool) (cond t (window_pieces k b n rest) [])
    windows_keep =
        keep_agree (is_window_in sp) _ ws (λ p m. rw (all_elim _ ws (are_windows n rest t) m) (and-true (in_space sp p.pool)))

-- The range of a BAR whose slot j is placed at `start j`
abbrev pub bar_range : (ℕ → ℕ) → Bar → Range
bar_range start x = record { pool = range_pool x.pool; start = start x.slot; stop = start x.slot + x.size }

module _ (sp : Space) (h : Host) (fs : List Function) (lawful : Lawful fs) (i : ℕ) (f : Function) (at : IsAt fs i f) where
  rest : List Piece
  rest = pieces (suc (suc i)) (drop (suc i) fs)

  -- The placed BARs of record i + 1 in the space are its BARs of that space in slot order
  bars_of_record : map (λ (x : Placed). x.piece) (keep (is_bar_of sp (suc i)) (placed h fs))
      ≡ bar_pieces (suc i) f.parent (keep (λ x. in_space sp x.pool) f.bars)
  unfolding placed own_pieces rest
  bars_of_record =
      map_keep (λ p. is_own (suc i) p && is_bar sp p) (λ (x : Placed). x.piece) (placed h fs)
      ∙ ap (keep (λ p. is_own (suc i) p && is_bar sp p)) (pieces_placed (from_bases h) (pieces 1 fs))
      ∙ keep_and (is_own (suc i)) (is_bar sp) (pieces 1 fs)
      ∙ ap (keep (is_bar sp)) (own_of_pieces i 1 (suc i) fs f lawful.sized (omega arith) at)
      ∙ keep_append (is_bar sp) (bar_pieces (suc i) f.parent f.bars) _
      ∙ ap₂ ◌++◌ (bars_keep sp (suc i) f.parent f.bars) (windows_no_bar sp (suc i) f.parent f.spare_low rest f.bridge)
      ∙ append-nil _

  -- Its placed windows in the space are those that it puts there, low before high; only a bridge has any
  pub windows_of_record : map (λ (x : Placed). x.piece) (keep (is_window_of sp (suc i)) (placed h fs))
      ≡ keep (λ p. in_space sp p.pool) (cond f.bridge (window_pieces (suc i) f.parent f.spare_low
      (pieces (suc (suc i)) (drop (suc i) fs))) [])
  unfolding placed own_pieces rest
  windows_of_record =
      map_keep (λ p. is_own (suc i) p && is_window_in sp p) (λ (x : Placed). x.piece) (placed h fs)
      ∙ ap (keep (λ p. is_own (suc i) p && is_window_in sp p)) (pieces_placed (from_bases h) (pieces 1 fs))
      ∙ keep_and (is_own (suc i)) (is_window_in sp) (pieces 1 fs)
      ∙ ap (keep (is_window_in sp)) (own_of_pieces i 1 (suc i) fs f lawful.sized (omega arith) at)
      ∙ keep_append (is_window_in sp) (bar_pieces (suc i) f.parent f.bars) _
      ∙ ap₂ ◌++◌ (bars_no_window sp (suc i) f.parent f.bars) (windows_keep sp (suc i) f.parent f.spare_low rest f.bridge)

  -- So, where BAR j of the record starts at `start j`, its registers are its BARs of the space from there on, in slot order
  pub bars_at_lem : (start : ℕ → ℕ) →
      ((x : Placed) (j : ℕ) → x ∈ placed h fs → x.piece.owner ≡ suc i → x.piece.part ≡ bar j → x.start ≡ start j)
      → bars_of sp (placed h fs) (suc i) ≡ map (bar_range start) (keep (λ x. in_space sp x.pool) f.bars)
  unfolding bar_pieces
  bars_at_lem start starts = go (keep (is_bar_of sp (suc i)) (placed h fs)) (keep (λ x. in_space sp x.pool) f.bars) bars_of_record known
    where
      Known : Placed → Type 0
      Known x = (j : ℕ) → x.piece.part ≡ bar j → x.start ≡ start j

      known : All Known (keep (is_bar_of sp (suc i)) (placed h fs))
      known =
          all_intro Known _ (λ x m j e.
          let s = keep_elim (is_bar_of sp (suc i)) (placed h fs) m in
          starts x j s.0 (bar_of_is sp (suc i) x s.1).owner_is e)

      go : (xs : List Placed) (bs : List Bar) → map (λ (x : Placed). x.piece) xs ≡ bar_pieces (suc i) f.parent bs → All Known xs
          → map range_of xs ≡ map (bar_range start) bs
      go [] [] e k = refl
      go [] (b ∷ bs) e k = absurd (cons≢nil (sym e))
      go (x ∷ xs) [] e k = absurd (cons≢nil e)
      go (x ∷ xs) (b ∷ bs) e k =
          let piece : x.piece ≡ bar_piece (suc i) f.parent b = head-eq_of_cons-eq e in
          let starts_there = k.0 b.slot (ap (λ (p : Piece). p.part) piece) in
          ap₂ ◌∷◌
          (ap₂ (λ (p : Piece) (n : ℕ). range_of (record { piece = p; start = n })) piece starts_there)
          (go xs bs (tail-eq_of_cons-eq e) k.1)
