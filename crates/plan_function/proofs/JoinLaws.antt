-- The plan's registers of the record at index i, and the cursors after it, are those of one function from the cursors of its bus before it;
-- also with every address cut at a limit that nothing on the board passes. Assumes nothing.
use Rattle.std.specs.Prelude.{◌≡◌, refl, Bool, true, false, cond, ◌&&◌, List, [], ◌∷◌, map, ℕ, suc, ◌≤◌, ◌<◌, eqb, drop}
use Rattle.std.proofs.Common.{sym, ap₂, subst, ◌∙◌, arith}
use Rattle.std.proofs.Math.Path.{ap}
use Rattle.pools.specs.declared.Pool.{Pool}
use Rattle.bar.specs.declared.Slot.{Slot}
use Rattle.window.specs.Window.{closed, opened, bound}
use Rattle.lists.specs.Lists.{All}
use Rattle.lists.specs.ListLaws.{all_imp, all_drop, all_forall}
use Rattle.plan_rule.specs.Records.{Host, Function, Sized, Lawful, DepthFirst}
use Rattle.plan_rule.proofs.RecordLaws.{IsAt, ordered_from}
use Rattle.plan_rule.specs.Layout.{Placed, end_of}
use Rattle.plan_rule.specs.Pieces.{pieces, window_pieces, own_pieces}
use Rattle.plan_rule.proofs.PieceLaws.{BarsSized, Shaped, pieces_shaped}
use Rattle.plan_rule.specs.Placing.{Cursors, placed}
use Rattle.plan_rule.proofs.Placed.{in_pool_lem}
use Rattle.plan_rule.specs.Refusals.{Kept}
use Rattle.plan_rule.specs.declared.Extent.{Extent}
use Rattle.plan_rule.specs.Sizing.{bus_laid, laid_from, spared}
use Rattle.plan_rule.specs.Cap.{cap}
use Rattle.plan_rule.proofs.CapLaws.{cap_small}
use Rattle.plan_function.specs.Registers.{bars_from, is_part, is_window_in, bar_start, window_for, values_from}
use Rattle.plan_function.specs.Function.{Ends, bar_starts, after_bars, values_at, is_empty, window_start, window_stop, window_at}
use Rattle.plan_function.specs.Function.{after_function, below_function}
use Rattle.plan_function.specs.Pass.{cursors_at}
use Rattle.plan_function.proofs.PassLaws.{first_of, first_split, bar_start_split, cursors_at_step, record_split}
use Rattle.plan_function.proofs.FunctionLaws.{values_left, own_window, own_cursor, below_cursor, other_cursor}

-- ## Addresses that a cut leaves as they are

pub record Whole (cut : ℕ → ℕ) (xs : List Placed) : Type 0 where
  pub none : cut 0 ≡ 0
  pub starts : All (λ x. cut x.start ≡ x.start) xs
  pub ends : All (λ x. cut (end_of x) ≡ end_of x) xs

bar_start_whole : (cut : ℕ → ℕ) → cut 0 ≡ 0 → (xs : List Placed) → All (λ x. cut x.start ≡ x.start) xs
    → (k j : ℕ) → cut (bar_start k j xs) ≡ bar_start k j xs
unfolding bar_start
bar_start_whole cut z [] h k j = z
bar_start_whole cut z (x ∷ xs) h k j =
    go (eqb x.piece.owner k && is_part x.piece.part j) (bar_start_whole cut z xs h.1 k j)
  where
    go : (t : Bool) → cut (bar_start k j xs) ≡ bar_start k j xs → cut (cond t x.start (bar_start k j xs))
        ≡ cond t x.start (bar_start k j xs)
    go true ih = h.0
    go false ih = ih

window_for_whole : (cut : ℕ → ℕ) (xs : List Placed) → All (λ x. cut x.start ≡ x.start) xs → All (λ x. cut (end_of x) ≡ end_of x) xs
    → (k : ℕ) (q : Pool) → window_for k q xs ≡ first_of k (is_window_in q) (λ x. opened q (cut x.start) (cut (end_of x))) (closed q) xs
unfolding window_for first_of
window_for_whole cut [] h g k q = refl
window_for_whole cut (x ∷ xs) h g k q =
    ap₂ (cond (eqb x.piece.owner k && is_window_in q x)) (ap₂ (opened q) (sym h.0) (sym g.0))
    (window_for_whole cut xs h.1 g.1 k q)

-- ## The record at index i, with these slots

-- the cursors of its bus before it
abbrev pub bus_before : Host → List Function → ℕ → Function → Ends
bus_before h fs i f = cursors_at h fs i f.parent

-- what its own bus comes to, with its spare room
abbrev pub inside_of : List Function → ℕ → Function → Pool → Extent
inside_of fs i f = (spared f.spare_low (bus_laid fs (suc i) (laid_from (suc i)))).extent

module _ (h : Host) (fs : List Function) (lawful : Lawful fs) (i : ℕ) (f : Function) (at : IsAt fs i f) (ss : List Slot)
    (bars : f.bars ≡ bars_from 0 ss) where
  abbrev before : Ends
  before = bus_before h fs i f

  abbrev inner : Pool → Extent
  inner = inside_of fs i f

  sized_here : Sized (f ∷ drop (suc i) fs)
  sized_here = subst Sized at (all_drop BarsSized i fs lawful.sized)

  rest_shaped : All Shaped (pieces (suc (suc i)) (drop (suc i) fs))
  rest_shaped = pieces_shaped (suc (suc i)) (drop (suc i) fs) sized_here.1

  pub parent_lt : f.parent < suc i
  parent_lt =
      let o = ordered_from fs lawful.ordered i in
      let d : DepthFirst o.allowed (suc i) (f ∷ drop (suc i) fs) = subst (DepthFirst o.allowed (suc i)) at o.ordered in
      o.bounded f.parent d.0

  module _ (cut : ℕ → ℕ) (whole : Whole cut (placed h fs)) where
    pub values_cut : (rs : List ℕ) → values_from (suc i) 0 (placed h fs) ss rs ≡ values_at ss rs (map cut (bar_starts before ss))
    unfolding own_pieces
    values_cut rs =
        values_left (suc i) f.parent (placed h fs)
        (cond f.bridge (window_pieces (suc i) f.parent f.spare_low (pieces (suc (suc i)) (drop (suc i) fs))) [])
        cut
        (bar_start_whole cut whole.none (placed h fs) whole.starts (suc i))
        0
        ss
        rs
        (cursors_at h fs i)
        (λ j l. rw (← bars) (bar_start_split (record_split h fs lawful i f at) j))

    pub window_cut : f.bridge ≡ true → (q : Pool)
        → window_for (suc i) q (placed h fs)
        ≡ window_at q (is_empty (inner q)) (cut (window_start q (inner q) (after_bars before ss q)))
        (cut (window_stop q (inner q) (after_bars before ss q)))
    unfolding bus_laid
    window_cut b q =
        window_for_whole cut (placed h fs) whole.starts whole.ends (suc i) q
        ∙ first_split (record_split h fs lawful i f at) (is_window_in q) (λ x. opened q (cut x.start) (cut (end_of x))) (closed q)
        ∙ own_window (suc i) f ss (pieces (suc (suc i)) (drop (suc i) fs)) (cursors_at h fs i) bars parent_lt sized_here.0 rest_shaped
        (λ x. opened q (cut x.start) (cut (end_of x))) (closed q) b q

  -- ## The cursors after it

  pub cursor_own : (q : Pool) → cursors_at h fs (suc i) f.parent q ≡ after_function f.bridge ss inner before q
  unfolding bus_laid
  cursor_own q =
      ap (λ (c : Cursors). c f.parent q) (cursors_at_step h fs i f at)
      ∙ own_cursor (suc i) f ss (pieces (suc (suc i)) (drop (suc i) fs)) (cursors_at h fs i) bars parent_lt sized_here.0 rest_shaped q

  pub cursor_below : (q : Pool) → cursors_at h fs (suc i) (suc i) q ≡ below_function f.bridge ss inner before (cursors_at h fs i (suc i)) q
  unfolding bus_laid
  cursor_below q =
      ap (λ (c : Cursors). c (suc i) q) (cursors_at_step h fs i f at)
      ∙ below_cursor (suc i) f ss (pieces (suc (suc i)) (drop (suc i) fs)) (cursors_at h fs i) bars parent_lt sized_here.0 rest_shaped q

  pub cursor_other : (b : ℕ) (q : Pool) → (b ≡ f.parent → ⊥) → (b ≡ suc i → ⊥) → cursors_at h fs (suc i) b q ≡ cursors_at h fs i b q
  cursor_other b q np nk =
      ap (λ (c : Cursors). c b q) (cursors_at_step h fs i f at)
      ∙ other_cursor (suc i) f ss (pieces (suc (suc i)) (drop (suc i) fs)) (cursors_at h fs i) bars parent_lt sized_here.0
      rest_shaped b q np nk

-- ## Where every pool is kept

-- nothing runs out; pools end below 2^52, and within the addresses of their kind
pub record Room (h : Host) (fs : List Function) : Type 0 where
  pub kept : (q : Pool) → Kept h fs q
  pub low : (q : Pool) → h.last q < 4503599627370496
  pub fits : (q : Pool) → h.last q < bound q

pub all_in_pool : (h : Host) (fs : List Function) → Lawful fs → Room h fs
    → All (λ x. end_of x ≤ suc (h.last x.piece.pool)) (placed h fs)
all_in_pool h fs lawful room =
    all_imp _ _ (placed h fs) (all_forall _ (placed h fs) (λ (q : Pool). in_pool_lem h fs lawful q (room.kept q)))
    (λ x w. (w x.piece.pool refl).to_end)

-- so that a cut at 2^62 leaves every address as it is
pub whole_of_room : (h : Host) (fs : List Function) → Lawful fs → Room h fs → Whole cap (placed h fs)
whole_of_room h fs lawful room =
    record {
      none = refl;
      starts = all_imp _ _ (placed h fs) (all_in_pool h fs lawful room)
          (λ x l. cap_small x.start (omega (arith, room.low x.piece.pool)));
      ends = all_imp _ _ (placed h fs) (all_in_pool h fs lawful room)
          (λ x l. cap_small (end_of x) (omega (arith, room.low x.piece.pool)));
    }
