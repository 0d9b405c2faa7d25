-- A record's own pieces placed, in the words of one function: its BARs' starts, its windows, and the cursors after it. Assumes nothing.
use Rattle.std.specs.Prelude.{◌≡◌, Bool, ◌&&◌, eqb, get_or, drop}
use Rattle.std.proofs.Math.Path.{refl, ap, ap₂}
use Rattle.std.proofs.Common.{sym, subst, ◌∙◌, true≢false, eq-eqb, ne_eqb}
use Rattle.std.proofs.Math.Logic.{⊎_elim}
use Rattle.std.proofs.Math.Bool.{true, false, cond}
use mathlib.Core.List.{List, [], ◌∷◌, ◌++◌, map, append-nil}
use Prim.Native.Nat.{ℕ, suc, ◌+◌, ◌≤◌, ◌<◌}
use native.Mathlib.Omega.{arith}
use Rattle.arith.specs.BoolLaws.{true_or_false, both_of_and}
use Rattle.arith.specs.Align.{align_up}
use Rattle.pools.specs.declared.Pool.{Pool}
use Rattle.pools.specs.declared.Pool.TheVariants.{Low as low, High as high, Io as io}
use Rattle.pools.specs.Pools.{same_pool}
use Rattle.bar.specs.declared.Slot.{Slot}
use Rattle.bar.specs.declared.Slot.TheVariants.{Unused, Bar, Upper, Bad}
use Rattle.bar.specs.Values.{value_of, registers_of}
use Rattle.lists.specs.Lists.{All, keep}
use Rattle.lists.specs.ListLaws.{all_append, all_imp, all_imp₂}
use Rattle.lists.specs.KeepLaws.{all_keep, all_of_keep, keep_none, keep_append}
use Rattle.plan_rule.proofs.PoolLaws.{same_pool_refl, eq_of_same_pool, is_on_of_on, is_on_of_ne}
use Rattle.plan_rule.specs.Records.{Function}
use Rattle.plan_rule.specs.Records as placing
use Rattle.plan_rule.proofs.RecordLaws.{false_of_not}
use Rattle.plan_rule.specs.Layout.{Piece, Placed, is_window, is_on, select, is_placed_on, select_placed, start_at, end_at}
use Rattle.plan_rule.specs.Layout.{layout, layout_end}
use Rattle.plan_rule.proofs.LayoutLaws.{layout_end_append}
use Rattle.plan_rule.specs.Pieces.{window_piece, window_over, bar_piece, bar_pieces, content_of, window_pieces, own_pieces}
use Rattle.plan_rule.proofs.PieceLaws.{Own, BarsSized, own_pieces_lem, Shaped, has_align, content_shaped, window_of_is, own_one}
use Rattle.plan_rule.specs.Placing.{Cursors, is_window_of, place, cursors_after}
use Rattle.plan_rule.proofs.PlacingLaws.{after, Unopened, all_place, place_select, cursors_select, opened_at}
use Rattle.plan_rule.specs.declared.Extent.{Extent}
use Rattle.plan_rule.specs.Sizing.{nothing, extend, with_spare}
use Rattle.plan_rule.specs.Sizing as sizing
use Rattle.plan_rule.proofs.ExtentLaws.{window_over_extent, extend_content, select_windows}
use Rattle.plan_function.specs.Registers.{bars_from, is_window_in, bar_start, values_from}
use Rattle.plan_function.specs.Function.{Ends, after_bar, bar_starts, after_bars, values_at, is_empty, window_start, window_stop}
use Rattle.plan_function.specs.Function.{after_function, below_function}
use Rattle.plan_function.proofs.PassLaws.{first_of}

-- ## BARs

-- the cursors of the BAR's own bus, after it
after_bar_lem : (k b s : ℕ) (q : Pool) (wide : Bool) (z : ℕ) (c : Cursors)
    → after c (bar_piece k b (record { slot = s; pool = q; size = z })) b ≡ after_bar (c b) (Bar q wide z)
after_bar_lem k b s q wide z c = λ i p. each p i
  where
    each : (p : Pool) → cond (eqb b b && same_pool q p) (align_up z (c b q) + z) (c b p) ≡ cond (same_pool q p) (align_up z (c b q) + z) (c b p)
    each p = rw (eq-eqb b b refl)

-- xs is what the board has; from slot s on its BARs of record k are those of the pieces still to be placed
abbrev pub Left : ℕ → ℕ → List Placed → List Piece → ℕ → List Slot → Cursors → Type 0
Left k b xs w s ss c = (j : ℕ) → s ≤ j → bar_start k j xs ≡ bar_start k j (place c (bar_pieces k b (bars_from s ss) ++ w))

module _ (k b : ℕ) (xs : List Placed) (w : List Piece) (cut : ℕ → ℕ) (same : (j : ℕ) → cut (bar_start k j xs) ≡ bar_start k j xs) where
  pub values_left : (s : ℕ) (ss : List Slot) (rs : List ℕ) (c : Cursors) → Left k b xs w s ss c
      → values_from k s xs ss rs ≡ values_at ss rs (map cut (bar_starts (c b) ss))
  unfolding values_from values_at bar_starts bars_from bar_start bar_pieces place
  values_left s [] rs c h = refl
  values_left s (Unused ∷ ss) rs c h = ap (λ (l : List ℕ). 0 ∷ l) (values_left (suc s) ss (drop 1 rs) c (λ j l. h j (omega arith)))
  values_left s (Upper ∷ ss) rs c h = values_left (suc s) ss (drop 1 rs) c (λ j l. h j (omega arith))
  values_left s (Bad ∷ ss) rs c h = ap (λ (l : List ℕ). 0 ∷ l) (values_left (suc s) ss (drop 1 rs) c (λ j l. h j (omega arith)))
  values_left s (Bar q wide z ∷ ss) rs c h = ap₂
      (λ (n : ℕ) (l : List ℕ). registers_of (Bar q wide z) (value_of (Bar q wide z) (get_or rs 0 0) n) ++ l)
      (sym (same s) ∙ ap cut here)
      (values_left (suc s) ss (drop 1 rs) (after c p) next
      ∙ ap (λ (e : Ends). values_at ss (drop 1 rs) (map cut (bar_starts e ss))) (after_bar_lem k b s q wide z c))
    where
      p : Piece
      p = bar_piece k b (record { slot = s; pool = q; size = z })

      here : bar_start k s xs ≡ align_up z (c b q)
      here = h s (omega arith) ∙ rw (eq-eqb k k refl, eq-eqb s s refl)

      next : Left k b xs w (suc s) ss (after c p)
      next j m = h j (omega arith) ∙ rw (eq-eqb k k refl, ne_eqb s j (λ e. omega arith))

-- what a record has besides are windows
pub windows_only : (k b n : ℕ) (rest : List Piece) (t : Bool) → All (λ p. is_window p.part ≡ true) (cond t (window_pieces k b n rest) [])
unfolding window_pieces
windows_only k b n rest false = tt
windows_only k b n rest true =
    all_append _ (window_over k b low (content_of k n low rest)) _ (over low (content_of k n low rest))
    (all_append _ (window_over k b high (content_of k n high rest)) _ (over high (content_of k n high rest)) (over io (content_of k n io rest)))
  where
    over : (q : Pool) (content : List Piece) → All (λ p. is_window p.part ≡ true) (window_over k b q content)
    over q [] = tt
    over q (c ∷ cs) = (refl, tt)

-- where the BARs of pool q end
module _ (k b : ℕ) (q : Pool) where
  layout_end_bars : (e s : ℕ) (ss : List Slot) (c : Ends) → e ≡ c q → layout_end e (select b q (bar_pieces k b (bars_from s ss)))
      ≡ after_bars c ss q
  unfolding layout_end keep bar_pieces bars_from after_bars
  layout_end_bars e s [] c h = h
  layout_end_bars e s (Unused ∷ ss) c h = layout_end_bars e (suc s) ss c h
  layout_end_bars e s (Upper ∷ ss) c h = layout_end_bars e (suc s) ss c h
  layout_end_bars e s (Bad ∷ ss) c h = layout_end_bars e (suc s) ss c h
  layout_end_bars e s (Bar p wide z ∷ ss) c h =
      rw (eq-eqb b b refl) (go (same_pool p q) refl (λ n. layout_end_bars n (suc s) ss (after_bar c (Bar p wide z))))
    where
      rest : List Piece
      rest = select b q (bar_pieces k b (bars_from (suc s) ss))

      x : Piece
      x = bar_piece k b (record { slot = s; pool = p; size = z })

      go : (t : Bool) → same_pool p q ≡ t
          → ((n : ℕ) → n ≡ after_bar c (Bar p wide z) q → layout_end n rest ≡ after_bars (after_bar c (Bar p wide z)) ss q)
          → layout_end e (cond t (x ∷ rest) rest) ≡ after_bars (after_bar c (Bar p wide z)) ss q
      go true t ih = ih (end_at e x) (rw t (ap (λ (n : ℕ). align_up z n + z) (h ∙ ap c (sym (eq_of_same_pool p q t)))))
      go false t ih = ih e (rw t h)

  bars_no_window : (s : ℕ) (ss : List Slot) → All (λ p. is_window p.part ≡ false) (select b q (bar_pieces k b (bars_from s ss)))
  unfolding keep bar_pieces bars_from
  bars_no_window s [] = tt
  bars_no_window s (Unused ∷ ss) = bars_no_window (suc s) ss
  bars_no_window s (Upper ∷ ss) = bars_no_window (suc s) ss
  bars_no_window s (Bad ∷ ss) = bars_no_window (suc s) ss
  bars_no_window s (Bar p wide z ∷ ss) = go (eqb b b && same_pool p q) (bars_no_window (suc s) ss)
    where
      rest : List Piece
      rest = select b q (bar_pieces k b (bars_from (suc s) ss))

      go : (t : Bool) → All (λ p. is_window p.part ≡ false) rest
          → All (λ p. is_window p.part ≡ false) (cond t (bar_piece k b (record { slot = s; pool = p; size = z }) ∷ rest) rest)
      go true h = (refl, h)
      go false h = h

-- ## A layout whose first pieces are no windows

module _ {A : Type 0} (k : ℕ) (q : Pool) (g : Placed → A) (d : A) where
  first_past_bars : (e : ℕ) (ps ws : List Piece) → All (λ p. is_window p.part ≡ false) ps
      → first_of k (is_window_in q) g d (layout e (ps ++ ws)) ≡ first_of k (is_window_in q) g d (layout (layout_end e ps) ws)
  unfolding layout layout_end first_of
  first_past_bars e [] ws h = refl
  first_past_bars e (p ∷ ps) ws h = go (eqb p.owner k) (first_past_bars (end_at e p) ps ws h.1)
    where
      go : (t : Bool) → first_of k (is_window_in q) g d (layout (end_at e p) (ps ++ ws))
          ≡ first_of k (is_window_in q) g d (layout (layout_end (end_at e p) ps) ws)
          → cond (t && (is_window p.part && same_pool p.pool q)) (g (record { piece = p; start = start_at e p }))
          (first_of k (is_window_in q) g d (layout (end_at e p) (ps ++ ws)))
          ≡ first_of k (is_window_in q) g d (layout (layout_end (end_at e p) ps) ws)
      go true ih = rw h.0 ih
      go false ih = ih

  -- what a search passes over need not be kept
  first_keep : (t : Placed → Bool) (xs : List Placed) → All (λ x. (eqb x.piece.owner k && is_window_in q x) ≡ true → t x ≡ true) xs
      → first_of k (is_window_in q) g d xs ≡ first_of k (is_window_in q) g d (keep t xs)
  unfolding keep first_of
  first_keep t [] h = refl
  first_keep t (x ∷ xs) h = ⊎_elim (kept (first_keep t xs h.1)) (left (first_keep t xs h.1)) (true_or_false (t x))
    where
      rest : List Placed
      rest = keep t xs

      found : Bool
      found = eqb x.piece.owner k && is_window_in q x

      kept : first_of k (is_window_in q) g d xs ≡ first_of k (is_window_in q) g d rest → t x ≡ true
          → cond found (g x) (first_of k (is_window_in q) g d xs) ≡ first_of k (is_window_in q) g d (cond (t x) (x ∷ rest) rest)
      kept ih e = rw e (ap (cond found (g x)) ih)

      left : first_of k (is_window_in q) g d xs ≡ first_of k (is_window_in q) g d rest → t x ≡ false
          → cond found (g x) (first_of k (is_window_in q) g d xs) ≡ first_of k (is_window_in q) g d (cond (t x) (x ∷ rest) rest)
      left ih e = rw (e, false_of_not found (λ f. true≢false (sym (h.0 f) ∙ e))) ih

all_past : (P : Placed → Type 0) (e : ℕ) (ps ws : List Piece) → All P (layout e (ps ++ ws)) → All P (layout (layout_end e ps) ws)
unfolding layout layout_end
all_past P e [] ws h = h
all_past P e (p ∷ ps) ws h = all_past P (end_at e p) ps ws h.1

-- ## A record's own pieces

-- record k with these slots, on bus b, from cursors c; `rest` is what the later records place
module _ (k : ℕ) (f : Function) (ss : List Slot) (rest : List Piece) (c : Cursors) (bars : f.bars ≡ bars_from 0 ss) (before : f.parent < k)
    (sized : BarsSized f) (shaped : All Shaped rest) where
  abbrev own : List Piece
  own = own_pieces k f rest

  abbrev b : ℕ
  b = f.parent

  -- what its bus comes to, with its spare room
  abbrev inner : Pool → Extent
  inner q = with_spare q f.spare_low (extend nothing (select k q rest))

  owns : All (Own k f rest) own
  owns = own_pieces_lem k f rest sized

  abbrev windows_in : Pool → List Piece
  windows_in q = cond f.bridge (sizing.window_for k b q (inner q)) []

  -- on its bus in pool q: its BARs, then a bridge's window
  pub select_own : (q : Pool) → select b q own ≡ select b q (bar_pieces k b (bars_from 0 ss)) ++ windows_in q
  unfolding own_pieces
  select_own q =
      keep_append (is_on b q) (bar_pieces k b f.bars) (cond f.bridge (window_pieces k f.parent f.spare_low rest) [])
      ∙ ap₂ (λ (x y : List Piece). x ++ y) (ap (λ (l : List placing.Bar). select b q (bar_pieces k b l)) bars) (go f.bridge)
    where
      go : (t : Bool) → select b q (cond t (window_pieces k f.parent f.spare_low rest) [])
          ≡ cond t (sizing.window_for k b q (inner q)) []
      go true =
          select_windows k f.parent f.spare_low q rest
          ∙ window_over_extent k b q (content_of k f.spare_low q rest)
          (all_imp _ _ (content_of k f.spare_low q rest) (content_shaped k f.spare_low q rest shaped) has_align)
          ∙ ap (sizing.window_for k b q) (extend_content k f.spare_low q rest)
      go false = keep_none (is_on b q) [] tt

  unopened : (n : ℕ) (q : Pool) → (n ≡ k → ⊥) → Unopened n q own
  unopened n q ne =
      all_imp _ _ own owns (λ p o. false_of_not (is_window_of n q p) (λ e. ne (sym (window_of_is n q p e).owner_is ∙ o.owner_is)))

  abbrev bars_in : Pool → List Piece
  bars_in q = select b q (bar_pieces k b (bars_from 0 ss))

  placed_own : (q : Pool) → select_placed b q (place c own) ≡ layout (c b q) (bars_in q ++ windows_in q)
  placed_own q = place_select b q c own (unopened b q (λ e. omega arith)) ∙ ap (layout (c b q)) (select_own q)

  bars_end_lem : (q : Pool) → layout_end (c b q) (bars_in q) ≡ after_bars (c b) ss q
  bars_end_lem q = layout_end_bars k b q (c b q) 0 ss (c b) refl

  -- the search for a bridge's window in pool q
  pub own_window : {A : Type 0} (g : Placed → A) (d : A) → f.bridge ≡ true → (q : Pool)
      → first_of k (is_window_in q) g d (place c own)
      ≡ cond (is_empty (inner q)) d
      (g (record { piece = window_piece k b q (inner q).end (inner q).align; start = window_start q (inner q) (after_bars (c b) ss q) }))
  unfolding first_of layout
  own_window g d e q =
      first_keep k q g d (is_placed_on b q) (place c own) (all_imp _ _ (place c own) (all_place (Own k f rest) c own owns) on)
      ∙ ap (first_of k (is_window_in q) g d) (placed_own q)
      ∙ first_past_bars k q g d (c b q) (bars_in q) (windows_in q) (bars_no_window k b q 0 ss)
      ∙ ap (λ (n : ℕ). first_of k (is_window_in q) g d (layout n (windows_in q))) (bars_end_lem q)
      ∙ rw e (last (is_empty (inner q)))
    where
      on : (x : Placed) → Own k f rest x.piece → (eqb x.piece.owner k && is_window_in q x) ≡ true → is_placed_on b q x ≡ true
      on x o t =
          let u = both_of_and (eqb x.piece.owner k) (is_window_in q x) t in
          let v = both_of_and (is_window x.piece.part) (same_pool x.piece.pool q) u.1 in
          is_on_of_on b q x.piece (record { bus = o.bus_is; pool = eq_of_same_pool x.piece.pool q v.1 })

      p : Piece
      p = window_piece k b q (inner q).end (inner q).align

      at : ℕ
      at = after_bars (c b) ss q

      last : (t : Bool) → first_of k (is_window_in q) g d (layout at (cond t [] (p ∷ [])))
          ≡ cond t d (g (record { piece = p; start = window_start q (inner q) at }))
      last true = refl
      last false = rw (eq-eqb k k refl, same_pool_refl q)

  -- the cursors of its own bus
  pub own_cursor : (q : Pool) → cursors_after c own b q ≡ after_function f.bridge ss inner (c b) q
  unfolding layout_end
  own_cursor q =
      cursors_select b q c own (unopened b q (λ e. omega arith))
      ∙ ap (layout_end (c b q)) (select_own q)
      ∙ layout_end_append (c b q) (bars_in q) (windows_in q)
      ∙ ap (λ (n : ℕ). layout_end n (windows_in q)) (bars_end_lem q)
      ∙ go f.bridge (is_empty (inner q))
    where
      at : ℕ
      at = after_bars (c b) ss q

      go : (s t : Bool) → layout_end at (cond s (cond t [] (window_piece k b q (inner q).end (inner q).align ∷ [])) [])
          ≡ cond s (cond t at (window_stop q (inner q) at)) at
      go true true = refl
      go true false = refl
      go false t = refl

  off_bus : (n : ℕ) (q : Pool) → (n ≡ b → ⊥) → All (λ p. is_on n q p ≡ false) own
  off_bus n q ne = all_imp _ _ own owns (λ p o. is_on_of_ne n q p (λ e. ne (sym e ∙ o.bus_is)))

  unchanged : (n : ℕ) (q : Pool) → (n ≡ b → ⊥) → Unopened n q own → cursors_after c own n q ≡ c n q
  unfolding layout_end
  unchanged n q ne u = cursors_select n q c own u ∙ ap (layout_end (c n q)) (keep_none (is_on n q) own (off_bus n q ne))

  -- the cursors of any other bus but its own secondary one
  pub other_cursor : (n : ℕ) (q : Pool) → (n ≡ b → ⊥) → (n ≡ k → ⊥) → cursors_after c own n q ≡ c n q
  other_cursor n q nb nk = unchanged n q nb (unopened n q nk)

  -- the cursors of its secondary bus
  pub below_cursor : (q : Pool) → cursors_after c own k q ≡ below_function f.bridge ss inner (c b) (c k) q
  unfolding layout
  below_cursor q = go f.bridge (is_empty (inner q)) refl refl
    where
      ne : k ≡ b → ⊥
      ne e = omega arith

      at : ℕ
      at = after_bars (c b) ss q

      -- no window of pool q
      none : windows_in q ≡ [] → cursors_after c own k q ≡ c k q
      none e = unchanged k q ne (all_imp₂ _ _ _ own owns bars_only not_window)
        where
          bars_only : All (λ p. is_on b q p ≡ true → is_window p.part ≡ false) own
          bars_only =
              all_of_keep (is_on b q) (λ p. is_window p.part ≡ false) own
              (rw (select_own q, e, append-nil (bars_in q)) (bars_no_window k b q 0 ss))

          not_window : (p : Piece) → Own k f rest p → (is_on b q p ≡ true → is_window p.part ≡ false) → is_window_of k q p ≡ false
          not_window p o h =
              false_of_not (is_window_of k q p)
              (λ g.
              let w = window_of_is k q p g in
              true≢false (sym w.is_window_lem ∙ h (is_on_of_on b q p (record { bus = o.bus_is; pool = w.pool_is }))))

      Opens : Placed → Type 0
      Opens x = is_window_of k q x.piece ≡ true → x.start ≡ cursors_after c own k q

      starts : All Opens (layout at (windows_in q))
      starts =
          subst (λ (n : ℕ). All Opens (layout n (windows_in q))) (bars_end_lem q)
          (all_past Opens (c b q) (bars_in q) (windows_in q)
          (subst (All Opens) (placed_own q)
          (all_keep (is_placed_on b q) Opens (place c own) (opened_at k q c own (off_bus k q ne) (own_one k q k f rest)))))

      here : windows_in q ≡ window_piece k b q (inner q).end (inner q).align ∷ [] → window_start q (inner q) at ≡ cursors_after c own k q
      here e = (subst (λ (l : List Piece). All Opens (layout at l)) e starts).0 (rw (eq-eqb k k refl) (same_pool_refl q))

      go : (s t : Bool) → f.bridge ≡ s → is_empty (inner q) ≡ t → cursors_after c own k q
          ≡ cond s (cond t (c k q) (window_start q (inner q) at)) (c k q)
      go false t e i = none (rw e)
      go true true e i = none (rw (e, i))
      go true false e i = sym (here (rw (e, i)))
