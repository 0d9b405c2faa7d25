-- How a window opens its bus: what is placed there is a layout from the window's start, so it lies at that start plus its offset, and
-- within the window, which was sized by it. Assumes nothing.
use Rattle.std.specs.Prelude.{◌≡◌, Bool, true, false}
use Rattle.std.proofs.Math.Path.{refl, ap, subst}
use Rattle.std.proofs.Common.{sym, ◌∙◌, ⊎_elim, arith}
use mathlib.Core.List.{List, [], ◌∷◌, ◌++◌, map}
use Prim.Native.Nat.{ℕ, suc, ◌≤◌, ◌<◌}
use Rattle.arith.specs.Order.{le_or_lt}
use Rattle.arith.specs.PowersLaws.{pos_of_power, multiple_of_le}
use Rattle.arith.specs.AlignLaws.{multiple_trans, le_align_up}
use Rattle.lists.specs.Lists.{All, keep}
use Rattle.lists.specs.ListLaws.{all_imp, all_imp₂, all_forall, all_append, all_left}
use Rattle.lists.specs.KeepLaws.{all_keep, all_of_keep, keep_none, keep_append}
use Rattle.plan_rule.specs.Pools.{Pool, granule}
use Rattle.plan_rule.proofs.PoolLaws.{granule_power, is_on_of_ne}
use Rattle.plan_rule.specs.Records.{Function, DepthFirst, parents_after, Sized}
use Rattle.plan_rule.specs.Layout.{Piece, Placed, end_of, is_window, is_on, select, is_placed_on, select_placed, layout, layout_end}
use Rattle.plan_rule.proofs.LayoutLaws.{Within, Aligned, shift, Divides, layout_within, layout_from, layout_end_from}
use Rattle.plan_rule.proofs.LayoutLaws.{le_largest_align, le_layout_end, layout_end_append}
use Rattle.plan_rule.specs.Pieces.{spare_pieces, own_pieces, pieces}
use Rattle.plan_rule.proofs.PieceLaws.{SizedBy, spare_shaped, Own, BarsSized, own_pieces_lem, Shaped, has_align, pieces_owner}
use Rattle.plan_rule.proofs.RecordLaws.{Bounded, bounded_step}
use Rattle.plan_rule.proofs.PieceLaws.{is_window_of_lem, unopened_of_owner, own_one}
use Rattle.plan_rule.specs.Placing.{Cursors, is_window_of, place, cursors_after}
use Rattle.plan_rule.proofs.PlacingLaws.{place_append, all_place, place_select, opened_at}

-- The window w: its bus is laid out from its start, and it is sized by what is laid out there
pub record Opened (ps : List Piece) (xs : List Placed) (w : Placed) : Type 0 where
  pub laid : select_placed w.piece.owner w.piece.pool xs ≡ layout w.start (select w.piece.owner w.piece.pool ps)
  pub spare : List Piece
  pub spare_shaped : All Shaped spare
  pub sized : SizedBy (select w.piece.owner w.piece.pool ps ++ spare) w.piece

abbrev IsOpened : List Piece → List Placed → Placed → Type 0
IsOpened ps xs w = is_window w.piece.part ≡ true → Opened ps xs w

-- One record's step: `own` is what record k places, on a bus before k, and `rest` what the later records do
module _ (k : ℕ) (f : Function) (rest : List Piece) (c : Cursors) (before : f.parent < k) (sized : BarsSized f)
    (later : All (λ p. suc k ≤ p.owner) rest) where
  own : List Piece
  own = own_pieces k f rest

  own_placed : List Placed
  own_placed = place c own

  opened : Cursors
  opened = cursors_after c own

  rest_placed : List Placed
  rest_placed = place opened rest

  own_off : (o : ℕ) (q : Pool) → k ≤ o → All (λ p. is_on o q p ≡ false) own
  unfolding own
  own_off o q l = all_imp _ _ own (own_pieces_lem k f rest sized) (λ p g. is_on_of_ne o q p (λ e. omega (arith, g.bus_is)))

  skip_own : (o : ℕ) (q : Pool) → k ≤ o → select o q (own ++ rest) ≡ select o q rest
  skip_own o q l = keep_append (is_on o q) own rest
      ∙ ap (λ (xs : List Piece). xs ++ select o q rest) (keep_none (is_on o q) own (own_off o q l))

  skip_placed : (o : ℕ) (q : Pool) → k ≤ o → select_placed o q (own_placed ++ rest_placed) ≡ select_placed o q rest_placed
  unfolding own_placed rest_placed opened
  skip_placed o q l =
      keep_append (is_placed_on o q) own_placed rest_placed
      ∙ ap (λ (xs : List Placed). xs ++ select_placed o q rest_placed)
      (keep_none (is_placed_on o q) own_placed (all_place (λ p. is_on o q p ≡ false) c own (own_off o q l)))

  later_opened : (w : Placed) → suc k ≤ w.piece.owner → IsOpened rest rest_placed w → IsOpened (own ++ rest) (own_placed ++ rest_placed) w
  later_opened w l h e =
      let o = w.piece.owner in
      let q = w.piece.pool in
      let s = skip_own o q (omega arith) in
      record {
        laid = skip_placed o q (omega arith) ∙ (h e).laid ∙ ap (layout w.start) (sym s);
        spare = (h e).spare;
        spare_shaped = (h e).spare_shaped;
        sized = rw s (h e).sized;
      }

  Start : Placed → Type 0
  Start w = (q : Pool) → is_window_of k q w.piece ≡ true → w.start ≡ opened k q

  own_opened : (w : Placed) → Own k f rest w.piece → Start w → IsOpened (own ++ rest) (own_placed ++ rest_placed) w
  unfolding rest_placed Start
  own_opened w o h e =
      let q = w.piece.pool in
      let s = skip_own k q (omega arith) in
      let start : w.start ≡ opened k q = h q
      (is_window_of_lem k q w.piece (record { is_window_lem = e; owner_is = o.owner_is; pool_is = refl })) in
      let laid : select_placed k q (own_placed ++ rest_placed) ≡ layout w.start (select k q (own ++ rest)) =
      skip_placed k q (omega arith)
      ∙ place_select k q opened rest (unopened_of_owner (suc k) k q (omega arith) rest later)
      ∙ rw (start, s) in
      record {
        laid = rw o.owner_is laid;
        spare = spare_pieces k f.spare_low q;
        spare_shaped = spare_shaped k f.spare_low q;
        sized = subst (λ (n : ℕ). SizedBy (select n q (own ++ rest) ++ spare_pieces k f.spare_low q) w.piece) (sym o.owner_is)
            (rw s (o.window_sized e));
      }

  own_starts : All Start own_placed
  unfolding own_placed opened own Start
  own_starts = all_forall _ own_placed (λ (q : Pool). opened_at k q c own (own_off k q (omega arith)) (own_one k q k f rest))

  step_opened : All (IsOpened rest rest_placed) rest_placed → All (IsOpened (own ++ rest) (own_placed ++ rest_placed)) (own_placed ++ rest_placed)
  unfolding own_placed rest_placed opened own Start
  step_opened h =
      let owns = all_place (Own k f rest) c own (own_pieces_lem k f rest sized) in
      let owners = all_place (λ p. suc k ≤ p.owner) opened rest later in
      all_append _ own_placed rest_placed (all_imp₂ _ _ _ own_placed owns own_starts own_opened)
      (all_imp₂ _ _ _ rest_placed owners h later_opened)

pub windows_opened : (ok : ℕ → Bool) (k : ℕ) (fs : List Function) → DepthFirst ok k fs → Bounded ok k → Sized fs
    → (c : Cursors) → All (IsOpened (pieces k fs) (place c (pieces k fs))) (place c (pieces k fs))
unfolding pieces place own own_placed rest_placed opened
windows_opened ok k [] d l h c = tt
windows_opened ok k (f ∷ fs) d l h c =
    let rest = pieces (suc k) fs in
    rw (place_append c (own_pieces k f rest) rest)
    (step_opened k f rest c (l f.parent d.0) h.0 (pieces_owner (suc k) fs h.1)
    (windows_opened (parents_after ok k f) (suc k) fs d.1 (bounded_step ok k f l) h.1 (cursors_after c (own_pieces k f rest))))

-- Whatever the bus and the pool, what is placed there is laid out in one go from somewhere
pub bus_laid_lem : (ok : ℕ → Bool) (k : ℕ) (fs : List Function) → DepthFirst ok k fs → Bounded ok k → Sized fs
    → (c : Cursors) (b : ℕ) (q : Pool) → (e : ℕ) × (select_placed b q (place c (pieces k fs)) ≡ layout e (select b q (pieces k fs)))
unfolding pieces place keep layout own own_placed rest_placed opened
bus_laid_lem ok k [] d l h c b q = (0, refl)
bus_laid_lem ok k (f ∷ fs) d l h c b q =
    let rest = pieces (suc k) fs in
    ⊎_elim
    (later (bus_laid_lem (parents_after ok k f) (suc k) fs d.1 (bounded_step ok k f l) h.1 (cursors_after c (own_pieces k f rest)) b q))
    earlier
    (le_or_lt k b)
  where
    rest : List Piece
    rest = pieces (suc k) fs

    Laid : List Placed → List Piece → Type 0
    Laid xs ps = (e : ℕ) × (select_placed b q xs ≡ layout e (select b q ps))

    earlier : b < k → Laid (place c (pieces k (f ∷ fs))) (pieces k (f ∷ fs))
    earlier m = (c b q, place_select b q c (pieces k (f ∷ fs)) (unopened_of_owner k b q m (pieces k (f ∷ fs)) (pieces_owner k (f ∷ fs) h)))

    later : Laid (place (cursors_after c (own_pieces k f rest)) rest) rest → k ≤ b → Laid (place c (pieces k (f ∷ fs))) (pieces k (f ∷ fs))
    later (e, g) m =
        let before = l f.parent d.0 in
        let owners = pieces_owner (suc k) fs h.1 in (
          e,
          ap (select_placed b q) (place_append c (own_pieces k f rest) rest)
              ∙ skip_placed k f rest c before h.0 owners b q m
              ∙ g
              ∙ ap (layout e) (sym (skip_own k f rest c before h.0 owners b q m)),
        )

-- Every alignment on a window's bus divides the window's start
content_divides : (content : List Piece) (w : Placed) → All Shaped content → SizedBy content w.piece → Shaped w.piece → Aligned w
    → All (Divides w.start) content
content_divides content w h s t a =
    all_imp₂ _ _ _ content h (le_largest_align content)
    (λ p g l.
    let m = multiple_of_le g.align_power t.align_power (omega (arith, s.align_is, l)) in
    (has_align p g, multiple_trans p.align w.piece.align w.start m a))

module _ (ps : List Piece) (xs : List Placed) (w : Placed) (shaped : All Shaped ps) (o : Opened ps xs w) (t : Shaped w.piece)
    (a : Aligned w) where
  abbrev content_of : List Piece
  content_of = select w.piece.owner w.piece.pool ps

  content_shaped : All Shaped content_of
  content_shaped = all_keep (is_on w.piece.owner w.piece.pool) Shaped ps shaped

  divides : All (Divides w.start) content_of
  divides =
      all_left (Divides w.start) content_of o.spare
      (content_divides (content_of ++ o.spare) w (all_append Shaped content_of o.spare content_shaped o.spare_shaped) o.sized t a)

  -- the spare room comes after all that is there
  content_le : layout_end 0 content_of ≤ layout_end 0 (content_of ++ o.spare)
  content_le =
      omega (
        arith,
        layout_end_append 0 content_of o.spare,
        le_layout_end (layout_end 0 content_of) o.spare
            (all_imp _ _ o.spare o.spare_shaped has_align),
      )

  -- Inside a window everything lies at the window's start plus its offset
  pub window_translates : select_placed w.piece.owner w.piece.pool xs ≡ map (shift w.start) (layout 0 content_of)
  window_translates = o.laid ∙ layout_from w.start content_of divides

  pub window_contains : All (λ x. is_placed_on w.piece.owner w.piece.pool x ≡ true → Within w.start (end_of w) x) xs
  window_contains =
      let laid = layout_within w.start content_of (all_imp _ _ content_of content_shaped has_align) in
      all_of_keep (is_placed_on w.piece.owner w.piece.pool) (Within w.start (end_of w)) xs
      (rw o.laid (all_imp _ _ (layout w.start content_of) laid inside))
    where
      end_le : layout_end w.start content_of ≤ end_of w
      end_le =
          omega (
            arith,
            layout_end_from w.start content_of divides,
            o.sized.size_is,
            le_align_up (granule w.piece.pool) (pos_of_power (granule_power w.piece.pool)) (layout_end 0 (content_of ++ o.spare)),
            content_le,
          )

      inside : (x : Placed) → Within w.start (layout_end w.start content_of) x → Within w.start (end_of w) x
      inside x g = record { from_start = g.from_start; to_end = omega (arith, g.to_end, end_le) }
