-- Where everything of a lawful board lies: at its window's start plus its offset, within its window, apart from its siblings, aligned; and
-- within its pool if the pool is kept. Buses are told by the record above: the host's is 0. Assumes nothing.
use Rattle.std.specs.Prelude.{◌≡◌, ◌⊎◌, false, List, map, ℕ, zero, suc, ◌≤◌, ◌<◌}
use Rattle.std.proofs.Math.Path.{sym}
use Rattle.std.proofs.Common.{◌∙◌, true≢false, arith}
use Rattle.std.proofs.Math.Logic.{inl, inr, ⊎_elim}
use Rattle.std.proofs.Math.Bool.{true}
use Rattle.arith.specs.BoolLaws.{true_or_false}
use Rattle.arith.specs.Align.{Multiple}
use Rattle.arith.specs.AlignLaws.{multiple_trans, multiple_add}
use Rattle.lists.specs.Lists.{All, Some, Pairwise}
use Rattle.lists.specs.ListLaws.{all_imp, all_imp₂, all_and, all_of, all_forall, all_swap, some_and, some_imp, some_elim, pairwise_imp}
use Rattle.lists.specs.KeepLaws.{all_keep, all_of_keep, pairwise_of_keep}
use Rattle.plan_rule.specs.Pools.{Pool, granule}
use Rattle.plan_rule.proofs.PoolLaws.{is_on_self, is_on_of_on}
use Rattle.plan_rule.specs.Records.{Host, Function, only_host, Lawful}
use Rattle.plan_rule.specs.Layout.{Piece, Placed, end_of, is_window, is_on, select, is_placed_on, select_placed, layout}
use Rattle.plan_rule.proofs.LayoutLaws.{Within, Before, Aligned, shift, HasAlign, layout_within, layout_ordered}
use Rattle.plan_rule.specs.Pieces.{pieces}
use Rattle.plan_rule.proofs.PieceLaws.{Shaped, has_align, pieces_shaped, pieces_owner, bus_lt_owner}
use Rattle.plan_rule.proofs.RecordLaws.{bounded_start}
use Rattle.plan_rule.proofs.PieceLaws.{WindowOf, window_above, unopened_of_owner}
use Rattle.plan_rule.specs.Placing.{from_bases, place, placed}
use Rattle.plan_rule.proofs.PlacingLaws.{all_place, some_place, place_aligned, place_select}
use Rattle.plan_rule.proofs.Opened.{Opened, windows_opened, bus_laid_lem, window_translates, window_contains}
use Rattle.plan_rule.specs.Refusals.{Kept}

-- x lies within the window of its bus and pool
pub record Holds (x w : Placed) : Type 0 where
  pub window : WindowOf x.piece.bus x.piece.pool w.piece
  pub within : Within w.start (end_of w) x

-- x and y share bus and pool only where x ends before y starts
abbrev pub Apart : Placed → Placed → Type 0
Apart x y = x.piece.bus ≡ y.piece.bus → x.piece.pool ≡ y.piece.pool → Before x y

-- The window's bus, moved from offset 0 to the window's start
abbrev pub Translated : List Piece → List Placed → Placed → Type 0
Translated ps xs w =
    select_placed w.piece.owner w.piece.pool xs ≡ map (shift w.start) (layout 0 (select w.piece.owner w.piece.pool ps))

pub record WellPlaced (h : Host) (fs : List Function) : Type 0 where
  pub rooted : (q : Pool) → select_placed 0 q (placed h fs) ≡ layout (h.base q) (select 0 q (pieces 1 fs))
  pub translated : All (λ w. is_window w.piece.part ≡ true → Translated (pieces 1 fs) (placed h fs) w) (placed h fs)
  pub contained : All (λ x. (x.piece.bus ≡ 0) ⊎ Some (Holds x) (placed h fs)) (placed h fs)
  pub apart : Pairwise Apart (placed h fs)
  pub bar_aligned : All (λ x. is_window x.piece.part ≡ false → Multiple x.piece.size x.start) (placed h fs)
  pub window_aligned : All
      (λ x. is_window x.piece.part ≡ true → Multiple (granule x.piece.pool) x.start
      × Multiple (granule x.piece.pool) (end_of x))
      (placed h fs)

module _ (h : Host) (fs : List Function) (lawful : Lawful fs) where
  xs : List Placed
  xs = place (from_bases h) (pieces 1 fs)

  shaped : All Shaped (pieces 1 fs)
  shaped = pieces_shaped 1 fs lawful.sized

  has_aligns : All HasAlign (pieces 1 fs)
  has_aligns = all_imp _ _ (pieces 1 fs) shaped has_align

  shaped_placed : All (λ x. Shaped x.piece) xs
  unfolding xs
  shaped_placed = all_place Shaped (from_bases h) (pieces 1 fs) shaped

  aligned_placed : All Aligned xs
  unfolding xs
  aligned_placed = place_aligned (from_bases h) (pieces 1 fs) has_aligns

  -- Each window with all that is known of it
  record Open (w : Placed) : Type 0 where
    opened : Opened (pieces 1 fs) xs w
    shape : Shaped w.piece
    aligned : Aligned w

  windows : All (λ w. is_window w.piece.part ≡ true → Open w) xs
  unfolding xs
  windows =
      all_imp₂ _ _ _ xs (windows_opened only_host 1 fs lawful.ordered bounded_start lawful.sized (from_bases h))
      (all_and _ _ xs shaped_placed aligned_placed)
      (λ w o g e. record { opened = o e; shape = g.0; aligned = g.1 })

  translates : All (λ w. is_window w.piece.part ≡ true → Translated (pieces 1 fs) xs w) xs
  translates = all_imp _ _ xs windows
      (λ w g e. let o = g e in window_translates (pieces 1 fs) xs w shaped o.opened o.shape o.aligned)

  -- What lies on a window's bus lies within it
  Holding : Placed → Placed → Type 0
  Holding w x = WindowOf x.piece.bus x.piece.pool w.piece → Holds x w

  holds : All (λ w. All (Holding w) xs) xs
  unfolding Holding
  holds = all_imp _ _ xs windows (λ w g. ⊎_elim (λ e. is_window_lem w e (g e)) (is_bar_lem w) (true_or_false (is_window w.piece.part)))
    where
      is_window_lem : (w : Placed) → is_window w.piece.part ≡ true → Open w → All (Holding w) xs
      is_window_lem w e o =
          all_imp _ _ xs (window_contains (pieces 1 fs) xs w shaped o.opened o.shape o.aligned)
          (λ x g v.
          let on = is_on_of_on w.piece.owner w.piece.pool x.piece
          (record { bus = sym v.owner_is; pool = sym v.pool_is }) in
          record { window = v; within = g on })

      is_bar_lem : (w : Placed) → is_window w.piece.part ≡ false → All (Holding w) xs
      is_bar_lem w e = all_of (Holding w) (λ x v. absurd (true≢false (sym v.is_window_lem ∙ e))) xs

  -- And there is a window above whatever is not on the root bus
  Above : Placed → Type 0
  Above x = (x.piece.bus < 1) ⊎ Some (WindowOf x.piece.bus x.piece.pool) (pieces 1 fs)

  above : All Above xs
  unfolding xs Above
  above =
      all_place (λ p. (p.bus < 1) ⊎ Some (WindowOf p.bus p.pool) (pieces 1 fs)) (from_bases h) (pieces 1 fs)
      (window_above only_host 1 fs lawful.ordered bounded_start lawful.sized)

  contains : All (λ x. (x.piece.bus ≡ 0) ⊎ Some (Holds x) xs) xs
  unfolding xs Above Holding
  contains = all_imp₂ _ _ _ xs above (all_swap Holding xs xs holds) each
    where
      each : (x : Placed) → Above x → All (λ w. Holding w x) xs → (x.piece.bus ≡ 0) ⊎ Some (Holds x) xs
      each x (inl l) g = inl (omega arith)
      each x (inr s) g =
          let Window : Placed → Type 0 = λ w. WindowOf x.piece.bus x.piece.pool w.piece in
          let there : Some Window xs = some_place (WindowOf x.piece.bus x.piece.pool) (from_bases h) (pieces 1 fs) s in
          inr (some_imp _ _ (λ w v. v.0 v.1) xs (some_and _ _ xs g there))

  ordered : Pairwise Apart xs
  unfolding xs
  ordered =
      pairwise_imp _ _
      (λ x y g e i. g (is_on_of_on x.piece.bus x.piece.pool y.piece (record { bus = sym e; pool = sym i })))
      xs
      (pairwise_of_keep Before (λ x. is_placed_on x.piece.bus x.piece.pool) (λ x. is_on_self x.piece) xs on_bus_lem)
    where
      on_bus_lem : (z : Placed) → Pairwise Before (select_placed z.piece.bus z.piece.pool xs)
      on_bus_lem z =
          let b = z.piece.bus in
          let q = z.piece.pool in
          let laid = bus_laid_lem only_host 1 fs lawful.ordered bounded_start lawful.sized (from_bases h) b q in
          rw laid.1 (layout_ordered laid.0 (select b q (pieces 1 fs)) (all_keep (is_on b q) HasAlign (pieces 1 fs) has_aligns))

  pub well_placed : WellPlaced h fs
  unfolding xs placed
  well_placed =
      record {
        rooted =
            λ q.
            place_select 0 q (from_bases h) (pieces 1 fs)
            (unopened_of_owner 1 0 q (omega arith) (pieces 1 fs) (pieces_owner 1 fs lawful.sized));
        translated = translates;
        contained = contains;
        apart = ordered;
        bar_aligned = all_imp₂ _ _ _ xs shaped_placed aligned_placed (λ x s a e. rw (s.bar_align e) at a);
        window_aligned = all_imp₂ _ _ _ xs shaped_placed aligned_placed edges;
      }
    where
      edges : (x : Placed) → Shaped x.piece → Aligned x → is_window x.piece.part ≡ true
          → Multiple (granule x.piece.pool) x.start × Multiple (granule x.piece.pool) (end_of x)
      edges x s a e =
          let g = granule x.piece.pool in
          let m = multiple_trans g x.piece.align x.start (s.window_align_lem e) a in
          (m, multiple_add g x.start x.piece.size m (s.window_size_lem e))

  -- On the root bus nothing comes before the pool's base
  from_base : (q : Pool) → All (λ x. is_placed_on 0 q x ≡ true → h.base q ≤ x.start) xs
  unfolding xs placed
  from_base q =
      let content = select 0 q (pieces 1 fs) in
      let inside = layout_within (h.base q) content (all_keep (is_on 0 q) HasAlign (pieces 1 fs) has_aligns) in
      all_of_keep (is_placed_on 0 q) (λ x. h.base q ≤ x.start) xs
      (rw (well_placed.rooted q) (all_imp _ _ (layout (h.base q) content) inside (λ x w. w.from_start)))

  -- Everything of a kept pool lies in the pool
  pub in_pool_lem : (q : Pool) → Kept h fs q → All (λ x. x.piece.pool ≡ q → Within (h.base q) (suc (h.last q)) x) (placed h fs)
  unfolding xs placed
  in_pool_lem q kept = all_imp _ _ xs (all_forall Below xs below) (λ x g e. g (suc x.piece.bus) (omega arith) e)
    where
      InPool : Placed → Type 0
      InPool = Within (h.base q) (suc (h.last q))

      Below : ℕ → Placed → Type 0
      Below n x = x.piece.bus < n → x.piece.pool ≡ q → InPool x

      root : (x : Placed) → (x.piece.bus ≡ 0 → x.piece.pool ≡ q → end_of x ≤ suc (h.last q))
          → (is_placed_on 0 q x ≡ true → h.base q ≤ x.start)
          → x.piece.bus ≡ 0 → x.piece.pool ≡ q → InPool x
      root x k b e i = record { from_start = b (is_on_of_on 0 q x.piece (record { bus = e; pool = i })); to_end = k e i }

      Earlier : ℕ → Placed → Type 0
      Earlier n w = (w.piece.bus < w.piece.owner) × Below n w

      -- A piece in a window that lies in the pool
      inner : (n : ℕ) (x w : Placed) → Earlier n w × Holds x w → Below (suc n) x
      inner n x w (g, v) l i =
          let inside : InPool w = g.1 (omega (arith, g.0, v.window.owner_is)) (v.window.pool_is ∙ i) in
          record {
            from_start = omega (arith, inside.from_start, v.within.from_start);
            to_end = omega (arith, inside.to_end, v.within.to_end);
          }

      rooted : All (λ x. x.piece.bus ≡ 0 → x.piece.pool ≡ q → InPool x) xs
      rooted = all_imp₂ _ _ _ xs kept (from_base q) root

      -- By the record above: what is on a bus below n + 1 is on the root bus, or in a window on a bus below n
      below : (n : ℕ) → All (Below n) xs
      below zero = all_of (Below 0) (λ x l. absurd (omega arith)) xs
      below (suc n) = all_imp₂ _ _ _ xs contains rooted (each (below n))
        where
          each : All (Below n) xs → (x : Placed) → (x.piece.bus ≡ 0) ⊎ Some (Holds x) xs
              → (x.piece.bus ≡ 0 → x.piece.pool ≡ q → InPool x)
              → Below (suc n) x
          each ih x (inl e) r l i = r e i
          each ih x (inr s) r l i =
              let falls : All (λ w. w.piece.bus < w.piece.owner) xs =
              all_place (λ p. p.bus < p.owner) (from_bases h) (pieces 1 fs)
              (bus_lt_owner only_host 1 fs lawful.ordered bounded_start lawful.sized) in
              some_elim _ xs (λ w g. inner n x w g l i) (some_and _ _ xs (all_and _ _ xs falls ih) s)
