-- What every piece of a board keeps: whose it is and where it stands, its shape, and that there is a window above it. Assumes nothing.
use Rattle.std.specs.Prelude.{◌≡◌, refl, ◌⊎◌, Bool, true, false, cond, ◌&&◌, ℕ, zero, suc, ◌*◌, ◌≤◌, ◌<◌, eqb}
use Rattle.std.proofs.Common.{sym, ap, ◌∙◌, inl, inr, ⊎_elim, true≢false, suc-mul, arith, eqb-true, eq-eqb}
use Rattle.std.proofs.lemmas.Bool.{false≢true, eqb-false}
use mathlib.Core.List.{List, [], ◌∷◌, ◌++◌, cons≢nil}
use Rattle.std.proofs.Math.Nat.{mod_self, mul-mod_left}
use Rattle.arith.specs.Order.{le_or_lt}
use Rattle.arith.specs.BoolLaws.{true_or_false, both_of_and}
use Rattle.arith.specs.Align.{Multiple}
use Rattle.arith.specs.Powers.{PowerOfTwo}
use Rattle.arith.specs.PowersLaws.{pos_of_power, multiple_of_le}
use Rattle.arith.specs.AlignLaws.{align_up_multiple, le_align_up, align_le_align_up}
use Rattle.lists.specs.Lists.{All, Some, Pairwise}
use Rattle.lists.specs.ListLaws.{all_imp, all_imp₂, all_forall, all_of, all_append, some_left, some_right, pairwise_append}
use Rattle.lists.specs.KeepLaws.{all_keep, keep_none, none_of_keep}
use Rattle.plan_rule.specs.Pools.{Pool, low, high, io, granule, same_pool}
use Rattle.plan_rule.proofs.PoolLaws.{granule_power, same_pool_refl, eq_of_same_pool, is_on_of_on, is_on_of_ne}
use Rattle.plan_rule.specs.Records.{Bar, Function, DepthFirst, parents_after, Sized}
use Rattle.plan_rule.proofs.RecordLaws.{Bounded, bounded_step, parent_cases, not_parent, false_of_not}
use Rattle.plan_rule.specs.Layout.{is_window, Piece, is_on, select, end_at, layout_end, largest_align}
use Rattle.plan_rule.proofs.LayoutLaws.{HasAlign, le_layout_end, largest_align_power}
use Rattle.plan_rule.specs.Pieces.{window_size, window_align, window_over, spare_if, spare_pieces, content_of, bar_piece, bar_pieces}
use Rattle.plan_rule.specs.Pieces.{window_pieces, own_pieces, pieces}
use Rattle.plan_rule.specs.Placing.{is_window_of}

left_nil : {A : Type 0} (xs ys : List A) → xs ++ ys ≡ [] → xs ≡ []
left_nil [] ys e = refl
left_nil (x ∷ xs) ys e = absurd (cons≢nil e)

spare_fits : (n g : ℕ) → (n ≡ 0 → ⊥) → g ≤ n * g
spare_fits zero g h = absurd (h refl)
spare_fits (suc n) g h = let e = suc-mul n g in omega (arith, e)

multiple_times : (g n : ℕ) → Multiple g (n * g)
multiple_times g n = mul-mod_left n g

-- A window's size and alignment are told by its content, and there is some
pub record SizedBy (content : List Piece) (p : Piece) : Type 0 where
  pub size_is : p.size ≡ window_size p.pool (layout_end 0 content)
  pub align_is : p.align ≡ window_align p.pool (largest_align content)
  pub filled : content ≡ [] → ⊥

-- A piece of record k, with `rest` the pieces of the later records
pub record Own (k : ℕ) (f : Function) (rest : List Piece) (p : Piece) : Type 0 where
  pub owner_is : p.owner ≡ k
  pub bus_is : p.bus ≡ f.parent
  pub bar_align : is_window p.part ≡ false → p.align ≡ p.size
  pub bar_power : is_window p.part ≡ false → PowerOfTwo p.size
  pub window_sized : is_window p.part ≡ true → SizedBy (content_of k f.spare_low p.pool rest) p

abbrev pub BarsSized : Function → Type 0
BarsSized f = All (λ b. PowerOfTwo b.size) f.bars

module _ (k : ℕ) (f : Function) (rest : List Piece) where
  bars_own : (bs : List Bar) → All (λ b. PowerOfTwo b.size) bs → All (Own k f rest) (bar_pieces k f.parent bs)
  unfolding bar_pieces
  bars_own [] h = tt
  bars_own (b ∷ bs) h = (
    record {
      owner_is = refl;
      bus_is = refl;
      bar_align = λ _. refl;
      bar_power = λ _. h.0;
      window_sized = λ e. absurd (false≢true e);
    },
    bars_own bs h.1,
  )

  window_own : (q : Pool) (content : List Piece) → content ≡ content_of k f.spare_low q rest
      → All (Own k f rest) (window_over k f.parent q content)
  window_own q [] e = tt
  window_own q (c ∷ cs) e = (
    record {
      owner_is = refl;
      bus_is = refl;
      bar_align = λ g. absurd (true≢false g);
      bar_power = λ g. absurd (true≢false g);
      window_sized =
          λ _.
          record {
            size_is = ap (λ (l : List Piece). window_size q (layout_end 0 l)) e;
            align_is = ap (λ (l : List Piece). window_align q (largest_align l)) e;
            filled = λ n. cons≢nil (e ∙ n);
          };
    },
    tt,
  )

  pub own_pieces_lem : BarsSized f → All (Own k f rest) (own_pieces k f rest)
  unfolding own_pieces window_pieces
  own_pieces_lem h = all_append _ (bar_pieces k f.parent f.bars) _ (bars_own f.bars h) (go f.bridge)
    where
      windows : All (Own k f rest) (window_pieces k f.parent f.spare_low rest)
      windows =
          all_append _ (window_over k f.parent low (content_of k f.spare_low low rest)) _
          (window_own low (content_of k f.spare_low low rest) refl)
          (all_append _ (window_over k f.parent high (content_of k f.spare_low high rest)) _
          (window_own high (content_of k f.spare_low high rest) refl)
          (window_own io (content_of k f.spare_low io rest) refl))

      go : (b : Bool) → All (Own k f rest) (cond b (window_pieces k f.parent f.spare_low rest) [])
      go true = windows
      go false = tt

-- A piece's shape: powers of two for alignments, a BAR on a multiple of its size, a window on granules
pub record Shaped (p : Piece) : Type 0 where
  pub align_power : PowerOfTwo p.align
  pub align_fits : p.align ≤ p.size
  pub bar_align : is_window p.part ≡ false → p.align ≡ p.size
  pub window_align_lem : is_window p.part ≡ true → Multiple (granule p.pool) p.align
  pub window_size_lem : is_window p.part ≡ true → Multiple (granule p.pool) p.size

pub has_align : (p : Piece) → Shaped p → HasAlign p
has_align p s = pos_of_power s.align_power

-- What holds something reaches as far as its largest alignment
largest_align_le : (e : ℕ) (ps : List Piece) → All Shaped ps → largest_align ps ≤ layout_end e ps
unfolding layout_end largest_align
largest_align_le e [] h = omega arith
largest_align_le e (p ∷ ps) h =
    omega (
      arith,
      h.0.align_fits,
      le_layout_end (end_at e p) ps (all_imp _ _ ps h.1 has_align),
      largest_align_le (end_at e p) ps h.1,
    )

layout_end_pos : (ps : List Piece) → All Shaped ps → (ps ≡ [] → ⊥) → 0 < layout_end 0 ps
unfolding layout_end
layout_end_pos [] h n = absurd (n refl)
layout_end_pos (p ∷ ps) h n =
    omega (
      arith,
      h.0.align_fits,
      has_align p h.0,
      le_layout_end (end_at 0 p) ps (all_imp _ _ ps h.1 has_align),
    )

shaped_window : (content : List Piece) (p : Piece) → All Shaped content → is_window p.part ≡ true → SizedBy content p → Shaped p
shaped_window content p h w s =
    record {
      align_power = power;
      align_fits = fits;
      bar_align = λ g. absurd (true≢false (sym w ∙ g));
      window_align_lem = λ _. multiple_of_le (granule_power q) power granule_le;
      window_size_lem = λ _. rw s.size_is (align_up_multiple (granule q) pos (layout_end 0 content));
    }
  where
    q : Pool
    q = p.pool

    pos : 0 < granule q
    pos = pos_of_power (granule_power q)

    power : PowerOfTwo p.align
    power = rw s.align_is (largest_align_power (granule q) content (granule_power q) (all_imp _ _ content h (λ x t. t.align_power)))

    granule_le : granule q ≤ p.align
    granule_le = omega (arith, s.align_is)

    fits : p.align ≤ p.size
    fits =
        omega (
          arith,
          s.align_is,
          s.size_is,
          align_le_align_up (granule q) pos (layout_end 0 content) (layout_end_pos content h s.filled),
          largest_align_le 0 content h,
          le_align_up (granule q) pos (layout_end 0 content),
        )

-- The spare room has a piece's shape
pub spare_shaped : (k n : ℕ) (q : Pool) → All Shaped (spare_pieces k n q)
spare_shaped k n low = go (eqb n 0) refl
  where
    go : (t : Bool) → eqb n 0 ≡ t → All Shaped (spare_if t k n)
    go true e = tt
    go false e = (
      record {
        align_power = granule_power low;
        align_fits = spare_fits n (granule low) (eqb-false _ _ e);
        bar_align = λ g. absurd (true≢false g);
        window_align_lem = λ _. mod_self (granule low);
        window_size_lem = λ _. multiple_times (granule low) n;
      },
      tt,
    )
spare_shaped k n high = tt
spare_shaped k n io = tt

pub content_shaped : (k n : ℕ) (q : Pool) (rest : List Piece) → All Shaped rest → All Shaped (content_of k n q rest)
content_shaped k n q rest h =
    all_append Shaped (select k q rest) (spare_pieces k n q) (all_keep (is_on k q) Shaped rest h) (spare_shaped k n q)

shaped_of_own : (k : ℕ) (f : Function) (rest : List Piece) → All Shaped rest → (p : Piece) → Own k f rest p → Shaped p
shaped_of_own k f rest h p o = ⊎_elim is_window_lem is_bar_lem (true_or_false (is_window p.part))
  where
    is_window_lem : is_window p.part ≡ true → Shaped p
    is_window_lem e = shaped_window (content_of k f.spare_low p.pool rest) p (content_shaped k f.spare_low p.pool rest h) e
        (o.window_sized e)

    is_bar_lem : is_window p.part ≡ false → Shaped p
    is_bar_lem e =
        record {
          align_power = rw (o.bar_align e) (o.bar_power e);
          align_fits = omega (arith, o.bar_align e);
          bar_align = o.bar_align;
          window_align_lem = λ g. absurd (true≢false (sym g ∙ e));
          window_size_lem = λ g. absurd (true≢false (sym g ∙ e));
        }

-- What holds of a record's own pieces, and of the later records', holds of all
pub all_pieces : (P : Piece → Type 0) (k : ℕ) (f : Function) (fs : List Function) → BarsSized f
    → ((p : Piece) → Own k f (pieces (suc k) fs) p → P p) → All P (pieces (suc k) fs) → All P (pieces k (f ∷ fs))
unfolding pieces
all_pieces P k f fs h own r =
    let rest = pieces (suc k) fs in
    all_append _ (own_pieces k f rest) rest (all_imp _ _ (own_pieces k f rest) (own_pieces_lem k f rest h) own) r

pub pieces_shaped : (k : ℕ) (fs : List Function) → Sized fs → All Shaped (pieces k fs)
unfolding pieces
pieces_shaped k [] h = tt
pieces_shaped k (f ∷ fs) h =
    let r = pieces_shaped (suc k) fs h.1 in
    all_pieces Shaped k f fs h.0 (shaped_of_own k f (pieces (suc k) fs) r) r

pub pieces_owner : (k : ℕ) (fs : List Function) → Sized fs → All (λ p. k ≤ p.owner) (pieces k fs)
unfolding pieces
pieces_owner k [] h = tt
pieces_owner k (f ∷ fs) h =
    all_pieces (λ p. k ≤ p.owner) k f fs h.0 (λ p o. omega (arith, o.owner_is))
    (all_imp _ _ (pieces (suc k) fs) (pieces_owner (suc k) fs h.1) (λ p l. omega arith))

-- What holds of every parent holds of every piece's bus
pub pieces_parent : (P : ℕ → Type 0) (k : ℕ) (fs : List Function) → Sized fs → All (λ f. P f.parent) fs
    → All (λ p. P p.bus) (pieces k fs)
unfolding pieces
pieces_parent P k [] h g = tt
pieces_parent P k (f ∷ fs) h g =
    all_pieces (λ p. P p.bus) k f fs h.0 (λ p o. rw o.bus_is g.0) (pieces_parent P (suc k) fs h.1 g.1)

-- A bus that some piece is on is a later record's, or one of those that may be parents
pieces_bus : (ok : ℕ → Bool) (k : ℕ) (fs : List Function) → DepthFirst ok k fs → Sized fs
    → All (λ p. (k ≤ p.bus) ⊎ (ok p.bus ≡ true)) (pieces k fs)
unfolding pieces
pieces_bus ok k [] d h = tt
pieces_bus ok k (f ∷ fs) d h =
    all_pieces Allowed k f fs h.0 (λ p o. inr (rw o.bus_is d.0))
    (all_imp _ _ (pieces (suc k) fs) (pieces_bus (parents_after ok k f) (suc k) fs d.1 h.1) earlier)
  where
    Allowed : Piece → Type 0
    Allowed p = (k ≤ p.bus) ⊎ (ok p.bus ≡ true)

    Later : Piece → Type 0
    Later p = (suc k ≤ p.bus) ⊎ (parents_after ok k f p.bus ≡ true)

    earlier : (p : Piece) → Later p → Allowed p
    earlier p (inl l) = inl (omega arith)
    earlier p (inr e) = ⊎_elim (λ g. inl (omega (arith, g.0))) (λ g. inr g.0) (parent_cases ok k f p.bus e)

-- Nothing is on an earlier record's bus that may take no more
pub select_closed : (ok : ℕ → Bool) (k : ℕ) (fs : List Function) → DepthFirst ok k fs → Sized fs
    → (b : ℕ) (q : Pool) → b < k → ok b ≡ false → select b q (pieces k fs) ≡ []
select_closed ok k fs d h b q l e =
    keep_none (is_on b q) (pieces k fs) (all_imp _ _ (pieces k fs) (pieces_bus ok k fs d h) other)
  where
    other : (p : Piece) → (k ≤ p.bus) ⊎ (ok p.bus ≡ true) → is_on b q p ≡ false
    other p (inl m) = is_on_of_ne b q p (λ g. omega arith)
    other p (inr m) = is_on_of_ne b q p (λ g. true≢false (sym m ∙ ap ok g ∙ e))

pub bus_lt_owner : (ok : ℕ → Bool) (k : ℕ) (fs : List Function) → DepthFirst ok k fs → Bounded ok k → Sized fs
    → All (λ p. p.bus < p.owner) (pieces k fs)
unfolding pieces
bus_lt_owner ok k [] d l h = tt
bus_lt_owner ok k (f ∷ fs) d l h =
    all_pieces (λ p. p.bus < p.owner) k f fs h.0 (λ p o. omega (arith, o.owner_is, o.bus_is, l f.parent d.0))
    (bus_lt_owner (parents_after ok k f) (suc k) fs d.1 (bounded_step ok k f l) h.1)

-- A piece p that is the window of bridge b in pool q
pub record WindowOf (b : ℕ) (q : Pool) (p : Piece) : Type 0 where
  pub is_window_lem : is_window p.part ≡ true
  pub owner_is : p.owner ≡ b
  pub pool_is : p.pool ≡ q

pub window_of_is : (b : ℕ) (q : Pool) (p : Piece) → is_window_of b q p ≡ true → WindowOf b q p
window_of_is b q p e =
    let h = both_of_and (is_window p.part && eqb p.owner b) (same_pool p.pool q) e in
    let g = both_of_and (is_window p.part) (eqb p.owner b) h.0 in
    record { is_window_lem = g.0; owner_is = eqb-true p.owner b g.1; pool_is = eq_of_same_pool p.pool q h.1 }

pub is_window_of_lem : (b : ℕ) (q : Pool) (p : Piece) → WindowOf b q p → is_window_of b q p ≡ true
is_window_of_lem b q p w = rw (w.is_window_lem, eq-eqb p.owner b w.owner_is, w.pool_is) (same_pool_refl q)

-- Where a bus has content, its bridge has a window
window_there : (k : ℕ) (f : Function) (rest : List Piece) → f.bridge ≡ true → (q : Pool) → (select k q rest ≡ [] → ⊥)
    → Some (WindowOf k q) (own_pieces k f rest)
unfolding own_pieces window_pieces
window_there k f rest e q n = rw e (some_right (WindowOf k q) (bar_pieces k f.parent f.bars) _ (go q n))
  where
    over : (q : Pool) (content : List Piece) → (content ≡ [] → ⊥) → Some (WindowOf k q) (window_over k f.parent q content)
    over q [] m = absurd (m refl)
    over q (c ∷ cs) m = inl (record { is_window_lem = refl; owner_is = refl; pool_is = refl })

    w : Pool → List Piece
    w q = window_over k f.parent q (content_of k f.spare_low q rest)

    some_content : (q : Pool) → (select k q rest ≡ [] → ⊥) → content_of k f.spare_low q rest ≡ [] → ⊥
    some_content q m g = m (left_nil (select k q rest) (spare_pieces k f.spare_low q) g)

    go : (q : Pool) → (select k q rest ≡ [] → ⊥) → Some (WindowOf k q) (w low ++ (w high ++ w io))
    go low m = some_left (WindowOf k low) (w low) (w high ++ w io) (over low (content_of k f.spare_low low rest) (some_content low m))
    go high m = some_right (WindowOf k high) (w low) (w high ++ w io)
        (some_left (WindowOf k high) (w high) (w io) (over high (content_of k f.spare_low high rest) (some_content high m)))
    go io m = some_right (WindowOf k io) (w low) (w high ++ w io)
        (some_right (WindowOf k io) (w high) (w io) (over io (content_of k f.spare_low io rest) (some_content io m)))

-- Every piece is on an earlier bus, or there is the window of its bus and pool
pub window_above : (ok : ℕ → Bool) (k : ℕ) (fs : List Function) → DepthFirst ok k fs → Bounded ok k → Sized fs
    → All (λ p. (p.bus < k) ⊎ Some (WindowOf p.bus p.pool) (pieces k fs)) (pieces k fs)
unfolding pieces
window_above ok k [] d l h = tt
window_above ok k (f ∷ fs) d l h =
    let later = window_above (parents_after ok k f) (suc k) fs d.1 (bounded_step ok k f l) h.1 in
    all_pieces Above k f fs h.0 (λ p o. inl (omega (arith, o.bus_is, l f.parent d.0)))
    (all_imp₂ _ _ _ rest later (all_forall _ rest here) above)
  where
    rest : List Piece
    rest = pieces (suc k) fs

    own : List Piece
    own = own_pieces k f rest

    Above : Piece → Type 0
    Above p = (p.bus < k) ⊎ Some (WindowOf p.bus p.pool) (own ++ rest)

    here : (q : Pool) → All (λ p. is_on k q p ≡ true → Some (WindowOf k q) own) rest
    here q = settle (select k q rest) refl
      where
        bridge : (select k q rest ≡ [] → ⊥) → f.bridge ≡ true
        bridge n =
            ⊎_elim
            (λ e. e)
            (λ e.
            absurd (n (select_closed (parents_after ok k f) (suc k) fs d.1 h.1 k q (omega arith) (not_parent ok k f l e))))
            (true_or_false f.bridge)

        settle : (content : List Piece) → select k q rest ≡ content → All (λ p. is_on k q p ≡ true → Some (WindowOf k q) own) rest
        settle [] e =
            all_imp _ _ rest (none_of_keep (is_on k q) rest e) (λ p g i. absurd (true≢false (sym i ∙ g)))
        settle (c ∷ cs) e =
            let n : select k q rest ≡ [] → ⊥ = λ g. cons≢nil (sym e ∙ g) in
            all_of (λ p. is_on k q p ≡ true → Some (WindowOf k q) own) (λ p i. window_there k f rest (bridge n) q n) rest

    above : (p : Piece) → (p.bus < suc k) ⊎ Some (WindowOf p.bus p.pool) rest
        → ((q : Pool) → is_on k q p ≡ true → Some (WindowOf k q) own) → Above p
    above p (inr w) g = inr (some_right (WindowOf p.bus p.pool) own rest w)
    above p (inl m) g = ⊎_elim this (λ n. inl n) (le_or_lt k p.bus)
      where
        this : k ≤ p.bus → Above p
        this n =
            let e : p.bus ≡ k = omega arith in
            let w = g p.pool (is_on_of_on k p.pool p (record { bus = e; pool = refl })) in
            inr (some_left (WindowOf p.bus p.pool) own rest (rw e w))

-- A later record opens no earlier bus
pub unopened_of_owner : (k b : ℕ) (q : Pool) → b < k → (ps : List Piece) → All (λ p. k ≤ p.owner) ps
    → All (λ p. is_window_of b q p ≡ false) ps
unopened_of_owner k b q l ps h =
    all_imp _ _ ps h (λ p m. false_of_not (is_window_of b q p) (λ e. omega (arith, (window_of_is b q p e).owner_is)))

-- Of a record's pieces one at most is the window of a given bridge and pool
module _ (b : ℕ) (q : Pool) where
  abbrev pub OneWindow : Piece → Piece → Type 0
  OneWindow p r = is_window_of b q p ≡ true → is_window_of b q r ≡ false

  one_of_pools : (p r : Piece) → same_pool p.pool r.pool ≡ false → OneWindow p r
  one_of_pools p r n e =
      false_of_not (is_window_of b q r)
      (λ g.
      let same : p.pool ≡ r.pool = (window_of_is b q p e).pool_is ∙ sym (window_of_is b q r g).pool_is in
      true≢false (sym (rw same (same_pool_refl r.pool)) ∙ n))

  bars_one : (k a : ℕ) (bs : List Bar) (ys : List Piece) → Pairwise OneWindow ys → Pairwise OneWindow (bar_pieces k a bs ++ ys)
  unfolding bar_pieces
  bars_one k a [] ys h = h
  bars_one k a (x ∷ xs) ys h =
      (all_of (OneWindow (bar_piece k a x)) (λ r e. absurd (false≢true e)) (bar_pieces k a xs ++ ys), bars_one k a xs ys h)

  pub own_one : (k : ℕ) (f : Function) (rest : List Piece) → Pairwise OneWindow (own_pieces k f rest)
  unfolding own_pieces window_pieces
  own_one k f rest = bars_one k f.parent f.bars _ (go f.bridge)
    where
      w : Pool → List Piece
      w r = window_over k f.parent r (content_of k f.spare_low r rest)

      alone : (r : Pool) (content : List Piece) → Pairwise OneWindow (window_over k f.parent r content)
      alone r [] = tt
      alone r (c ∷ cs) = (tt, tt)

      of_pool_lem : (r : Pool) (content : List Piece) → All (λ p. p.pool ≡ r) (window_over k f.parent r content)
      of_pool_lem r [] = tt
      of_pool_lem r (c ∷ cs) = (refl, tt)

      cross : (r s : Pool) → same_pool r s ≡ false → All (λ p. All (OneWindow p) (w s)) (w r)
      cross r s n =
          all_imp _ _ (w r) (of_pool_lem r (content_of k f.spare_low r rest)) (λ p e.
          all_imp _ _ (w s) (of_pool_lem s (content_of k f.spare_low s rest)) (λ t g. one_of_pools p t (rw (e, g) n)))

      others : All (λ p. All (OneWindow p) (w high ++ w io)) (w low)
      others = all_imp₂ _ _ _ (w low) (cross low high refl) (cross low io refl) (λ p a b. all_append _ (w high) (w io) a b)

      windows : Pairwise OneWindow (w low ++ (w high ++ w io))
      windows =
          let two = pairwise_append OneWindow (w high) (w io) (alone high (content_of k f.spare_low high rest))
          (alone io (content_of k f.spare_low io rest))
          (cross high io refl) in
          pairwise_append OneWindow (w low) (w high ++ w io) (alone low (content_of k f.spare_low low rest)) two others

      go : (t : Bool) → Pairwise OneWindow (cond t (w low ++ (w high ++ w io)) [])
      go true = windows
      go false = tt
