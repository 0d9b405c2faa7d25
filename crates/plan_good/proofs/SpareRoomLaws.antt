-- A planned board keeps the spare room of its bridges: windows are longer by it, nothing lies in it, and no function has a BAR there.
-- Assumes nothing.
use Rattle.std.specs.Prelude.{◌≡◌, refl, ◌⊎◌, Bool, true, false, length, drop}
use Rattle.std.proofs.Common.{sym, ap, ◌∙◌, inr, true≢false, add-zero, arith, eq-eqb, eqb-true}
use Rattle.std.proofs.Math.Path.{subst}
use Rattle.std.proofs.Math.Logic.{inl, ⊎_elim}
use mathlib.Core.List.Memᴰ
use mathlib.Core.List.{List, [], ◌∷◌, ◌++◌, map, append-nil, cons≢nil}
use Prim.Native.Nat.{ℕ, zero, suc, ◌+◌, ◌*◌, ◌≤◌, ◌<◌, max}
use Rattle.std.proofs.Math.Nat.{mul-mod_left}
use Rattle.std.proofs.Math.Dec.{eqb}
use Rattle.arith.specs.Order.{le_or_lt, eq_or_ne}
use Rattle.arith.specs.Align.{align_up, Multiple}
use Rattle.arith.specs.PowersLaws.{pos_of_power}
use Rattle.arith.specs.AlignLaws.{le_align_up, align_up_multiple, align_up_of_multiple, multiple_add}
use Rattle.lists.specs.Lists.{◌∈◌, All, Some, keep}
use Rattle.lists.specs.ListLaws.{all_imp, all_elim, all_drop, all_map_intro, some_left, some_right, some_of_member}
use Rattle.lists.specs.ListLaws.{member_of_some, pairwise_members}
use Rattle.lists.specs.KeepLaws.{all_keep, keep_intro, keep_elim}
use Rattle.pools.specs.declared.Space.TheVariants.{Memory as memory_space}
use Rattle.pools.specs.Pools.{in_space}
use Rattle.plan_rule.specs.Pools.{Pool, low, granule}
use Rattle.plan_rule.proofs.PoolLaws.{granule_power, is_on_of_on}
use Rattle.plan_rule.specs.Records.{Host, Function, DepthFirst, Sized, Lawful}
use Rattle.plan_rule.proofs.RecordLaws.{IsAt, ordered_from}
use Rattle.plan_rule.specs.Layout.{Piece, Placed, end_of, is_window, is_on, is_placed_on, select, select_placed, layout, layout_end}
use Rattle.plan_rule.specs.Layout.{largest_align}
use Rattle.plan_rule.proofs.LayoutLaws.{shift, HasAlign, layout_within, layout_end_append}
use Rattle.plan_rule.specs.Pieces.{window_size, window_align, window_over, spare_piece, spare_if, spare_pieces, content_of, bar_pieces}
use Rattle.plan_rule.specs.Pieces.{window_pieces, own_pieces, pieces}
use Rattle.plan_rule.proofs.PieceLaws.{WindowOf, SizedBy, Own, BarsSized, own_pieces_lem, Shaped, has_align, pieces_shaped}
use Rattle.plan_rule.specs.Placing.{placed}
use Rattle.plan_rule.proofs.Placed.{Holds, well_placed}
use Rattle.plan_rule.proofs.ExtentLaws.{select_skip}
use Rattle.plan_good.proofs.RecordPieces.{pieces_of_record}
use Rattle.plan_rule.specs.Siblings.{Disjoint}
use Rattle.plan_rule.specs.Refusals.{refusal_of}
use Rattle.plan_rule.specs.Records.{only_host}
use Rattle.plan_rule.proofs.RecordLaws.{bounded_start}
use Rattle.plan_rule.proofs.PieceLaws.{bus_lt_owner}
use Rattle.plan_rule.specs.Placing.{from_bases}
use Rattle.plan_rule.proofs.PlacingLaws.{all_place}
use Rattle.plan_rule.specs.Numbering.{bus_number}
use Rattle.plan_good.specs.Boards.{Board}
use Rattle.plan_good.specs.Delivery.{BarHolds}
use Rattle.plan_good.specs.NestedAndApart.{Siblings, NestedAndApart}
use Rattle.plan_good.proofs.NestedAndApart.{planned_nested_and_apart}
use Rattle.plan_good.specs.SpareRoom.{room_of, LowWindow, on_bus, content_end, OpenExactly, RoomKept, InSpareRoom, InGap}
use Rattle.plan_good.specs.SpareRoom.{NobodyAt}

-- ---- a window over a content and spare room: the room is added to the rounded end

rounded_multiple : (x n : ℕ) → Multiple (granule low) (align_up (granule low) x + n * granule low)
rounded_multiple x n =
    multiple_add (granule low) (align_up (granule low) x) (n * granule low)
    (align_up_multiple (granule low) (pos_of_power (granule_power low)) x) (mul-mod_left n (granule low))

window_size_spare : (k n : ℕ) (rest : List Piece)
    → window_size low (layout_end 0 (content_of k n low rest)) ≡ align_up (granule low) (layout_end 0 (select k low rest)) + n * granule low
unfolding layout_end
window_size_spare k n rest = go (eqb n 0) refl
  where
    xs : List Piece
    xs = select k low rest

    go : (t : Bool) → eqb n 0 ≡ t
        → align_up (granule low) (layout_end 0 (xs ++ spare_if t k n)) ≡ align_up (granule low) (layout_end 0 xs) + n * granule low
    go true e =
        let z = eqb-true n 0 e in
        ap (λ (l : List Piece). align_up (granule low) (layout_end 0 l)) (append-nil xs)
        ∙ sym (add-zero (align_up (granule low) (layout_end 0 xs)))
        ∙ ap (λ (m : ℕ). align_up (granule low) (layout_end 0 xs) + m * granule low) (sym z)
    go false e =
        ap (align_up (granule low)) (layout_end_append 0 xs (spare_if false k n))
        ∙ align_up_of_multiple (granule low) (pos_of_power (granule_power low))
        (align_up (granule low) (layout_end 0 xs) + n * granule low) (rounded_multiple (layout_end 0 xs) n)

-- and it changes no alignment
largest_align_append : (xs : List Piece) (p : Piece) → largest_align (xs ++ (p ∷ [])) ≡ max (largest_align xs) p.align
unfolding largest_align
largest_align_append [] p = omega arith
largest_align_append (x ∷ xs) p = omega (arith, largest_align_append xs p)

window_align_spare : (k n : ℕ) (rest : List Piece)
    → window_align low (largest_align (content_of k n low rest)) ≡ window_align low (largest_align (select k low rest))
window_align_spare k n rest = go (eqb n 0)
  where
    xs : List Piece
    xs = select k low rest

    go : (t : Bool) → window_align low (largest_align (xs ++ spare_if t k n)) ≡ window_align low (largest_align xs)
    go true = ap (λ (l : List Piece). window_align low (largest_align l)) (append-nil xs)
    go false = omega (arith, largest_align_append xs (spare_piece k n))

-- there is something where there is spare room or content, and nothing else
none_of_append : (xs ys : List Piece) → xs ++ ys ≡ [] → (xs ≡ []) × (ys ≡ [])
none_of_append [] ys e = (refl, e)
none_of_append (x ∷ xs) ys e = absurd (cons≢nil e)

spare_of_none : (k n : ℕ) → spare_pieces k n low ≡ [] → n ≡ 0
spare_of_none k n = go (eqb n 0) refl
  where
    go : (t : Bool) → eqb n 0 ≡ t → spare_if t k n ≡ [] → n ≡ 0
    go true e h = eqb-true n 0 e
    go false e h = absurd (cons≢nil h)

content_of_none : (k n : ℕ) (rest : List Piece) → n ≡ 0 → select k low rest ≡ [] → content_of k n low rest ≡ []
content_of_none k n rest z e = ap (λ (m : ℕ). content_of k m low rest) z ∙ append-nil (select k low rest) ∙ e

-- ---- what is on a bridge's bus comes after it

skip_to : (b : ℕ) (q : Pool) (m k : ℕ) (fs : List Function) → Sized fs
    → ((j : ℕ) (g : Function) → j < m → IsAt fs j g → g.parent ≡ b → ⊥) → m ≤ length fs
    → select b q (pieces k fs) ≡ select b q (pieces (k + m) (drop m fs))
skip_to b q zero k fs s ne l = ap (λ (n : ℕ). select b q (pieces n fs)) (sym (add-zero k))
skip_to b q (suc m) k [] s ne l = absurd (omega arith)
skip_to b q (suc m) k (f ∷ fs) s ne l =
    select_skip b q k f fs s.0 (ne 0 f (omega arith) refl)
    ∙ skip_to b q m (suc k) fs s.1 (λ j g h e. ne (suc j) g (omega arith) e) (omega arith)
    ∙ ap (λ (n : ℕ). select b q (pieces n (drop m fs))) (omega arith)

inside_of_at : (i : ℕ) (fs : List Function) (f : Function) → IsAt fs i f → i < length fs
inside_of_at zero [] f e = absurd (nothing e)
  where
    nothing : [] ≡ f ∷ [] → ⊥
    nothing g = let z = ap length g in omega (arith, z)
inside_of_at zero (g ∷ fs) f e = omega arith
inside_of_at (suc i) [] f e = absurd (nothing e)
  where
    nothing : [] ≡ f ∷ [] → ⊥
    nothing g = let z = ap length g in omega (arith, z)
inside_of_at (suc i) (g ∷ fs) f e = omega (arith, inside_of_at i fs f e)

module _ (h : Host) (fs : List Function) (lawful : Lawful fs) (i : ℕ) (f : Function) (at : IsAt fs i f) (bridge : f.bridge ≡ true) where
  abbrev rest : List Piece
  rest = pieces (suc (suc i)) (drop (suc i) fs)

  earlier_parent : (j : ℕ) (g : Function) → j < suc i → IsAt fs j g → g.parent ≡ suc i → ⊥
  earlier_parent j g l e p =
      let o = ordered_from fs lawful.ordered j in
      let d : DepthFirst o.allowed (suc j) (g ∷ drop (suc j) fs) = subst (DepthFirst o.allowed (suc j)) e o.ordered in
      omega (arith, o.bounded g.parent d.0, p)

  on_bus_lem : select (suc i) low (pieces 1 fs) ≡ select (suc i) low rest
  on_bus_lem =
      skip_to (suc i) low (suc i) 1 fs lawful.sized earlier_parent (inside_of_at i fs f at)
      ∙ ap (λ (n : ℕ). select (suc i) low (pieces n (drop (suc i) fs))) (omega arith)

  sized_here : Sized (f ∷ drop (suc i) fs)
  sized_here = subst Sized at (all_drop BarsSized i fs lawful.sized)

  owned : All (Own (suc i) f rest) (own_pieces (suc i) f rest)
  owned = own_pieces_lem (suc i) f rest sized_here.0

  mine : List Placed
  mine = keep (λ x. eqb x.piece.owner (suc i)) (placed h fs)

  mine_are : map (λ (x : Placed). x.piece) mine ≡ own_pieces (suc i) f rest
  unfolding mine
  mine_are = pieces_of_record h fs lawful i f at

  own_of : (w : Placed) → w ∈ placed h fs → w.piece.owner ≡ suc i → Own (suc i) f rest w.piece
  unfolding mine
  own_of w m o =
      let kept : w ∈ mine = keep_intro (λ x. eqb x.piece.owner (suc i)) (placed h fs) m (eq-eqb w.piece.owner (suc i) o) in
      let among : w.piece ∈ own_pieces (suc i) f rest =
      subst (λ (l : List Piece). w.piece ∈ l) mine_are (Memᴰ.map (λ (x : Placed). x.piece) kept) in
      all_elim (Own (suc i) f rest) (own_pieces (suc i) f rest) owned among

  module _ (w : Placed) (mw : w ∈ placed h fs) (v : LowWindow (suc i) w) where
    sized_by_lem : SizedBy (content_of (suc i) f.spare_low low rest) w.piece
    sized_by_lem =
        subst (λ (q : Pool). SizedBy (content_of (suc i) f.spare_low q rest) w.piece) v.pool_is
        ((own_of w mw v.owner_is).window_sized v.is_window_lem)

    added : w.piece.size ≡ align_up (granule low) (content_end fs (suc i)) + room_of f
    added =
        sized_by_lem.size_is
        ∙ ap (λ (q : Pool). window_size q (layout_end 0 (content_of (suc i) f.spare_low low rest))) v.pool_is
        ∙ window_size_spare (suc i) f.spare_low rest
        ∙ ap (λ (l : List Piece). align_up (granule low) (layout_end 0 l) + room_of f) (sym on_bus_lem)

    align_kept : w.piece.align ≡ window_align low (largest_align (on_bus fs (suc i)))
    align_kept =
        sized_by_lem.align_is
        ∙ ap (λ (q : Pool). window_align q (largest_align (content_of (suc i) f.spare_low low rest))) v.pool_is
        ∙ window_align_spare (suc i) f.spare_low rest
        ∙ ap (λ (l : List Piece). window_align low (largest_align l)) (sym on_bus_lem)

  -- ---- and nothing lies in it

  free : (w x : Placed) → w ∈ placed h fs → x ∈ placed h fs → LowWindow (suc i) w → Holds x w → end_of x + room_of f ≤ end_of w
  free w x mw mx v held =
      let content = select (suc i) low (pieces 1 fs) in
      let shaped = pieces_shaped 1 fs lawful.sized in
      let aligns : All HasAlign content = all_imp _ _ content (all_keep (is_on (suc i) low) Shaped (pieces 1 fs) shaped) has_align in
      let inside : All (λ y. end_of y ≤ w.start + layout_end 0 content) (map (shift w.start) (layout 0 content)) =
      all_map_intro (λ y. end_of y ≤ w.start + layout_end 0 content) (shift w.start) (layout 0 content)
      (λ y m. omega (arith, (all_elim _ (layout 0 content) (layout_within 0 content aligns) m).to_end)) in
      let all_translated = all_elim _ (placed h fs) (well_placed h fs lawful).translated mw v.is_window_lem in
      let translated : select_placed (suc i) low (placed h fs) ≡ map (shift w.start) (layout 0 content) =
      subst (λ (q : Pool). select_placed (suc i) q (placed h fs) ≡ map (shift w.start) (layout 0 (select (suc i) q (pieces 1 fs))))
      v.pool_is
      (subst (λ (o : ℕ). select_placed o w.piece.pool (placed h fs)
      ≡ map (shift w.start) (layout 0 (select o w.piece.pool (pieces 1 fs)))) v.owner_is all_translated) in
      let on : is_placed_on (suc i) low x ≡ true =
      is_on_of_on (suc i) low x.piece
      (record { bus = sym held.window.owner_is ∙ v.owner_is; pool = sym held.window.pool_is ∙ v.pool_is }) in
      let there : x ∈ select_placed (suc i) low (placed h fs) = keep_intro (is_placed_on (suc i) low) (placed h fs) mx on in
      let ends : end_of x ≤ w.start + layout_end 0 content =
      all_elim (λ y. end_of y ≤ w.start + layout_end 0 content) (map (shift w.start) (layout 0 content)) inside
      (subst (λ (l : List Placed). x ∈ l) translated there) in
      omega (
        arith,
        ends,
        added w mw v,
        le_align_up (granule low) (pos_of_power (granule_power low)) (layout_end 0 content),
      )

  pub room_kept : (w : Placed) → w ∈ placed h fs → LowWindow (suc i) w → RoomKept h fs (suc i) f w
  room_kept w mw v =
      record { added = added w mw v; align_kept = align_kept w mw v; free = λ x mx held. free w x mw mx v held }

  -- ---- it opens the window

  window_there : (b : ℕ) (xs : List Piece) → (xs ≡ [] → ⊥) → Some (WindowOf (suc i) low) (window_over (suc i) b low xs)
  window_there b [] some = absurd (some refl)
  window_there b (x ∷ xs) some = inl (record { is_window_lem = refl; owner_is = refl; pool_is = refl })

  own_window : (content_of (suc i) f.spare_low low rest ≡ [] → ⊥) → Some (WindowOf (suc i) low) (own_pieces (suc i) f rest)
  unfolding own_pieces window_pieces
  own_window some =
      some_right (WindowOf (suc i) low) (bar_pieces (suc i) f.parent f.bars) _
      (rw bridge
      (some_left (WindowOf (suc i) low) (window_over (suc i) f.parent low (content_of (suc i) f.spare_low low rest)) _
      (window_there f.parent (content_of (suc i) f.spare_low low rest) some)))

  placed_window : Some (WindowOf (suc i) low) (own_pieces (suc i) f rest) → Some (LowWindow (suc i)) (placed h fs)
  unfolding mine
  placed_window own =
      let (p, m, v) = member_of_some (WindowOf (suc i) low) (own_pieces (suc i) f rest) own in
      let (x, kept, e) = Memᴰ.of_map (λ (y : Placed). y.piece) mine (subst (λ (l : List Piece). p ∈ l) (sym mine_are) m) in
      some_of_member (LowWindow (suc i)) (placed h fs)
      (keep_elim (λ y. eqb y.piece.owner (suc i)) (placed h fs) kept).0
      (subst (WindowOf (suc i) low) (sym e) v)

  pub open_exactly : OpenExactly h fs (suc i) f
  open_exactly = (
    λ s.
        let (w, mw, v) = member_of_some (LowWindow (suc i)) (placed h fs) s in
        ⊎_elim (λ (z : f.spare_low ≡ 0). inr (λ e. (sized_by_lem w mw v).filled (content_of_none (suc i) f.spare_low rest z (sym on_bus_lem ∙ e))))
        (λ n. inl n) (eq_or_ne f.spare_low 0),
    λ s.
        placed_window (own_window (λ e.
        let both = none_of_append (select (suc i) low rest) (spare_pieces (suc i) f.spare_low low) e in
        ⊎_elim (λ n. n (spare_of_none (suc i) f.spare_low both.1)) (λ n. n (on_bus_lem ∙ both.0)) s)),
  )

-- ---- no function has a BAR in a gap

-- x holds the address
record Has (a : ℕ) (x : Placed) : Type 0 where
  from_start : x.start ≤ a
  before_end : a < end_of x

module _ (h : Host) (fs : List Function) (board : Board h fs) (planned : refusal_of h fs ≡ 0) (a : ℕ) where
  xs : List Placed
  xs = placed h fs

  nested : NestedAndApart h fs
  nested = planned_nested_and_apart board planned

  -- something in the window u holds the address
  record Inside (u : Placed) : Type 0 where
    item : Placed
    among : item ∈ placed h fs
    holds : Holds item u
    has : Has a item

  record Item (x : Placed) : Type 0 where
    among : x ∈ placed h fs
    in_memory : in_space memory_space x.piece.pool ≡ true
    has : Has a x

  falls : All (λ x. x.piece.bus < x.piece.owner) (placed h fs)
  unfolding placed
  falls =
      all_place (λ p. p.bus < p.owner) (from_bases h) (pieces 1 fs)
      (bus_lt_owner only_host 1 fs board.lawful.ordered bounded_start board.lawful.sized)

  -- the window just above an item that is not on the root bus
  record WindowAbove (x : Placed) : Type 0 where
    window : Placed
    item : Item window
    holds : Holds x window
    falls : window.piece.bus < x.piece.bus

  window_above : (x : Placed) → Item x → 0 < x.piece.bus → WindowAbove x
  window_above x it pos =
      ⊎_elim (λ z. absurd (omega (arith, z))) found (all_elim _ (placed h fs) (well_placed h fs board.lawful).contained it.among)
    where
      found : Some (Holds x) (placed h fs) → WindowAbove x
      found s =
          let (v, m, held) = member_of_some (Holds x) (placed h fs) s in
          let low_than = all_elim _ (placed h fs) falls m in
          record {
            window = v;
            item = record {
              among = m;
              in_memory = ap (in_space memory_space) held.window.pool_is ∙ it.in_memory;
              has = record {
                from_start = omega (arith, held.within.from_start, it.has.from_start);
                before_end = omega (arith, held.within.to_end, it.has.before_end);
              };
            };
            holds = held;
            falls = omega (arith, low_than, held.window.owner_is);
          }

  -- two that hold one address: the same, or one is a window with something in it that holds the address too, above the other
  Related : Placed → Placed → Type 0
  Related y u = (y ≡ u) ⊎ ((Inside u × (u.piece.owner ≤ y.piece.bus)) ⊎ (Inside y × (y.piece.owner ≤ u.piece.bus)))

  same_bus : (y u : Placed) → Item y → Item u → y.piece.bus ≡ u.piece.bus → y ≡ u
  same_bus y u p q e =
      ⊎_elim (λ z. z) (λ s. absurd (⊎_elim (clash y u p q (siblings y u p q e)) (clash u y q p (siblings u y q p (sym e))) s))
      (pairwise_members (λ x z. Siblings memory_space h fs x z → Disjoint x z) (placed h fs) (nested.bars_and_windows_apart memory_space)
      p.among q.among)
    where
      siblings : (x z : Placed) → Item x → Item z → x.piece.bus ≡ z.piece.bus → Siblings memory_space h fs x z
      siblings x z s t same =
          record { one_bus = ap (bus_number h.first_bus fs) same; in_space_lem = s.in_memory; also_in_space = t.in_memory }

      clash : (x z : Placed) → Item x → Item z → Siblings memory_space h fs x z → (Siblings memory_space h fs x z → Disjoint x z) → ⊥
      clash x z s t sib apart =
          ⊎_elim (λ (l : end_of x ≤ z.start). omega (arith, s.has.before_end, t.has.from_start))
          (λ (l : end_of z ≤ x.start). omega (arith, t.has.before_end, s.has.from_start)) (apart sib)

  related : (n : ℕ) (y u : Placed) → Item y → Item u → y.piece.bus + u.piece.bus < n → Related y u
  unfolding Related
  related zero y u p q l = absurd (omega arith)
  related (suc n) y u p q l =
      ⊎_elim (λ e. inl (same_bus y u p q e))
      (λ ne. ⊎_elim (λ (m : y.piece.bus ≤ u.piece.bus). up (related n) (omega arith))
      (λ (m : u.piece.bus < y.piece.bus). down (related n) m)
      (le_or_lt y.piece.bus u.piece.bus))
      (eq_or_ne y.piece.bus u.piece.bus)
    where
      Before : Type 0
      Before = (s t : Placed) → Item s → Item t → s.piece.bus + t.piece.bus < n → Related s t

      -- y is further down: go on from the window above it
      down : Before → u.piece.bus < y.piece.bus → Related y u
      down before m =
          let v = window_above y p (omega arith) in
          let owner = v.holds.window.owner_is in
          ⊎_elim
          (λ e. inr (inl (
            record { item = y; among = p.among; holds = subst (Holds y) e v.holds; has = p.has },
            omega (arith, owner, ap (λ (x : Placed). x.piece.owner) e),
          )))
          (⊎_elim (λ s. inr (inl (s.0, omega (arith, s.1, v.falls)))) (λ s. absurd (omega (arith, s.1, owner))))
          (before v.window u v.item q (omega (arith, v.falls)))

      up : Before → y.piece.bus < u.piece.bus → Related y u
      up before m =
          let v = window_above u q (omega arith) in
          let owner = v.holds.window.owner_is in
          ⊎_elim
          (λ e. inr (inr (
            record { item = u; among = q.among; holds = subst (Holds u) (sym e) v.holds; has = q.has },
            omega (arith, owner, ap (λ (x : Placed). x.piece.owner) e),
          )))
          (⊎_elim (λ s. absurd (omega (arith, s.1, owner))) (λ s. inr (inr (s.0, omega (arith, s.1, v.falls)))))
          (before y v.window p v.item (omega (arith, v.falls)))

-- A window's address that nothing on its bus holds is nobody's
pub nobody_in_gap : (h : Host) (fs : List Function) → Board h fs → refusal_of h fs ≡ 0
    → (k : ℕ) (w : Placed) → w ∈ placed h fs → LowWindow k w → (a : ℕ) → InGap (placed h fs) w a → NobodyAt h fs a
unfolding Related
nobody_in_gap h fs board planned k w mw v a gap j held =
    let (x, mx, b) = member_of_some (BarHolds memory_space j a) (placed h fs) held in
    let bar : Item h fs board planned a x =
    record { among = mx; in_memory = b.in_space_lem; has = record { from_start = b.from_start; before_end = b.before_end } } in
    let window : Item h fs board planned a w =
    record {
      among = mw;
      in_memory = ap (in_space memory_space) v.pool_is;
      has = record { from_start = gap.from_start; before_end = gap.in_window };
    } in
    ⊎_elim
    (λ e. true≢false (sym v.is_window_lem ∙ ap (λ (y : Placed). is_window y.piece.part) (sym e) ∙ b.is_bar_lem))
    (⊎_elim
    (λ s.
    let z = s.0 in
    omega (arith, gap.not_held z.item z.among z.holds z.has.from_start, z.has.before_end))
    (λ s. true≢false (sym s.0.holds.window.is_window_lem ∙ b.is_bar_lem)))
    (related h fs board planned a (suc (x.piece.bus + w.piece.bus)) x w bar window (omega arith))

-- Spare room is such a gap
pub gap_of_spare : (h : Host) (fs : List Function) → Lawful fs → (i : ℕ) (f : Function) → IsAt fs i f → f.bridge ≡ true
    → (w : Placed) → w ∈ placed h fs → LowWindow (suc i) w → (a : ℕ) → InSpareRoom f w a → InGap (placed h fs) w a
gap_of_spare h fs lawful i f at bridge w mw v a spare =
    let kept = room_kept h fs lawful i f at bridge w mw v in
    record {
      from_start = omega (arith, kept.added, spare.from_content);
      in_window = spare.in_window;
      not_held = λ x mx held l. omega (arith, kept.free x mx held, spare.from_content);
    }
