-- One record's items of a pool are told as the walk tells them: its BARs slot by slot, then a bridge's window; and addresses cut at 2^62 on
-- the way come to those cut at the end. Assumes nothing.
use Rattle.std.specs.Prelude.{◌≡◌, Bool, true, false, cond, ℕ, suc, ◌+◌, ◌<◌, eqb}
use Rattle.std.proofs.Math.Path.{refl}
use Rattle.std.proofs.Common.{sym, ap, ap₂, ◌∙◌, arith, eq-eqb}
use mathlib.Core.List.{List, [], ◌∷◌, ◌++◌, map, map-append}
use Rattle.arith.specs.Align.{align_up}
use Rattle.pools.specs.PoolsLaws.{granule_pos}
use Rattle.bar.specs.declared.Slot.{Slot}
use Rattle.bar.specs.declared.Slot.TheVariants.{Unused, Bar, Upper, Bad}
use Rattle.bar.specs.Bar.{SizedSlot}
use Rattle.lists.specs.Lists.{All, keep}
use Rattle.lists.specs.ListLaws.{all_imp}
use Rattle.plan_bars.specs.Bars.{bars_from}
use Rattle.plan_rule.specs.Pools.{Pool, granule, same_pool}
use Rattle.plan_rule.specs.Records.{Function}
use Rattle.plan_rule.proofs.RecordLaws.{false_of_not}
use Rattle.plan_rule.specs.Layout.{Piece, select, end_at, layout_end}
use Rattle.plan_rule.proofs.LayoutLaws.{HasAlign}
use Rattle.plan_rule.specs.Pieces.{window_piece, bar_piece, bar_pieces, own_pieces}
use Rattle.plan_rule.proofs.PieceLaws.{Own, BarsSized, own_pieces_lem, Shaped, window_of_is}
use Rattle.plan_rule.specs.Placing.{Cursors, is_window_of}
use Rattle.plan_rule.specs.declared.Extent.{Extent}
use Rattle.plan_rule.specs.Sizing.{nothing, extend, with_spare, window_for}
use Rattle.plan_rule.specs.Cap.{cap}
use Rattle.plan_rule.proofs.CapLaws.{capped, cap_align}
use Rattle.plan_function.proofs.CapLaws.{size_pos}
use Rattle.plan_function.proofs.FunctionLaws.{select_own}
use Rattle.plan_items.specs.declared.Told.{Told}
use Rattle.plan_items.specs.Items.{item_at, items_from, place_of}
use Rattle.plan_items.specs.Walk.{told_of, told_at, bars_told, bars_end, window_told}
use Rattle.plan_items.specs.ItemsLaws.{told_in, items_laid, items_laid_append, OnBus, items_select}

-- an item, told from the cut end before it; of a larger size than 2^62 any such will do
told_at_lem : (p : Piece) (e z : ℕ) → HasAlign p → cap z ≡ cap p.size
    → told_of (item_at e p) ≡ told_at p.bus p.owner (place_of p.part p.pool) (cap e) z p.align
told_at_lem p e z h same =
    let start : cap (align_up p.align e) ≡ cap (align_up p.align (cap e)) = sym (cap_align p.align h e) in
    let stop : cap (align_up p.align e + p.size) ≡ cap (cap (align_up p.align (cap e)) + z) = omega (arith, start, same) in
    λ i. record {
      root = eqb p.bus 0;
      party = record { number = p.owner; place = place_of p.part p.pool };
      before = cap e;
      start = start i;
      stop = stop i;
    }

-- nothing laid out
nothing_told : (e : ℕ) → map told_of (items_laid e []) ≡ []
unfolding items_laid
nothing_told e = refl

-- ## BARs

module _ (k b : ℕ) (q : Pool) where
  -- the pieces of pool q from slot s on
  abbrev slot_pieces : ℕ → List Slot → List Piece
  slot_pieces s ss = select b q (bar_pieces k b (bars_from s ss))

  bar_stop : (e z : ℕ) → 0 < z → cap (align_up z e + z) ≡ cap (cap (align_up z (cap e)) + z)
  bar_stop e z pos = omega (arith, cap_align z pos e)

  bars_told_lem : (e s : ℕ) (ss : List Slot) → All SizedSlot ss → map told_of (items_laid e (slot_pieces s ss)) ≡ bars_told q b k s (cap e) ss
  unfolding items_laid keep bar_pieces bars_from bars_told
  bars_told_lem e s [] h = refl
  bars_told_lem e s (Unused ∷ ss) h = bars_told_lem e (suc s) ss h.1
  bars_told_lem e s (Upper ∷ ss) h = bars_told_lem e (suc s) ss h.1
  bars_told_lem e s (Bad ∷ ss) h = bars_told_lem e (suc s) ss h.1
  bars_told_lem e s (Bar p wide z ∷ ss) h = rw (eq-eqb b b refl) (go (same_pool p q) (λ n. bars_told_lem n (suc s) ss h.1))
    where
      rest : List Piece
      rest = slot_pieces (suc s) ss

      x : Piece
      x = bar_piece k b (record { slot = s; pool = p; size = z })

      here : Told
      here = told_at b k s (cap e) z z

      go : (t : Bool) → ((n : ℕ) → map told_of (items_laid n rest) ≡ bars_told q b k (suc s) (cap n) ss)
          → map told_of (items_laid e (cond t (x ∷ rest) rest))
          ≡ cond t (here ∷ bars_told q b k (suc s) here.stop ss) (bars_told q b k (suc s) (cap e) ss)
      go true ih =
          ap₂ (λ (y : Told) (l : List Told). y ∷ l) (told_at_lem x e z (size_pos p wide z h.0) refl)
          (ih (end_at e x) ∙ ap (λ (n : ℕ). bars_told q b k (suc s) n ss) (bar_stop e z (size_pos p wide z h.0)))
      go false ih = ih e

  bars_end_lem : (e s : ℕ) (ss : List Slot) → All SizedSlot ss → cap (layout_end e (slot_pieces s ss)) ≡ bars_end q (cap e) ss
  unfolding layout_end keep bar_pieces bars_from bars_end
  bars_end_lem e s [] h = refl
  bars_end_lem e s (Unused ∷ ss) h = bars_end_lem e (suc s) ss h.1
  bars_end_lem e s (Upper ∷ ss) h = bars_end_lem e (suc s) ss h.1
  bars_end_lem e s (Bad ∷ ss) h = bars_end_lem e (suc s) ss h.1
  bars_end_lem e s (Bar p wide z ∷ ss) h = rw (eq-eqb b b refl) (go (same_pool p q) (λ n. bars_end_lem n (suc s) ss h.1))
    where
      rest : List Piece
      rest = slot_pieces (suc s) ss

      x : Piece
      x = bar_piece k b (record { slot = s; pool = p; size = z })

      go : (t : Bool) → ((n : ℕ) → cap (layout_end n rest) ≡ bars_end q (cap n) ss)
          → cap (layout_end e (cond t (x ∷ rest) rest)) ≡ bars_end q (cond t (cap (cap (align_up z (cap e)) + z)) (cap e)) ss
      go true ih = ih (end_at e x) ∙ ap (λ (n : ℕ). bars_end q n ss) (bar_stop e z (size_pos p wide z h.0))
      go false ih = ih e

  -- ## A window

  window_told_lem : (e : ℕ) (inner : Extent) → map told_of (items_laid e (window_for k b q inner)) ≡ window_told q b k (cap e) (capped inner)
  unfolding items_laid
  window_told_lem e inner = go (eqb inner.align 0)
    where
      p : Piece
      p = window_piece k b q inner.end inner.align

      go : (t : Bool) → map told_of (items_laid e (cond t [] (p ∷ [])))
          ≡ cond t [] (told_at b k (place_of p.part q) (cap e) (align_up (granule q) (cap (cap inner.end))) p.align ∷ [])
      go true = refl
      go false =
          ap (λ (y : Told). y ∷ [])
          (told_at_lem p e (align_up (granule q) (cap (cap inner.end))) (omega (arith, granule_pos q))
          (cap_align (granule q) (granule_pos q) (cap inner.end) ∙ cap_align (granule q) (granule_pos q) inner.end))

-- ## A record's own pieces

-- record k with these slots, from cursors c; `rest` is what the later records place
module _ (k : ℕ) (f : Function) (ss : List Slot) (rest : List Piece) (c : Cursors) (bars : f.bars ≡ bars_from 0 ss) (before : f.parent < k)
    (sized : BarsSized f) (slots_sized : All SizedSlot ss) (shaped : All Shaped rest) (q : Pool) where
  abbrev own : List Piece
  own = own_pieces k f rest

  abbrev b : ℕ
  b = f.parent

  -- what its bus comes to, with its spare room
  abbrev inner : Extent
  inner = with_spare q f.spare_low (extend nothing (select k q rest))

  abbrev windows_in : List Piece
  windows_in = cond f.bridge (window_for k b q inner) []

  on_bus_lem : All (OnBus b q) own
  on_bus_lem = all_imp _ _ own (own_pieces_lem k f rest sized) each
    where
      each : (p : Piece) → Own k f rest p → OnBus b q p
      each p o =
          (o.bus_is, false_of_not (is_window_of b q p) (λ e. omega (arith, (window_of_is b q p e).owner_is, o.owner_is)))

  pub own_told : told_in q (items_from c own)
      ≡ bars_told q b k 0 (cap (c b q)) ss
      ++ cond f.bridge (window_told q b k (bars_end q (cap (c b q)) ss) (capped inner)) []
  own_told =
      ap (map told_of)
      (items_select b q c own on_bus_lem ∙ ap (items_laid (c b q)) (select_own k f ss rest c bars before sized shaped q)
      ∙ items_laid_append (c b q) (slot_pieces k b q 0 ss) windows_in)
      ∙ map-append told_of (items_laid (c b q) (slot_pieces k b q 0 ss)) (items_laid (layout_end (c b q) (slot_pieces k b q 0 ss)) windows_in)
      ∙ ap₂ (λ (x y : List Told). x ++ y) (bars_told_lem k b q (c b q) 0 ss slots_sized) (go f.bridge)
    where
      e : ℕ
      e = layout_end (c b q) (slot_pieces k b q 0 ss)

      go : (t : Bool) → map told_of (items_laid e (cond t (window_for k b q inner) []))
          ≡ cond t (window_told q b k (bars_end q (cap (c b q)) ss) (capped inner)) []
      go true =
          window_told_lem k b q e inner
          ∙ ap (λ (n : ℕ). window_told q b k n (capped inner)) (bars_end_lem k b q (c b q) 0 ss slots_sized)
      go false = nothing_told e
