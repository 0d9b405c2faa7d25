-- Whole-number sums in 64 bits. A walk that keeps min(x, 2^62) for each end x, and for each size, comes to what the walk over whole numbers
-- comes to, cut at 2^62; and no pool reaches 2^52, so that no answer changes. Alignments are powers of two up to 2^63 and are kept whole.
-- Assumes nothing.
use Rattle.std.specs.Prelude.{◌≡◌, refl, Bool, true, false, cond, ◌&&◌, List, [], ◌∷◌, ℕ, suc, ◌+◌, ◌≤◌, ◌<◌, max, ◌*◌, eqb, ltb, drop}
use Rattle.std.proofs.Common.{sym, ap, ◌∙◌, ⊎_elim, arith, lt-ltb, le-ltb}
use Rattle.arith.specs.Order.{le_or_lt}
use Rattle.arith.specs.Align.{align_up}
use Rattle.arith.specs.Powers.{PowerOfTwo}
use Rattle.arith.specs.AlignLaws.{le_align_up}
use Rattle.arith.specs.PowersLaws.{pos_of_power}
use Rattle.lists.specs.Lists.{All}
use Rattle.lists.specs.ListLaws.{all_imp, all_drop}
use Rattle.lists.specs.KeepLaws.{all_keep}
use Rattle.plan_rule.specs.Pools.{Pool, low, high, io, granule, same_pool}
use Rattle.plan_rule.proofs.PoolLaws.{granule_power}
use Rattle.plan_rule.specs.Records.{Host, Bar, Function, Sized, Lawful}
use Rattle.plan_rule.specs.Pieces.{pieces}
use Rattle.plan_rule.proofs.PieceLaws.{BarsSized, Shaped, has_align, pieces_shaped}
use Rattle.plan_rule.specs.Layout.{Piece, is_on, select}
use Rattle.plan_rule.proofs.LayoutLaws.{HasAlign}
use Rattle.plan_rule.specs.declared.Extent.{Extent}
use Rattle.plan_rule.specs.Sizing.{grow, extend, with_bars, with_window, spare_grown, with_spare, spared, Laid, laid_from, bus_laid}
use Rattle.plan_rule.specs.Sizing.{bars_laid, window_laid, function_laid, root_laid, ends_past}
use Rattle.plan_rule.proofs.SizingLaws.{laid_ext, Ready, bus_laid_child, function_laid_bridge, out_of_pool_laid}
use Rattle.plan_rule.proofs.RecordLaws.{IsAt}
use Rattle.plan_rule.specs.Refusals.{out_of_pool}
use Rattle.plan_rule.specs.Cap.{cap, limit}

abbrev pub capped : Extent → Extent
capped e = record { end = cap e.end; align = e.align }

abbrev pub capped_laid : Laid → Laid
capped_laid l = record { next = l.next; extent = λ q. capped (l.extent q) }

pub cap_cap : (x : ℕ) → cap (cap x) ≡ cap x
cap_cap x = omega arith

capped_capped : (e : Extent) → capped (capped e) ≡ capped e
capped_capped e = ap (λ (n : ℕ). record { end = n; align = e.align }) (cap_cap e.end)

-- An aligned capped end, capped, is the aligned end, capped
pub cap_align : (a : ℕ) → 0 < a → (e : ℕ) → cap (align_up a (cap e)) ≡ cap (align_up a e)
cap_align a pos e = ⊎_elim small large (le_or_lt e limit)
  where
    small : e ≤ limit → cap (align_up a (cap e)) ≡ cap (align_up a e)
    small h = let s : cap e ≡ e = omega arith in ap (λ (x : ℕ). cap (align_up a x)) s

    large : limit < e → cap (align_up a (cap e)) ≡ cap (align_up a e)
    large h =
        let s : cap e ≡ limit = omega arith in
        ap (λ (x : ℕ). cap (align_up a x)) s ∙ omega (arith, le_align_up a pos limit, le_align_up a pos e)

-- In the words of the code: one item more, from a capped start to a capped end
pub cap_grow : (e : Extent) (z a start end align : ℕ) → start ≡ cap (align_up a e.end) → end ≡ cap (start + z) → align ≡ max e.align a
    → ◌≡◌ {A = Extent} (record { end = end; align = align }) (capped (grow e z a))
cap_grow e z a start end align s f g =
    let whole : end ≡ cap (align_up a e.end + z) = omega (arith, s, f) in
    λ i. record { end = whole i; align = g i }

-- The same where only the end is
cap_grow_whole : (e : Extent) (z a : ℕ) → 0 < a → capped (grow (capped e) z a) ≡ capped (grow e z a)
cap_grow_whole e z a pos =
    let s : cap (align_up a (cap e.end) + z) ≡ cap (align_up a e.end + z) = omega (arith, cap_align a pos e.end) in
    ap (λ (n : ℕ). record { end = n; align = max e.align a }) s

cap_extend : (e : Extent) (ps : List Piece) → All HasAlign ps → capped (extend (capped e) ps) ≡ capped (extend e ps)
unfolding extend
cap_extend e [] h = capped_capped e
cap_extend e (p ∷ ps) h =
    sym (cap_extend (grow (capped e) p.size p.align) ps h.1)
    ∙ ap (λ (x : Extent). capped (extend x ps)) (cap_grow_whole e p.size p.align h.0)
    ∙ cap_extend (grow e p.size p.align) ps h.1

pub cap_with_bars : (q : Pool) (e : Extent) (bs : List Bar) → All (λ b. PowerOfTwo b.size) bs → capped (with_bars q (capped e) bs)
    ≡ capped (with_bars q e bs)
unfolding with_bars
cap_with_bars q e [] h = capped_capped e
cap_with_bars q e (b ∷ bs) h =
    sym (cap_with_bars q (next (capped e) (same_pool b.pool q)) bs h.1)
    ∙ ap (λ (x : Extent). capped (with_bars q x bs)) (step (same_pool b.pool q))
    ∙ cap_with_bars q (next e (same_pool b.pool q)) bs h.1
  where
    next : Extent → Bool → Extent
    next x t = cond t (grow x b.size b.size) x

    step : (t : Bool) → capped (next (capped e) t) ≡ capped (next e t)
    step true = cap_grow_whole e b.size b.size (pos_of_power h.0)
    step false = capped_capped e

cap_with_window : (q : Pool) (e inner : Extent) → capped (with_window q (capped e) (capped inner)) ≡ capped (with_window q e inner)
cap_with_window q e inner = go (eqb inner.align 0)
  where
    g : ℕ
    g = granule q

    pos : 0 < granule q
    pos = pos_of_power (granule_power q)

    a : ℕ
    a = max (granule q) inner.align

    ends : cap (align_up a (cap e.end) + align_up g (cap inner.end)) ≡ cap (align_up a e.end + align_up g inner.end)
    ends = omega (arith, cap_align a (omega (arith, pos)) e.end, cap_align g pos inner.end)

    go : (t : Bool)
        → capped (cond t (capped e) (grow (capped e) (align_up g (cap inner.end)) a))
        ≡ capped (cond t e (grow e (align_up g inner.end) a))
    go true = capped_capped e
    go false = ap (λ (n : ℕ). record { end = n; align = max e.align a }) ends

-- The spare room on a capped bus
cap_spare : (q : Pool) (n : ℕ) (e : Extent) → capped (with_spare q n (capped e)) ≡ capped (with_spare q n e)
cap_spare low n e = go (eqb n 0)
  where
    go : (t : Bool) → capped (spare_grown t (capped e) n) ≡ capped (spare_grown t e n)
    go true = capped_capped e
    go false = cap_grow_whole e (n * granule low) (granule low) (pos_of_power (granule_power low))
cap_spare high n e = capped_capped e
cap_spare io n e = capped_capped e

pub cap_spared : (n : ℕ) (l : Laid) → capped_laid (spared n (capped_laid l)) ≡ capped_laid (spared n l)
cap_spared n l = laid_ext _ _ refl (λ q. cap_spare q n (l.extent q))

-- For all pools at once
cap_window_laid : (l inner : Laid) → capped_laid (window_laid (capped_laid l) (capped_laid inner)) ≡ capped_laid (window_laid l inner)
cap_window_laid l inner = laid_ext _ _ refl (λ q. cap_with_window q (l.extent q) (inner.extent q))

pub cap_bus_laid : (fs : List Function) → Sized fs → (b : ℕ) (l : Laid) → capped_laid (bus_laid fs b (capped_laid l))
    ≡ capped_laid (bus_laid fs b l)
unfolding bus_laid
cap_bus_laid fs h b l =
    laid_ext _ _ refl
    (λ q.
    let rest = pieces (suc l.next) (drop l.next fs) in
    cap_extend (l.extent q) (select b q rest)
    (all_imp _ _ (select b q rest)
    (all_keep (is_on b q) Shaped rest (pieces_shaped (suc l.next) (drop l.next fs) (all_drop BarsSized l.next fs h)))
    has_align))

-- Past a pool that ends below 2^52 is the same of both
pub cap_past : (last x : ℕ) → last < 4503599627370496 → ltb (suc last) (cap x) ≡ ltb (suc last) x
cap_past last x h =
    ⊎_elim
    (λ (l : x ≤ suc last). le-ltb (suc last) (cap x) (omega arith) ∙ sym (le-ltb (suc last) x l))
    (λ (l : suc last < x). lt-ltb (suc last) (cap x) (omega arith) ∙ sym (lt-ltb (suc last) x l))
    (le_or_lt x (suc last))

pub cap_small : (x : ℕ) → x ≤ limit → cap x ≡ x
cap_small x h = omega arith

-- So a pool runs out exactly when the capped walk over the root bus ends past it
pub out_of_pool_capped : (h : Host) (fs : List Function) → Lawful fs → (q : Pool) → h.last q < 4503599627370496
    → out_of_pool h fs q ≡ ends_past (h.last q) ((capped_laid (bus_laid fs 0 (root_laid h))).extent q)
out_of_pool_capped h fs lawful q l =
    let x = (bus_laid fs 0 (root_laid h)).extent q in
    out_of_pool_laid fs lawful h q ∙ ap (λ (t : Bool). ltb 0 x.align && t) (sym (cap_past (h.last q) x.end l))

-- One turn of a capped loop over the functions of bus b leaves what the loop comes to
pub bus_laid_turn : (fs : List Function) → Lawful fs → (b : ℕ) (l m : Laid) (f : Function) → Ready fs b l.next → IsAt fs l.next f
    → f.parent ≡ b
    → m ≡ capped_laid (function_laid fs f l) → capped_laid (bus_laid fs b m) ≡ capped_laid (bus_laid fs b l)
bus_laid_turn fs lawful b l m f r e p g =
    rw g (cap_bus_laid fs lawful.sized b (function_laid fs f l)) ∙ ap capped_laid (sym (bus_laid_child fs lawful b l f r e p))

-- A bridge from its capped BARs and its capped bus
pub function_laid_turn : (fs : List Function) (f : Function) (l bars inner : Laid) → f.bridge ≡ true → bars ≡ capped_laid (bars_laid f l)
    → inner ≡ capped_laid (spared f.spare_low (bus_laid fs (suc l.next) (laid_from (suc l.next)))) → capped_laid (window_laid bars inner)
    ≡ capped_laid (function_laid fs f l)
function_laid_turn fs f l bars inner b e g =
    rw (e, g) (cap_window_laid (bars_laid f l) (spared f.spare_low (bus_laid fs (suc l.next) (laid_from (suc l.next)))))
    ∙ ap capped_laid (sym (function_laid_bridge fs f l b))
