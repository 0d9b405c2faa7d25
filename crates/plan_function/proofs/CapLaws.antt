-- One function with every end cut at 2^62: a cut taken before changes nothing after it, so that cut cursors come to the cut of the whole
-- ones. Assumes nothing.
use Rattle.std.specs.Prelude.{◌≡◌, refl, Bool, true, false, cond, List, [], ◌∷◌, map, ℕ, ◌+◌, ◌<◌, max}
use Rattle.std.proofs.Common.{sym, ap, ap₂, ◌∙◌, arith, pow_pos}
use Rattle.arith.specs.Align.{align_up}
use Rattle.pools.specs.declared.Pool.{Pool}
use Rattle.pools.specs.Pools.{granule, same_pool}
use Rattle.pools.specs.PoolsLaws.{granule_pos}
use Rattle.bar.specs.declared.Slot.{Slot}
use Rattle.bar.specs.declared.Slot.TheVariants.{Unused, Bar, Upper, Bad}
use Rattle.bar.specs.Bar.{BarSize, SizedSlot}
use Rattle.lists.specs.Lists.{All}
use Rattle.plan_rule.specs.declared.Extent.{Extent}
use Rattle.plan_rule.specs.Cap.{cap}
use Rattle.plan_rule.proofs.CapLaws.{capped, cap_cap, cap_align}
use Rattle.plan_function.specs.Function.{Ends, start_of, after_bar, bar_starts, after_bars, is_empty, window_start, window_stop, after_window}
use Rattle.plan_function.specs.Function.{below_window}

abbrev pub cap_ends : Ends → Ends
cap_ends c q = cap (c q)

pub size_pos : (q : Pool) (wide : Bool) (z : ℕ) → BarSize q wide z → 0 < z
size_pos q wide z b = omega (arith, b.power, pow_pos b.bit)

-- ## BARs

cap_start : (c : Ends) (x : Slot) → SizedSlot x → cap (start_of (cap_ends c) x) ≡ cap (start_of c x)
cap_start c Unused h = refl
cap_start c (Bar q wide z) h = cap_align z (size_pos q wide z h) (c q)
cap_start c Upper h = refl
cap_start c Bad h = refl

cap_after_bar : (c : Ends) (x : Slot) → SizedSlot x → (q : Pool) → cap (after_bar (cap_ends c) x q) ≡ cap (after_bar c x q)
cap_after_bar c Unused h q = cap_cap (c q)
cap_after_bar c (Bar p wide z) h q = go (same_pool p q)
  where
    go : (t : Bool) → cap (cond t (align_up z (cap (c p)) + z) (cap (c q))) ≡ cap (cond t (align_up z (c p) + z) (c q))
    go true = omega (arith, cap_align z (size_pos p wide z h) (c p))
    go false = cap_cap (c q)
cap_after_bar c Upper h q = cap_cap (c q)
cap_after_bar c Bad h q = cap_cap (c q)

cap_ends_after : (c : Ends) (x : Slot) → SizedSlot x → cap_ends (after_bar (cap_ends c) x) ≡ cap_ends (after_bar c x)
cap_ends_after c x h = λ i q. cap_after_bar c x h q i

pub cap_after_bars : (c : Ends) (xs : List Slot) → All SizedSlot xs → (q : Pool) → cap (after_bars (cap_ends c) xs q) ≡ cap (after_bars c xs q)
unfolding after_bars
cap_after_bars c [] h q = cap_cap (c q)
cap_after_bars c (x ∷ xs) h q =
    sym (cap_after_bars (after_bar (cap_ends c) x) xs h.1 q)
    ∙ ap (λ (e : Ends). cap (after_bars e xs q)) (cap_ends_after c x h.0)
    ∙ cap_after_bars (after_bar c x) xs h.1 q

pub cap_bar_starts : (c : Ends) (xs : List Slot) → All SizedSlot xs → map cap (bar_starts (cap_ends c) xs) ≡ map cap (bar_starts c xs)
unfolding bar_starts
cap_bar_starts c [] h = refl
cap_bar_starts c (x ∷ xs) h =
    ap₂ (λ (n : ℕ) (l : List ℕ). n ∷ l) (cap_start c x h.0)
    (sym (cap_bar_starts (after_bar (cap_ends c) x) xs h.1)
    ∙ ap (λ (e : Ends). map cap (bar_starts e xs)) (cap_ends_after c x h.0)
    ∙ cap_bar_starts (after_bar c x) xs h.1)

-- ## Windows

module _ (q : Pool) (inner : Extent) (e : ℕ) where
  align_pos : 0 < max (granule q) inner.align
  align_pos = omega (arith, granule_pos q)

  pub cap_window_start : cap (window_start q (capped inner) (cap e)) ≡ cap (window_start q inner e)
  cap_window_start = cap_align (max (granule q) inner.align) align_pos e

  pub cap_window_stop : cap (window_stop q (capped inner) (cap e)) ≡ cap (window_stop q inner e)
  cap_window_stop = omega (arith, cap_window_start, cap_align (granule q) (granule_pos q) inner.end)

  pub cap_after_window : cap (after_window q (capped inner) (cap e)) ≡ cap (after_window q inner e)
  cap_after_window = go (is_empty inner)
    where
      go : (t : Bool) → cap (cond t (cap e) (window_stop q (capped inner) (cap e))) ≡ cap (cond t e (window_stop q inner e))
      go true = cap_cap e
      go false = cap_window_stop

  pub cap_below_window : (below : ℕ) → cap (below_window q (capped inner) (cap e) (cap below)) ≡ cap (below_window q inner e below)
  cap_below_window below = go (is_empty inner)
    where
      go : (t : Bool) → cap (cond t (cap below) (window_start q (capped inner) (cap e))) ≡ cap (cond t below (window_start q inner e))
      go true = cap_cap below
      go false = cap_window_start
