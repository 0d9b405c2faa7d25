-- The laws of what the code keeps: cutting twice is cutting once, and each step of the walk from what is kept comes to what is kept of the
-- step. Assumes nothing.
use Rattle.std.specs.Prelude.{◌≡◌, refl, Bool, true, false, cond, List, ◌∷◌, ℕ, ◌+◌, ◌*◌, ◌≤◌, ◌<◌, max, length, drop}
use Rattle.std.proofs.Common.{sym, ap, ◌∙◌, true≢false, add-one, arith, eq-eqb, ne_eqb, drop_of_length-le}
use Rattle.std.proofs.Math.Numerals.{add-two}
use Rattle.arith.specs.PowersLaws.{pos_of_power}
use Rattle.pools.specs.declared.Pool.{Pool}
use Rattle.pools.specs.declared.Pool.TheVariants.{Low, High, Io}
use Rattle.pools.specs.Pools.{granule}
use Rattle.bar.specs.declared.Slot.{Slot}
use Rattle.bar.specs.declared.Slot.TheVariants.{Unused, Bar, Upper, Bad}
use Rattle.bar.specs.Bar.{slot_here, slots, is_bad, any_bad, takes_next, span}
use Rattle.plan_bars.specs.Bars.{bars_from}
use Rattle.bar.specs.BarLaws.{slots_at_step, any_bad_of_bad}
use Rattle.plan_rule.proofs.PoolLaws.{granule_power}
use Rattle.plan_rule.specs.Pieces.{window_size, window_align}
use Rattle.plan_rule.specs.Records as records
use Rattle.plan_rule.specs.declared.Extent.{Extent}
use Rattle.plan_rule.specs.Sizing as placing
use Rattle.plan_rule.specs.Sizing.{grow, with_bars, with_window, spared}
use Rattle.plan_rule.proofs.SizingLaws.{laid_ext}
use Rattle.plan_rule.specs.Cap.{cap}
use Rattle.plan_rule.proofs.CapLaws.{capped, cap_cap, cap_align, capped_laid, cap_with_bars}
use Rattle.plan_sizing.specs.declared.Laid.{Laid}
use Rattle.plan_sizing.specs.FunctionsLaws.{AllSized, bars_from_sized}
use Rattle.plan_sizing.specs.Cut.{extent_in, with_extent, says, cut, Whole, add_bar, add_slot, add_bars}

-- a window over a cut end
pub cut_window : (q : Pool) (e inner : Extent) → (inner.align ≡ 0 → ⊥)
    → capped (grow e (window_size q (cap inner.end)) (window_align q inner.align)) ≡ capped (with_window q e inner)
cut_window q e inner h =
    rw (ne_eqb inner.align 0 h)
    (ap (λ (n : ℕ). record { end = n; align = max e.align (max (granule q) inner.align) })
    (omega (arith, cap_align (granule q) (pos_of_power (granule_power q)) inner.end)))

-- ## Cutting

says_cut : (l : placing.Laid) → says (cut l) ≡ capped_laid l
says_cut l = laid_ext (says (cut l)) (capped_laid l) refl each
  where
    each : (q : Pool) → (says (cut l)).extent q ≡ (capped_laid l).extent q
    each Low = refl
    each High = refl
    each Io = refl

cut_capped : (l : placing.Laid) → cut (capped_laid l) ≡ cut l
cut_capped l = rw (cap_cap (l.extent Low).end, cap_cap (l.extent High).end, cap_cap (l.extent Io).end)

pub cut_of_capped : (l m : placing.Laid) → capped_laid l ≡ capped_laid m → cut l ≡ cut m
cut_of_capped l m e = sym (cut_capped l) ∙ ap cut e ∙ cut_capped m

-- what was cut is whole
whole_cut : (l : placing.Laid) → Whole (cut l)
whole_cut l = ap cut (says_cut l) ∙ cut_capped l

pub whole_of_cut : (l : Laid) (m : placing.Laid) → l ≡ cut m → Whole l
whole_of_cut l m e = rw e (whole_cut m)

pub says_of_cut : (l : Laid) (m : placing.Laid) → l ≡ cut m → says l ≡ capped_laid m
says_of_cut l m e = ap says e ∙ says_cut m

whole_in : (l : Laid) → Whole l → (q : Pool) → extent_in l q ≡ capped (extent_in l q)
whole_in l w Low = sym (ap (λ (x : Laid). x.low) w)
whole_in l w High = sym (ap (λ (x : Laid). x.high) w)
whole_in l w Io = sym (ap (λ (x : Laid). x.io) w)

-- ## A function's BARs

-- a BAR changes its own pool's extent
pub with_bar_at : (q : Pool) (size : ℕ) (l : Laid) (e : Extent) → Whole l → e ≡ capped (grow (extent_in l q) size size)
    → with_extent l q e ≡ cut (add_bar q size (says l))
with_bar_at Low size l e w g = λ i. record { next = l.next; low = g i; high = whole_in l w High i; io = whole_in l w Io i }
with_bar_at High size l e w g = λ i. record { next = l.next; low = whole_in l w Low i; high = g i; io = whole_in l w Io i }
with_bar_at Io size l e w g = λ i. record { next = l.next; low = whole_in l w Low i; high = whole_in l w High i; io = g i }

cap_add_bars : (bs : List records.Bar) (m : placing.Laid) → AllSized bs → capped_laid (add_bars bs (capped_laid m)) ≡ capped_laid (add_bars bs m)
cap_add_bars bs m h = laid_ext _ _ refl (λ q. cap_with_bars q (m.extent q) bs h)

-- spare room moves the low pool only, and none moves nothing
pub with_spare_at : (n : ℕ) (l : Laid) (e : Extent) → Whole l → (n ≡ 0 → ⊥) → e ≡ capped (grow l.low (n * 1048576) 1048576)
    → with_extent l Low e ≡ cut (spared n (says l))
with_spare_at n l e w z g =
    rw (ne_eqb n 0 z) (λ i. record { next = l.next; low = g i; high = whole_in l w High i; io = whole_in l w Io i })

pub with_spare_none : (n : ℕ) (l : Laid) → Whole l → n ≡ 0 → l ≡ cut (spared n (says l))
with_spare_none n l w z =
    rw (eq-eqb n 0 z) (λ i. record { next = l.next; low = whole_in l w Low i; high = whole_in l w High i; io = whole_in l w Io i })

cut_add_bars : (bs : List records.Bar) (m : placing.Laid) → AllSized bs → cut (add_bars bs (says (cut m))) ≡ cut (add_bars bs m)
cut_add_bars bs m h =
    ap (λ (x : placing.Laid). cut (add_bars bs x)) (says_cut m)
    ∙ cut_of_capped (add_bars bs (capped_laid m)) (add_bars bs m) (cap_add_bars bs m h)

-- what is still to be added from place i on
abbrev pub rest_of : List ℕ → ℕ → List records.Bar
rest_of set i = bars_from i (slots (drop i set))

add_bars_step : (set : List ℕ) (i : ℕ) (x : Slot) (m : placing.Laid) → i < length set → x ≡ slot_here (drop i set) → is_bad x ≡ false
    → add_bars (rest_of set i) m ≡ add_bars (rest_of set (i + span x)) (add_slot x m)
unfolding bars_from with_bars
add_bars_step set i x m h e l = ap (λ (xs : List Slot). add_bars (bars_from i xs) m) (slots_at_step set i x h e l) ∙ go x l
  where
    go : (y : Slot) → is_bad y ≡ false
        → add_bars (bars_from i (y ∷ cond (takes_next y) (Upper ∷ slots (drop (i + 2) set)) (slots (drop (i + 1) set)))) m
        ≡ add_bars (rest_of set (i + span y)) (add_slot y m)
    go Unused g = rw (add-one i)
    go (Bar pool true size) g = rw (add-two i)
    go (Bar pool false size) g = rw (add-one i)
    go Upper g = rw (add-one i)
    go Bad g = absurd (true≢false g)

-- among lawful slots each is lawful
pub not_bad_of_lawful : (set : List ℕ) (i : ℕ) (x : Slot) → i < length set → x ≡ slot_here (drop i set) → any_bad (slots (drop i set))
    ≡ false → is_bad x ≡ false
not_bad_of_lawful set i x h e g = go (is_bad x) refl
  where
    go : (t : Bool) → is_bad x ≡ t → t ≡ false
    go true b = sym (any_bad_of_bad set i x h e b) ∙ g
    go false b = refl

-- one turn of the loop over the slots
pub bars_turn : (set : List ℕ) (i : ℕ) (x : Slot) (l r : Laid) → i < length set → x ≡ slot_here (drop i set) → is_bad x ≡ false
    → r ≡ cut (add_slot x (says l)) → cut (add_bars (rest_of set (i + span x)) (says r)) ≡ cut (add_bars (rest_of set i) (says l))
bars_turn set i x l r h e g f =
    ap (λ (y : Laid). cut (add_bars (rest_of set (i + span x)) (says y))) f
    ∙ cut_add_bars (rest_of set (i + span x)) (add_slot x (says l)) (bars_from_sized (i + span x) (drop (i + span x) set))
    ∙ ap cut (sym (add_bars_step set i x (says l) h e g))

pub bars_done : (set : List ℕ) (i : ℕ) (l : Laid) → length set ≤ i → Whole l → cut (add_bars (rest_of set i) (says l)) ≡ l
unfolding bars_from with_bars slots
bars_done set i l h w = rw (drop_of_length-le set h) w
