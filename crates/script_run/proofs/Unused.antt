-- On a sheet that passes 25 a slot whose read-back is 0 has the value 0: it is no BAR, and not the upper half of one. Assumes nothing.
use Rattle.std.specs.Prelude.{◌≡◌, refl, Bool, true, false, cond, ◌&&◌, ◌||◌, List, [], ◌∷◌, ℕ, zero, suc, ◌+◌, ◌/◌, ◌%◌, ◌^◌, ◌≤◌, ◌<◌, eqb, length, get_or, drop}
use Rattle.std.proofs.Common.{sym, ap, ◌∙◌, true≢false, arith, pow_mono, get_or-drop, eqb-true, ne_eqb}
use Rattle.std.proofs.Math.Bool.{and-eq-true_iff}
use Rattle.std.proofs.lemmas.Bool.{eqb-false}
use Rattle.arith.specs.BoolLaws.{false_of_or}
use Rattle.pools.specs.declared.Pool.{Pool}
use Rattle.pools.specs.declared.Pool.TheVariants.{Low, High, Io}
use Rattle.bar.specs.declared.Slot.{Slot}
use Rattle.bar.specs.declared.Slot.TheVariants.{Unused, Bar, Upper, Bad}
use Rattle.bar.specs.Bar.{io_wrong, io_slot, any_bad, size_of, without_type, sized, bar_of, is_io_bar, is_wide, narrow_slot, joined}
use Rattle.bar.specs.Bar.{wide_pool, wide_slot, slot_here}
use Rattle.bar.specs.Bar.{slots, is_bad}
use Rattle.bar.specs.Values.{value_here, is_value, values_fit}
use Rattle.bar.specs.ValuesLaws.{not_bad_of_value}
use Rattle.bar.specs.BarLaws.{cond_intro}
use Rattle.bar.specs.SizeLaws.{power_of_size}

-- ones to the top of 64 bits reach the upper half
no_size : (mask size : ℕ) → mask < 4294967296 → size_of 64 7 mask ≡ size → ¬ (size ≡ 0) → ⊥
no_size mask size small e some =
    let s = power_of_size 64 7 mask size e (omega arith) in
    let top : s.bit ≤ 63 = omega (arith, s.most) in
    let low : 2 ^ s.bit ≤ 2 ^ 63 = pow_mono top in
    omega (arith, s.ones, low)

sized_lawful : (pool : Pool) (size : ℕ) → is_bad (sized pool true size) ≡ false → ¬ (size ≡ 0)
unfolding sized
sized_lawful pool size e z = go (eqb size 0) refl e
  where
    go : (t : Bool) → eqb size 0 ≡ t → is_bad (cond t Bad (Bar pool true size)) ≡ false → ⊥
    go true q e = true≢false e
    go false q e = eqb-false size 0 q z

wide_upper : (r u : ℕ) → r < 4294967296 → is_bad (wide_slot r u) ≡ false → ¬ (u ≡ 0)
unfolding wide_slot
wide_upper r u small lawful z = go (eqb (r / 8 % 2) 1) lawful
  where
    mask : without_type Low (joined r u) < 4294967296
    mask = omega arith

    go : (t : Bool) → is_bad (bar_of (cond t High Low) true (joined r u)) ≡ false → ⊥
    go true e = no_size (without_type Low (joined r u)) _ mask refl (sized_lawful High _ e)
    go false e = no_size (without_type Low (joined r u)) _ mask refl (sized_lawful Low _ e)

abbrev Small : List ℕ → Type 0
Small rs = (i : ℕ) → get_or rs i 0 < 4294967296

first_zero : (r : ℕ) (vs : List ℕ) → r ≡ 0 → is_value (narrow_slot r) r (value_here (narrow_slot r) vs) ≡ true → get_or vs 0 0 ≡ 0
unfolding narrow_slot
first_zero r vs z e = let f = rw z at e in eqb-true (get_or vs 0 0) 0 f

later_value : (vs : List ℕ) (j : ℕ) → get_or (drop 1 vs) j 0 ≡ 0 → get_or vs (suc j) 0 ≡ 0
later_value vs j e = let n : 1 + j ≡ suc j = omega arith in ap (λ (i : ℕ). get_or vs i 0) (sym n) ∙ sym (get_or-drop 1 vs j 0) ∙ e

pub unused_zero : (rs vs : List ℕ) → Small rs → values_fit (slots rs) rs vs ≡ true → (j : ℕ) → j < length rs → get_or rs j 0 ≡ 0
    → get_or vs j 0 ≡ 0
unfolding slots slot_here values_fit
unused_zero [] vs small e j h z = absurd (omega arith)
unused_zero (r ∷ []) vs small e zero h z =
    first_zero r vs z ((and-eq-true_iff (is_value (narrow_slot r) r (value_here (narrow_slot r) vs)) true).0 e).0
unused_zero (r ∷ []) vs small e (suc j) h z = absurd (omega arith)
unused_zero (r ∷ u ∷ us) vs small e j h z =
    go (is_wide r) refl e j h z (λ f i l y. unused_zero us (drop 1 (drop 1 vs)) (λ i. small (suc (suc i))) f i l y)
    (λ f i l y. unused_zero (u ∷ us) (drop 1 vs) (λ i. small (suc i)) f i l y)
  where
    go : (t : Bool) → is_wide r ≡ t
        → (is_value (cond t (wide_slot r u) (narrow_slot r)) r (value_here (cond t (wide_slot r u) (narrow_slot r)) vs)
        && values_fit (cond t (Upper ∷ slots us) (slots (u ∷ us))) (u ∷ us) (drop 1 vs)) ≡ true
        → (j : ℕ) → j < length (r ∷ u ∷ us) → get_or (r ∷ u ∷ us) j 0 ≡ 0
        → (values_fit (slots us) us (drop 1 (drop 1 vs)) ≡ true → (i : ℕ) → i < length us → get_or us i 0 ≡ 0 → get_or (drop 1 (drop 1 vs)) i 0
        ≡ 0)
        → (values_fit (slots (u ∷ us)) (u ∷ us) (drop 1 vs) ≡ true → (i : ℕ) → i < length (u ∷ us) → get_or (u ∷ us) i 0 ≡ 0
        → get_or (drop 1 vs) i 0 ≡ 0)
        → get_or vs j 0 ≡ 0
    go true w e zero h z two one = absurd (true≢false (sym w ∙ ap is_wide z))
    go true w e (suc zero) h z two one =
        let both = (and-eq-true_iff (is_value (wide_slot r u) r (value_here (wide_slot r u) vs)) _).0 e in
        absurd (wide_upper r u (small 0) (not_bad_of_value (wide_slot r u) r _ both.0) z)
    go true w e (suc (suc j)) h z two one =
        let both = (and-eq-true_iff (is_value (wide_slot r u) r (value_here (wide_slot r u) vs)) _).0 e in
        later_value vs (suc j) (later_value (drop 1 vs) j (two both.1 j (omega arith) z))
    go false w e zero h z two one =
        first_zero r vs z ((and-eq-true_iff (is_value (narrow_slot r) r (value_here (narrow_slot r) vs)) _).0 e).0
    go false w e (suc j) h z two one =
        let both = (and-eq-true_iff (is_value (narrow_slot r) r (value_here (narrow_slot r) vs)) _).0 e in
        later_value vs j (one both.1 j (omega arith) z)

-- ## A script's used registers are those of BARs and of their upper halves

abbrev pub is_unused : Slot → Bool
is_unused Unused = true
is_unused (Bar pool wide size) = false
is_unused Upper = false
is_unused Bad = false

abbrev Taken : Slot → Type 0
Taken x = is_unused x ≡ false

sized_taken : (pool : Pool) (wide : Bool) (size : ℕ) → Taken (sized pool wide size)
unfolding sized
sized_taken pool wide size = cond_intro Taken (eqb size 0) Bad (Bar pool wide size) refl refl

narrow_unused : (r : ℕ) → is_unused (narrow_slot r) ≡ eqb r 0
unfolding narrow_slot io_slot
narrow_unused r = go (eqb r 0)
  where
    other : Taken (cond (is_io_bar r) (cond (io_wrong r) Bad (bar_of Io false (r % 65536))) (cond (eqb (r / 2 % 4) 0) (bar_of Low false r) Bad))
    other =
        cond_intro Taken (is_io_bar r) _ _ (cond_intro Taken (io_wrong r) Bad _ refl (sized_taken Io false _))
        (cond_intro Taken (eqb (r / 2 % 4) 0) _ Bad (sized_taken Low false _) refl)

    go : (t : Bool)
        → is_unused (cond t Unused (cond (is_io_bar r) (cond (io_wrong r) Bad (bar_of Io false (r % 65536)))
        (cond (eqb (r / 2 % 4) 0) (bar_of Low false r) Bad)))
        ≡ t
    go true = refl
    go false = other

wide_used : (r u : ℕ) → is_unused (wide_slot r u) ≡ false
unfolding wide_slot
wide_used r u = sized_taken (wide_pool r) true _

-- of lawful read-backs: "0 is unused", and nothing else is
pub used_agree : (rs : List ℕ) → Small rs → any_bad (slots rs) ≡ false → (j : ℕ) → j < length rs
    → is_unused (get_or (slots rs) j Unused) ≡ eqb (get_or rs j 0) 0
unfolding slots slot_here any_bad
used_agree [] small lawful j h = absurd (omega arith)
used_agree (r ∷ []) small lawful zero h = narrow_unused r
used_agree (r ∷ []) small lawful (suc j) h = absurd (omega arith)
used_agree (r ∷ u ∷ us) small lawful j h =
    go (is_wide r) refl lawful j h (λ e i l. used_agree us (λ i. small (suc (suc i))) e i l)
    (λ e i l. used_agree (u ∷ us) (λ i. small (suc i)) e i l)
  where
    go : (t : Bool) → is_wide r ≡ t
        → (is_bad (cond t (wide_slot r u) (narrow_slot r)) || any_bad (cond t (Upper ∷ slots us) (slots (u ∷ us)))) ≡ false
        → (j : ℕ) → j < length (r ∷ u ∷ us)
        → (any_bad (slots us) ≡ false → (i : ℕ) → i < length us → is_unused (get_or (slots us) i Unused) ≡ eqb (get_or us i 0) 0)
        → (any_bad (slots (u ∷ us)) ≡ false → (i : ℕ) → i < length (u ∷ us)
        → is_unused (get_or (slots (u ∷ us)) i Unused) ≡ eqb (get_or (u ∷ us) i 0) 0)
        → is_unused (get_or (cond t (wide_slot r u) (narrow_slot r) ∷ cond t (Upper ∷ slots us) (slots (u ∷ us))) j Unused)
        ≡ eqb (get_or (r ∷ u ∷ us) j 0) 0
    go true w e zero h two one =
        wide_used r u ∙ sym (ne_eqb r 0 (λ z. true≢false (sym w ∙ ap is_wide z)))
    go true w e (suc zero) h two one =
        let both = false_of_or (is_bad (wide_slot r u)) (any_bad (Upper ∷ slots us)) e in
        sym (ne_eqb u 0 (wide_upper r u (small 0) both.0))
    go true w e (suc (suc j)) h two one =
        let both = false_of_or (is_bad (wide_slot r u)) (any_bad (Upper ∷ slots us)) e in
        two both.1 j (omega arith)
    go false w e zero h two one = narrow_unused r
    go false w e (suc j) h two one =
        let both = false_of_or (is_bad (narrow_slot r)) (any_bad (slots (u ∷ us))) e in
        one both.1 j (omega arith)
