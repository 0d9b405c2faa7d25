-- A set whose BARs are placed: each slot's registers hold the value of its base, so the values are lawful and say the bases again. Assumes
-- nothing.
use Rattle.std.specs.Prelude.{◌≡◌, refl, Bool, true, false, cond, List, [], ◌∷◌, ℕ, zero, suc, ◌/◌, ◌%◌, ◌^◌, ◌<◌, ◌≤◌, eqb, length, get_or, drop}
use Rattle.std.proofs.Common.{ap, ◌∙◌, subst, true≢false, div-add-mod', le_refl, lt_of_lt_of_le, arith, eq-eqb, pow_mono}
use Rattle.std.proofs.Math.Seq.{drop-nil}
use Rattle.arith.specs.BoolLaws.{false_of_or}
use Rattle.pools.specs.declared.Pool.{Pool}
use Rattle.pools.specs.declared.Pool.TheVariants.{Low, High, Io}
use Rattle.bar.specs.declared.Slot.{Slot}
use Rattle.bar.specs.declared.Slot.TheVariants.{Unused, Bar, Upper, Bad}
use Rattle.bar.specs.Bar.{width, sized, is_io_bar, io_wrong, io_slot, wide_pool, is_wide, narrow_slot, wide_slot, slot_here, slots, is_bad}
use Rattle.bar.specs.Bar.{any_bad, takes_next, SizedSlot}
use Rattle.bar.specs.BarLaws.{cond_intro, sized_narrow, sized_wide, sized_slots, narrow_takes_one, wide_takes_next}
use Rattle.bar.specs.Values.{value_here, is_value, values_lawful, base_of, value_of, slot_registers, placed_values}
use Rattle.bar.specs.ValuesLaws.{Placed, base_value, value_lt, is_value_of_placed, values_fit_intro}

-- ## The registers of a slot, one or two

abbrev HasOne : Slot → Type 0
HasOne x = (r b : ℕ) → slot_registers x r b ≡ value_of x r b ∷ []

sized_has_one : (pool : Pool) (z : ℕ) → HasOne (sized pool false z)
unfolding sized
sized_has_one pool z = cond_intro HasOne (eqb z 0) Bad (Bar pool false z) (λ r b. refl) (λ r b. refl)

narrow_has_one : (r : ℕ) → HasOne (narrow_slot r)
unfolding narrow_slot io_slot
narrow_has_one r =
    cond_intro HasOne (eqb r 0) Unused _ (λ q b. refl)
    (cond_intro HasOne (is_io_bar r) _ _ (cond_intro HasOne (io_wrong r) Bad _ (λ q b. refl) (sized_has_one Io _))
    (cond_intro HasOne (eqb (r / 2 % 4) 0) _ Bad (sized_has_one Low _) (λ q b. refl)))

abbrev HasTwo : Slot → Type 0
HasTwo x = is_bad x ≡ false → (r b : ℕ) → slot_registers x r b ≡ value_of x r b % 4294967296 ∷ value_of x r b / 4294967296 ∷ []

sized_has_two : (pool : Pool) (z : ℕ) → HasTwo (sized pool true z)
unfolding sized
sized_has_two pool z = cond_intro HasTwo (eqb z 0) Bad (Bar pool true z) (λ l. absurd (true≢false l)) (λ l q b. refl)

wide_has_two : (r u : ℕ) → HasTwo (wide_slot r u)
unfolding wide_slot
wide_has_two r u = sized_has_two (wide_pool r) _

-- ## The value at each slot

abbrev pub is_upper : Slot → Bool
is_upper Unused = false
is_upper (Bar pool wide size) = false
is_upper Upper = true
is_upper Bad = false

-- every slot but an upper half finds its value where its registers start
abbrev Kept : (ℕ → ℕ) → List Slot → List ℕ → Type 0
Kept base xs rs =
    (i : ℕ) → is_upper (get_or xs i Unused) ≡ false
    → value_here (get_or xs i Unused) (drop i (placed_values base xs rs)) ≡ value_of (get_or xs i Unused) (get_or rs i 0) (base i)

kept_none : (base : ℕ → ℕ) (rs : List ℕ) → Kept base [] rs
unfolding placed_values
kept_none base rs i h = rw (drop-nil {A = ℕ} i)

kept_one : (base : ℕ → ℕ) (x : Slot) (xs : List Slot) (r : ℕ) (rs : List ℕ) → takes_next x ≡ false → HasOne x
    → Kept (λ j. base (suc j)) xs rs → Kept base (x ∷ xs) (r ∷ rs)
unfolding placed_values
kept_one base x xs r rs t o k zero h = rw (o r (base 0), t)
kept_one base x xs r rs t o k (suc i) h = rw (o r (base 0)) (k i h)

kept_two : (base : ℕ → ℕ) (x : Slot) (xs : List Slot) (r u : ℕ) (rs : List ℕ) → takes_next x ≡ true
    → ((q b : ℕ) → slot_registers x q b ≡ value_of x q b % 4294967296 ∷ value_of x q b / 4294967296 ∷ [])
    → Kept (λ j. base (suc (suc j))) xs rs → Kept base (x ∷ Upper ∷ xs) (r ∷ u ∷ rs)
unfolding placed_values
kept_two base x xs r u rs t o k zero h = rw (o r (base 0), t) (div-add-mod' (value_of x r (base 0)) 4294967296)
kept_two base x xs r u rs t o k (suc zero) h = absurd (true≢false h)
kept_two base x xs r u rs t o k (suc (suc i)) h = rw (o r (base 0)) (k i h)

kept_slots : (base : ℕ → ℕ) (rs : List ℕ) → any_bad (slots rs) ≡ false → Kept base (slots rs) rs
unfolding slots slot_here any_bad
kept_slots base [] l = kept_none base []
kept_slots base (r ∷ []) l = kept_one base (narrow_slot r) [] r [] (narrow_takes_one r) (narrow_has_one r) (kept_none (λ j. base (suc j)) [])
kept_slots base (r ∷ u ∷ us) l = go (is_wide r) l (kept_slots (λ j. base (suc (suc j))) us) (kept_slots (λ j. base (suc j)) (u ∷ us))
  where
    go : (b : Bool) → any_bad (cond b (wide_slot r u) (narrow_slot r) ∷ cond b (Upper ∷ slots us) (slots (u ∷ us))) ≡ false
        → (any_bad (slots us) ≡ false → Kept (λ j. base (suc (suc j))) (slots us) us)
        → (any_bad (slots (u ∷ us)) ≡ false → Kept (λ j. base (suc j)) (slots (u ∷ us)) (u ∷ us))
        → Kept base (cond b (wide_slot r u) (narrow_slot r) ∷ cond b (Upper ∷ slots us) (slots (u ∷ us))) (r ∷ u ∷ us)
    go true m after next =
        let (w, f) = false_of_or (is_bad (wide_slot r u)) (any_bad (slots us)) m in
        kept_two base (wide_slot r u) (slots us) r u us (wide_takes_next r u w) (wide_has_two r u w) (after f)
    go false m after next =
        let (w, f) = false_of_or (is_bad (narrow_slot r)) (any_bad (slots (u ∷ us))) m in
        kept_one base (narrow_slot r) (slots (u ∷ us)) r (u ∷ us) (narrow_takes_one r) (narrow_has_one r) (next f)

not_bad_at : (xs : List Slot) → any_bad xs ≡ false → (i : ℕ) → is_bad (get_or xs i Unused) ≡ false
unfolding any_bad
not_bad_at [] l i = refl
not_bad_at (x ∷ xs) l zero = (false_of_or (is_bad x) (any_bad xs) l).0
not_bad_at (x ∷ xs) l (suc i) = not_bad_at xs (false_of_or (is_bad x) (any_bad xs) l).1 i

-- ## Placed sets

abbrev pub PlacedSlot : Slot → ℕ → Type 0
PlacedSlot Unused base = Unit
PlacedSlot (Bar pool wide size) base = Placed pool wide size base
PlacedSlot Upper base = Unit
PlacedSlot Bad base = Unit

abbrev pub AllPlaced : (ℕ → ℕ) → List Slot → Type 0
AllPlaced base xs = (j : ℕ) → PlacedSlot (get_or xs j Unused) (base j)

width_le : (pool : Pool) (wide : Bool) → width pool wide ≤ cond wide 64 32
width_le Low wide = le_refl _
width_le High wide = le_refl _
width_le Io true = omega arith
width_le Io false = omega arith

value_lt_span : (x : Slot) (r b : ℕ) → SizedSlot x → PlacedSlot x b → value_of x r b < 2 ^ cond (takes_next x) 64 32
value_lt_span Unused r b z p = omega arith
value_lt_span (Bar pool wide size) r b z p = lt_of_lt_of_le (value_lt pool wide size z r b p) (pow_mono (width_le pool wide))
value_lt_span Upper r b z p = omega arith
value_lt_span Bad r b z p = omega arith

-- one register for each read-back, each of 32 bits
abbrev Whole : (ℕ → ℕ) → List Slot → List ℕ → Type 0
Whole base xs rs = (length (placed_values base xs rs) ≡ length rs) × ((i : ℕ) → get_or (placed_values base xs rs) i 0 < 2 ^ 32)

whole_one : (base : ℕ → ℕ) (x : Slot) (xs : List Slot) (r : ℕ) (rs : List ℕ) → HasOne x → value_of x r (base 0) < 2 ^ 32
    → Whole (λ j. base (suc j)) xs rs → Whole base (x ∷ xs) (r ∷ rs)
unfolding placed_values
whole_one base x xs r rs o v w = (rw (o r (base 0)) (ap suc w.0), rw (o r (base 0)) at_each)
  where
    at_each : (i : ℕ) → get_or (value_of x r (base 0) ∷ placed_values (λ j. base (suc j)) xs rs) i 0 < 2 ^ 32
    at_each zero = v
    at_each (suc i) = w.1 i

whole_two : (base : ℕ → ℕ) (x : Slot) (xs : List Slot) (r u : ℕ) (rs : List ℕ)
    → ((q b : ℕ) → slot_registers x q b ≡ value_of x q b % 4294967296 ∷ value_of x q b / 4294967296 ∷ []) → value_of x r (base 0) < 2 ^ 64
    → Whole (λ j. base (suc (suc j))) xs rs → Whole base (x ∷ Upper ∷ xs) (r ∷ u ∷ rs)
unfolding placed_values
whole_two base x xs r u rs o v w = (rw (o r (base 0)) (ap suc (ap suc w.0)), rw (o r (base 0)) at_each)
  where
    n : ℕ
    n = value_of x r (base 0)

    at_each : (i : ℕ) → get_or (n % 4294967296 ∷ n / 4294967296 ∷ placed_values (λ j. base (suc (suc j))) xs rs) i 0 < 2 ^ 32
    at_each zero = omega arith
    at_each (suc zero) = omega arith
    at_each (suc (suc i)) = w.1 i

narrow_lt : (r b : ℕ) → PlacedSlot (narrow_slot r) b → value_of (narrow_slot r) r b < 2 ^ 32
narrow_lt r b p = rw (narrow_takes_one r) at (value_lt_span (narrow_slot r) r b (sized_narrow r) p)

wide_lt : (r u : ℕ) → is_bad (wide_slot r u) ≡ false → (b : ℕ) → PlacedSlot (wide_slot r u) b → value_of (wide_slot r u) r b < 2 ^ 64
wide_lt r u w b p = rw (wide_takes_next r u w) at (value_lt_span (wide_slot r u) r b (sized_wide r u) p)

whole_slots : (base : ℕ → ℕ) (rs : List ℕ) → any_bad (slots rs) ≡ false → AllPlaced base (slots rs) → Whole base (slots rs) rs
unfolding slots slot_here any_bad placed_values
whole_slots base [] l f = (refl, λ i. omega arith)
whole_slots base (r ∷ []) l f =
    whole_one base (narrow_slot r) [] r [] (narrow_has_one r) (narrow_lt r (base 0) (f 0)) (refl, λ i. omega arith)
whole_slots base (r ∷ u ∷ us) l f = go (is_wide r) l f (whole_slots (λ j. base (suc (suc j))) us) (whole_slots (λ j. base (suc j)) (u ∷ us))
  where
    go : (b : Bool) → any_bad (cond b (wide_slot r u) (narrow_slot r) ∷ cond b (Upper ∷ slots us) (slots (u ∷ us))) ≡ false
        → AllPlaced base (cond b (wide_slot r u) (narrow_slot r) ∷ cond b (Upper ∷ slots us) (slots (u ∷ us)))
        → (any_bad (slots us) ≡ false → AllPlaced (λ j. base (suc (suc j))) (slots us) → Whole (λ j. base (suc (suc j))) (slots us) us)
        → (any_bad (slots (u ∷ us)) ≡ false → AllPlaced (λ j. base (suc j)) (slots (u ∷ us))
        → Whole (λ j. base (suc j)) (slots (u ∷ us)) (u ∷ us))
        → Whole base (cond b (wide_slot r u) (narrow_slot r) ∷ cond b (Upper ∷ slots us) (slots (u ∷ us))) (r ∷ u ∷ us)
    go true m q after next =
        let (w, n) = false_of_or (is_bad (wide_slot r u)) (any_bad (slots us)) m in
        whole_two base (wide_slot r u) (slots us) r u us (wide_has_two r u w) (wide_lt r u w (base 0) (q 0)) (after n (λ j. q (suc (suc j))))
    go false m q after next =
        let (w, n) = false_of_or (is_bad (narrow_slot r)) (any_bad (slots (u ∷ us))) m in
        whole_one base (narrow_slot r) (slots (u ∷ us)) r (u ∷ us) (narrow_has_one r) (narrow_lt r (base 0) (q 0)) (next n (λ j. q (suc j)))

-- where every BAR fits its base, the registers are lawful and each BAR's say its base
module _ (base : ℕ → ℕ) (rs : List ℕ) (lawful : any_bad (slots rs) ≡ false) (fits : AllPlaced base (slots rs)) where
  pub placed_values_lawful : values_lawful rs (placed_values base (slots rs) rs) ≡ true
  placed_values_lawful =
      values_fit_intro (slots rs) rs (placed_values base (slots rs) rs)
      (λ i h. go (get_or (slots rs) i Unused) _ _ _ (sized_slots rs i) (fits i) (not_bad_at (slots rs) lawful i)
      (kept_slots base rs lawful i))
    where
      go : (x : Slot) (r v b : ℕ) → SizedSlot x → PlacedSlot x b → is_bad x ≡ false → (is_upper x ≡ false → v ≡ value_of x r b)
          → is_value x r v ≡ true
      go Unused r v b z p l k = eq-eqb v 0 (k refl)
      go (Bar pool wide size) r v b z p l k = ap (is_value (Bar pool wide size) r) (k refl) ∙ is_value_of_placed pool wide size z r b p
      go Upper r v b z p l k = refl
      go Bad r v b z p l k = absurd (true≢false l)

  pub base_placed : (j : ℕ) (pool : Pool) (wide : Bool) (size : ℕ) → get_or (slots rs) j Unused ≡ Bar pool wide size
      → base_of (Bar pool wide size) (value_here (Bar pool wide size) (drop j (placed_values base (slots rs) rs))) ≡ base j
  base_placed j pool wide size e =
      let z = subst SizedSlot e (sized_slots rs j) in
      let p = subst (λ (x : Slot). PlacedSlot x (base j)) e (fits j) in
      let k = subst (λ (x : Slot). is_upper x ≡ false → value_here x (drop j (placed_values base (slots rs) rs))
      ≡ value_of x (get_or rs j 0) (base j)) e (kept_slots base rs lawful j) in
      ap (base_of (Bar pool wide size)) (k refl) ∙ base_value pool wide size z (get_or rs j 0) (base j) p

  pub length_placed_values : length (placed_values base (slots rs) rs) ≡ length rs
  length_placed_values = (whole_slots base rs lawful fits).0

  pub placed_value_lt : (i : ℕ) → get_or (placed_values base (slots rs) rs) i 0 < 2 ^ 32
  placed_value_lt = (whole_slots base rs lawful fits).1
