-- Slots: the slots of a set step by step, and the bounds of a BAR's size. Assumes nothing.
use Rattle.std.specs.Prelude.{◌≡◌, refl, Bool, true, false, cond, ◌&&◌, List, [], ◌∷◌, ℕ, zero, suc, ◌+◌, ◌/◌, ◌%◌, ◌<◌, ◌≤◌, min, eqb, ltb, length, get_or, take, drop}
use Rattle.std.proofs.Common.{sym, ap, ◌∙◌, true≢false, ⊎_elim, arith, add-one, ltb-true, ltb-false, length-take, length-drop, drop_of_length-le, drop-cons, drop-drop, get_or-take}
use Rattle.std.proofs.lemmas.Bool.{eqb-false}
use Rattle.pools.specs.declared.Pool.{Pool}
use Rattle.pools.specs.declared.Pool.TheVariants.{Low, Io}
use Rattle.bar.specs.declared.Slot.{Slot}
use Rattle.bar.specs.declared.Slot.TheVariants.{Unused, Bar, Upper, Bad}
use Rattle.bar.specs.Bar.{size_of, least_bit, width, without_type, sized, bar_of, is_io_bar, io_slot, io_wrong, wide_pool, is_wide, joined}
use Rattle.bar.specs.Bar.{narrow_slot, wide_slot, slot_here, slots, is_bad, any_bad, takes_next, span, SizedSlot}
use Rattle.bar.specs.SizeLaws.{size_cases}

-- what holds of both slots holds of the one that a test picks
pub cond_intro : (P : Slot → Type 0) (b : Bool) (x y : Slot) → P x → P y → P (cond b x y)
cond_intro P true x y p q = p
cond_intro P false x y p q = q

-- ## Sizes

sized_bar : (pool : Pool) (wide : Bool) (r : ℕ) → SizedSlot (bar_of pool wide r)
unfolding sized
sized_bar pool wide r = go (eqb z 0) refl
  where
    mask : ℕ
    mask = without_type pool r

    z : ℕ
    z = size_of (width pool wide) (least_bit pool) mask

    go : (b : Bool) → eqb z 0 ≡ b → SizedSlot (cond b Bad (Bar pool wide z))
    go true e = tt
    go false e =
        ⊎_elim (λ h. absurd (eqb-false _ _ e h))
        (λ s. record { bit = s.bit; least = s.least; most = s.most; power = s.power })
        (size_cases (width pool wide) (least_bit pool) mask)

pub sized_narrow : (r : ℕ) → SizedSlot (narrow_slot r)
unfolding narrow_slot io_slot
sized_narrow r =
    cond_intro SizedSlot (eqb r 0) Unused _ tt
    (cond_intro SizedSlot (is_io_bar r) _ _ (cond_intro SizedSlot (io_wrong r) Bad _ tt (sized_bar Io false (r % 65536)))
    (cond_intro SizedSlot (eqb (r / 2 % 4) 0) _ Bad (sized_bar Low false r) tt))

pub sized_wide : (r u : ℕ) → SizedSlot (wide_slot r u)
unfolding wide_slot
sized_wide r u = sized_bar (wide_pool r) true (joined r u)

pub sized_here : (s : List ℕ) → SizedSlot (slot_here s)
unfolding slot_here
sized_here [] = tt
sized_here (r ∷ []) = sized_narrow r
sized_here (r ∷ u ∷ us) = cond_intro SizedSlot (is_wide r) _ _ (sized_wide r u) (sized_narrow r)

pub sized_slots : (s : List ℕ) (i : ℕ) → SizedSlot (get_or (slots s) i Unused)
unfolding slots
sized_slots [] i = tt
sized_slots (r ∷ []) zero = sized_here (r ∷ [])
sized_slots (r ∷ []) (suc i) = tt
sized_slots (r ∷ u ∷ us) zero = sized_here (r ∷ u ∷ us)
sized_slots (r ∷ u ∷ us) (suc i) = go (is_wide r) i (λ k. sized_slots us k) (λ k. sized_slots (u ∷ us) k)
  where
    go : (b : Bool) (k : ℕ) → ((m : ℕ) → SizedSlot (get_or (slots us) m Unused)) → ((m : ℕ) → SizedSlot (get_or (slots (u ∷ us)) m Unused))
        → SizedSlot (get_or (cond b (Upper ∷ slots us) (slots (u ∷ us))) k Unused)
    go true zero p q = tt
    go true (suc k) p q = p k
    go false k p q = q k

-- ## The slot at a place

slot_here_none : (s : List ℕ) (i : ℕ) → length s ≤ i → slot_here (drop i s) ≡ Unused
unfolding slot_here
slot_here_none s i h = rw (drop_of_length-le s h)

slot_here_last : (s : List ℕ) (i : ℕ) → i < length s → length s ≤ i + 1 → slot_here (drop i s) ≡ narrow_slot (get_or s i 0)
unfolding slot_here
slot_here_last s i h l = rw (drop-cons s i 0 h, drop_of_length-le s {i = suc i} (omega arith))

slot_here_pair : (s : List ℕ) (i : ℕ) → i + 1 < length s
    → slot_here (drop i s) ≡ cond (is_wide (get_or s i 0)) (wide_slot (get_or s i 0) (get_or s (i + 1) 0)) (narrow_slot (get_or s i 0))
unfolding slot_here
slot_here_pair s i h =
    let f : i < length s = omega arith in
    let g : suc i < length s = omega arith in
    rw (drop-cons s i 0 f, drop-cons s (suc i) 0 g, add-one i)

-- the same in the words of the code: m read-backs, r at the place and u at the next
pub slot_here_at : (s : List ℕ) (i m r u : ℕ) → m ≡ length s → i < m → r ≡ get_or s i 0 → u ≡ get_or s (i + 1) 0
    → slot_here (drop i s) ≡ cond (ltb (i + 1) m && is_wide r) (wide_slot r u) (narrow_slot r)
slot_here_at s i m r u l h e f = go (ltb (i + 1) m) refl
  where
    go : (b : Bool) → ltb (i + 1) m ≡ b → slot_here (drop i s) ≡ cond (b && is_wide r) (wide_slot r u) (narrow_slot r)
    go true t = rw (e, f) (slot_here_pair s i (omega (arith, ltb-true (i + 1) m t)))
    go false t = rw e (slot_here_last s i (omega arith) (omega (arith, ltb-false (i + 1) m t)))

-- the first n of a set of six
pub length_first : (set : List ℕ) (n : ℕ) → length set ≡ 6 → length (take n set) ≡ min n 6
length_first set n six = length-take n set ∙ ap (min n) six

pub slot_at_none : (set : List ℕ) (n i : ℕ) → length set ≡ 6 → min n 6 ≤ i → slot_here (drop i (take n set)) ≡ Unused
slot_at_none set n i six h = slot_here_none (take n set) i (omega (arith, length_first set n six))

-- ## The slots of a set, step by step

abbrev pub One : Slot → Type 0
One x = takes_next x ≡ false

sized_takes_one : (pool : Pool) (z : ℕ) → One (sized pool false z)
unfolding sized
sized_takes_one pool z = cond_intro One (eqb z 0) Bad (Bar pool false z) refl refl

pub narrow_takes_one : (r : ℕ) → One (narrow_slot r)
unfolding narrow_slot io_slot
narrow_takes_one r =
    cond_intro One (eqb r 0) Unused _ refl
    (cond_intro One (is_io_bar r) _ _ (cond_intro One (io_wrong r) Bad _ refl (sized_takes_one Io _))
    (cond_intro One (eqb (r / 2 % 4) 0) _ Bad (sized_takes_one Low _) refl))

sized_takes_next : (pool : Pool) (z : ℕ) → is_bad (sized pool true z) ≡ false → takes_next (sized pool true z) ≡ true
unfolding sized
sized_takes_next pool z = go (eqb z 0)
  where
    go : (b : Bool) → is_bad (cond b Bad (Bar pool true z)) ≡ false → takes_next (cond b Bad (Bar pool true z)) ≡ true
    go true e = absurd (true≢false e)
    go false e = refl

pub wide_takes_next : (r u : ℕ) → is_bad (wide_slot r u) ≡ false → takes_next (wide_slot r u) ≡ true
unfolding wide_slot
wide_takes_next r u = sized_takes_next (wide_pool r) _

-- a lawful slot, then the upper half where it takes the next place, then the slots of what is left
abbrev pub slots_after : Slot → List ℕ → List Slot
slots_after x s = cond (takes_next x) (Upper ∷ slots (drop 2 s)) (slots (drop 1 s))

pub slots_head : (s : List ℕ) → 0 < length s → slots s ≡ slot_here s ∷ drop 1 (slots s)
unfolding slots
slots_head [] p = absurd none
  where
    none : ⊥
    none = omega arith
slots_head (r ∷ []) p = refl
slots_head (r ∷ u ∷ us) p = refl

slots_step : (s : List ℕ) → 0 < length s → is_bad (slot_here s) ≡ false → slots s ≡ slot_here s ∷ slots_after (slot_here s) s
unfolding slots slot_here
slots_step [] p l = absurd none
  where
    none : ⊥
    none = omega arith
slots_step (r ∷ []) p l = rw (narrow_takes_one r)
slots_step (r ∷ u ∷ us) p l = go (is_wide r) l
  where
    go : (b : Bool) → is_bad (cond b (wide_slot r u) (narrow_slot r)) ≡ false
        → ◌≡◌ {A = List Slot} (cond b (wide_slot r u) (narrow_slot r) ∷ cond b (Upper ∷ slots us) (slots (u ∷ us)))
        (cond b (wide_slot r u) (narrow_slot r) ∷ cond (takes_next (cond b (wide_slot r u) (narrow_slot r))) (Upper ∷ slots us) (slots (u ∷ us)))
    go true h = rw (wide_takes_next r u h)
    go false h = rw (narrow_takes_one r)

pub slots_at_step : (s : List ℕ) (i : ℕ) (x : Slot) → i < length s → x ≡ slot_here (drop i s) → is_bad x ≡ false
    → slots (drop i s) ≡ x ∷ cond (takes_next x) (Upper ∷ slots (drop (i + 2) s)) (slots (drop (i + 1) s))
slots_at_step s i x h e l =
    let p : 0 < length (drop i s) = simp length-drop (omega arith) in
    rw (e, ← drop-drop 2 i s, ← drop-drop 1 i s) (slots_step (drop i s) p (ap is_bad (sym e) ∙ l))

pub length_slots : (s : List ℕ) → length (slots s) ≡ length s
unfolding slots
length_slots [] = refl
length_slots (r ∷ []) = refl
length_slots (r ∷ u ∷ us) = ap suc (go (is_wide r) (length_slots us) (length_slots (u ∷ us)))
  where
    go : (b : Bool) → length (slots us) ≡ length us → length (slots (u ∷ us)) ≡ suc (length us)
        → length (cond b (Upper ∷ slots us) (slots (u ∷ us))) ≡ suc (length us)
    go true p q = ap suc p
    go false p q = q

-- ## 25

-- an unlawful slot decides
pub any_bad_of_bad : (s : List ℕ) (i : ℕ) (x : Slot) → i < length s → x ≡ slot_here (drop i s) → is_bad x ≡ true
    → any_bad (slots (drop i s)) ≡ true
unfolding any_bad
any_bad_of_bad s i x h e b =
    let p : 0 < length (drop i s) = simp length-drop (omega arith) in
    ap any_bad (slots_head (drop i s) p) ∙ rw (ap is_bad (sym e) ∙ b)

-- a lawful slot leaves it to the slots after it
pub any_bad_step : (s : List ℕ) (i : ℕ) (x : Slot) → i < length s → x ≡ slot_here (drop i s) → is_bad x ≡ false
    → any_bad (slots (drop (i + span x) s)) ≡ any_bad (slots (drop i s))
unfolding any_bad
any_bad_step s i x h e l = go (takes_next x) ∙ sym (ap any_bad (slots_at_step s i x h e l) ∙ rw l)
  where
    go : (b : Bool) → any_bad (slots (drop (i + cond b 2 1) s)) ≡ any_bad (cond b (Upper ∷ slots (drop (i + 2) s)) (slots (drop (i + 1) s)))
    go true = refl
    go false = refl

pub any_bad_end : (s : List ℕ) (i : ℕ) → length s ≤ i → any_bad (slots (drop i s)) ≡ false
unfolding any_bad slots
any_bad_end s i h = rw (drop_of_length-le s h)

-- ## A slot told by its read-back, in the words of code that looks at the read-back r at place i of the first m before it decodes

pub slot_of_pair : (set : List ℕ) (n m i r u : ℕ) (b : Bool) (x : Slot) → length set ≡ 6 → m ≡ min n 6 → i < m → r ≡ get_or set i 0
    → u ≡ get_or set (i + 1) 0 → b ≡ ltb (i + 1) m && is_wide r → i + 1 < m → b ≡ true → x ≡ wide_slot r u → x ≡ slot_here (drop i (take n set))
slot_of_pair set n m i r u b x six e h p q t g y z =
    z ∙ sym
    (slot_here_at (take n set) i m r u (e ∙ sym (length_first set n six)) h (p ∙ sym (get_or-take n set i 0 (omega arith)))
    (q ∙ sym (get_or-take n set (i + 1) 0 (omega arith))) ∙ rw (sym t ∙ y))

pub slot_of_single : (set : List ℕ) (n m i r : ℕ) (b : Bool) (x : Slot) → length set ≡ 6 → m ≡ min n 6 → i < m → r ≡ get_or set i 0
    → b ≡ ltb (i + 1) m && is_wide r → b ≡ false → x ≡ narrow_slot r → x ≡ slot_here (drop i (take n set))
slot_of_single set n m i r b x six e h p t y z =
    z ∙ sym
    (slot_here_at (take n set) i m r (get_or (take n set) (i + 1) 0) (e ∙ sym (length_first set n six)) h
    (p ∙ sym (get_or-take n set i 0 (omega arith))) refl ∙ rw (sym t ∙ y))

-- a read-back of 0 is an unused slot
pub slot_of_none : (set : List ℕ) (n m i : ℕ) → length set ≡ 6 → m ≡ min n 6 → i < m → get_or set i 0 ≡ 0
    → Unused ≡ slot_here (drop i (take n set))
unfolding narrow_slot
slot_of_none set n m i six e h z =
    sym
    (slot_here_at (take n set) i m 0 (get_or (take n set) (i + 1) 0) (e ∙ sym (length_first set n six)) h
    (sym z ∙ sym (get_or-take n set i 0 (omega arith))) refl ∙ go (ltb (i + 1) m))
  where
    go : (b : Bool) → cond (b && is_wide 0) (wide_slot 0 (get_or (take n set) (i + 1) 0)) (narrow_slot 0) ≡ Unused
    go true = refl
    go false = refl

pub pair_span : (r u : ℕ) (x : Slot) → x ≡ wide_slot r u → is_bad x ≡ false → span x ≡ 2
pair_span r u x e l = let t = ap takes_next e ∙ wide_takes_next r u (ap is_bad (sym e) ∙ l) in rw t

pub single_span : (r : ℕ) (x : Slot) → x ≡ narrow_slot r → span x ≡ 1
single_span r x e = let t = ap takes_next e ∙ narrow_takes_one r in rw t

-- and of the slot there, however it was decoded
pub here_span : (set : List ℕ) (n m i r : ℕ) (b : Bool) (x : Slot) → length set ≡ 6 → m ≡ min n 6 → i < m → r ≡ get_or set i 0
    → b ≡ ltb (i + 1) m && is_wide r → b ≡ false → x ≡ slot_here (drop i (take n set)) → span x ≡ 1
here_span set n m i r b x six e h p t y z = single_span r x (z ∙ sym (slot_of_single set n m i r b (narrow_slot r) six e h p t y refl))
