-- 25: the loop over a record's slots, in the words of the code: what is left is judged from a slot on. Assumes nothing.
use Rattle.std.specs.Prelude.{◌≡◌, Bool, true, false, not, ◌&&◌, ℕ, ◌+◌, ◌*◌, ◌/◌, ◌%◌, ◌≤◌, ◌<◌, leb, get_or, take}
use Rattle.std.proofs.Math.Path.{refl, sym, ap, ap₂}
use Rattle.std.proofs.Common.{subst, ◌∙◌, pow_pos, drop_of_length-le, drop-drop, ne_eqb}
use Rattle.std.proofs.Math.Bool.{cond, and-true}
use mathlib.Core.List.{List, ◌∷◌}
use native.Mathlib.Omega.{arith}
use Rattle.std.proofs.Math.Dec.{eqb}
use Rattle.std.proofs.Math.ListN.{length, drop, length-drop}
use Rattle.endian.specs.Endian.{be, le}
use Rattle.pools.specs.declared.Pool.{Pool}
use Rattle.pools.specs.declared.Pool.TheVariants.{Low, High, Io}
use Rattle.bar.specs.declared.Slot.{Slot}
use Rattle.bar.specs.declared.Slot.TheVariants.{Bar, Upper}
use Rattle.bar.specs.Bar.{slot_here, slots, takes_next, span, BarSize, SizedSlot}
use Rattle.bar.specs.BarLaws.{length_first, slots_head, slots_at_step}
use Rattle.bar.specs.Values.{value_here, is_value, is_bar_value}
use Rattle.bar.specs.ValuesLaws.{head_at, not_bad_of_value, entry_within}
use Rattle.sheet_record.specs.Places.{values_at, readbacks_at}
use Rattle.sheet_record.specs.Entry.{dwords, header_of, is_bridge, slot_count, entry_of}
use Rattle.sheet_ranges.specs.BarsLaws.{slots_le_six}
use Rattle.finding.specs.Places.{Spot, right, wrong_at, nobody, wrong_if}
use Rattle.finding.specs.First.{first}
use Rattle.finding.specs.FirstLaws.{first_append}
use Rattle.audit_finding.specs.Where.{Mark, slot_marks, rest_marks, read_back_marks}
use Rattle.audit_finding.specs.Spots.{spot_in}
use Rattle.sheet_where.specs.Own.{rest_of}

-- ## What is left from a slot on

-- what the marks say, or else this
abbrev spot_or : Spot → List Mark → Spot
spot_or rest ms = first (λ m. m.wrong) (λ m. wrong_at m.place nobody) rest ms

abbrev pub slots_left : Spot → List ℕ → List ℕ → ℕ → Spot
slots_left rest rs vs i = spot_or rest (slot_marks i (slots (drop i rs)) (drop i rs) (drop i vs))

module _ (rest : Spot) (rs vs : List ℕ) (i : ℕ) (x : Slot) (h : i < length rs) (e : x ≡ slot_here (drop i rs)) where
  -- the slots after this one
  after : List Slot → Spot
  after xs = spot_or rest (slot_marks (i + 1) xs (drop 1 (drop i rs)) (drop 1 (drop i vs)))

  left_head : slots_left rest rs vs i
      ≡ cond (not (is_value x (get_or rs i 0) (value_here x (drop i vs)))) (wrong_at i nobody) (after (drop 1 (slots (drop i rs))))
  unfolding slot_marks first after
  left_head =
      let p : 0 < length (drop i rs) = simp length-drop (omega arith) in
      ap (λ (xs : List Slot). spot_or rest (slot_marks i xs (drop i rs) (drop i vs))) (slots_head (drop i rs) p)
      ∙ ap₂ (λ (y : Slot) (r : ℕ). cond (not (is_value y r (value_here y (drop i vs)))) (wrong_at i nobody)
      (spot_or rest (slot_marks (i + 1) (drop 1 (slots (drop i rs))) (drop 1 (drop i rs)) (drop 1 (drop i vs))))) (sym e) (head_at rs i)

  left_off : is_value x (get_or rs i 0) (value_here x (drop i vs)) ≡ false → slots_left rest rs vs i ≡ wrong_at i nobody
  left_off w = left_head ∙ rw w

  left_step : is_value x (get_or rs i 0) (value_here x (drop i vs)) ≡ true → slots_left rest rs vs (i + span x) ≡ slots_left rest rs vs i
  unfolding slot_marks first after
  left_step t =
      let l = not_bad_of_value x _ _ t in
      go (takes_next x)
      ∙ ap after (sym (ap (λ (xs : List Slot). drop 1 xs) (slots_at_step rs i x h e l)))
      ∙ sym (left_head ∙ rw t)
    where
      two : i + 1 + 1 ≡ i + 2
      two = omega arith

      go : (b : Bool) → slots_left rest rs vs (i + cond b 2 1) ≡ after (cond b (Upper ∷ slots (drop (i + 2) rs)) (slots (drop (i + 1) rs)))
      go true = rw (drop-drop 1 i rs, drop-drop 1 i vs, drop-drop 1 (i + 1) rs, drop-drop 1 (i + 1) vs, two)
      go false = rw (drop-drop 1 i rs, drop-drop 1 i vs)

left_end : (rest : Spot) (rs vs : List ℕ) (i : ℕ) → length rs ≤ i → slots_left rest rs vs i ≡ rest
unfolding slot_marks slots first
left_end rest rs vs i h = rw (drop_of_length-le rs h)

-- ## In the words of the code: the first n of a set of six; x is the slot at i, v the number in its registers, b the test of it

module _ (rest : Spot) (set values : List ℕ) (n i : ℕ) (six : length set ≡ 6) (few : n ≤ 6) where
  module _ (x : Slot) (v : ℕ) (b : Bool) (h : i < n) (e : x ≡ slot_here (drop i (take n set)))
      (f : v ≡ value_here x (drop i (take n values))) (t : b ≡ is_value x (get_or set i 0) v) where
    inside : i < length (take n set)
    inside = omega (arith, length_first set n six, h, few)

    test : is_value x (get_or (take n set) i 0) (value_here x (drop i (take n values))) ≡ b
    test = ap₂ (is_value x) (entry_within set n i (omega (arith, h, few))) (sym f) ∙ sym t

    pub slot_off : b ≡ false → slots_left rest (take n set) (take n values) i ≡ wrong_at i nobody
    slot_off o = left_off rest (take n set) (take n values) i x inside e (test ∙ o)

    pub slot_on : b ≡ true → (w : ℕ) → w ≡ span x
        → slots_left rest (take n set) (take n values) (i + w) ≡ slots_left rest (take n set) (take n values) i
    slot_on o w is = rw is (left_step rest (take n set) (take n values) i x inside e (test ∙ o))

  pub slot_end : n ≤ i → slots_left rest (take n set) (take n values) i ≡ rest
  slot_end h = left_end rest (take n set) (take n values) i (omega (arith, length_first set n six, h, few))

-- ## Of a record's part

counted : (p : List ℕ) (b : Bool) → dwords (le 4) (cond b 2 6) p values_at ≡ take (cond b 2 6) (dwords (le 4) 6 p values_at)
unfolding dwords
counted p true = refl
counted p false = refl

values_counted : (p : List ℕ) → dwords (le 4) (slot_count (header_of p)) p values_at
    ≡ take (slot_count (header_of p)) (dwords (le 4) 6 p values_at)
values_counted p = counted p (is_bridge (header_of p))

module _ (p set values : List ℕ) (n : ℕ) (r : set ≡ dwords (be 4) 6 p readbacks_at) (v : values ≡ dwords (le 4) 6 p values_at)
    (c : n ≡ slot_count (header_of p)) where
  pub set_six : length set ≡ 6
  unfolding dwords
  set_six = ap length r

  pub few_slots : n ≤ 6
  few_slots = omega (arith, c, slots_le_six p)

  pub slots_start : slots_left (spot_in (rest_of p)) (take n set) (take n values) 0 ≡ spot_in (read_back_marks (entry_of p))
  unfolding read_back_marks rest_of entry_of
  slots_start =
      let m = slot_count (header_of p) in
      let all = dwords (be 4) 6 p readbacks_at in
      rw (r, v, c, ← values_counted p)
      (sym (first_append (λ y. y.wrong) (λ y. wrong_at y.place nobody) right
      (slot_marks 0 (slots (take m all)) (take m all) (dwords (le 4) m p values_at)) (rest_marks m (drop m all))))

-- ## The last four read-backs: a, b, c and d

pub rest_none : (p : List ℕ) → is_bridge (header_of p) ≡ false → right ≡ spot_in (rest_of p)
unfolding rest_of dwords rest_marks first
rest_none p e = rw e

abbrev last_four : ℕ → ℕ → ℕ → ℕ → Spot
last_four a b c d =
    cond (not (eqb a 0)) (wrong_at 2 nobody)
    (cond (not (eqb b 0)) (wrong_at 3 nobody) (cond (not (eqb c 0)) (wrong_at 4 nobody) (cond (not (eqb d 0)) (wrong_at 5 nobody) right)))

module _ (p : List ℕ) (bridge : is_bridge (header_of p) ≡ true) (a : ℕ) (ra : a ≡ be 4 p (readbacks_at + 8)) where
  four : spot_in (rest_of p)
      ≡ last_four (be 4 p (readbacks_at + 8)) (be 4 p (readbacks_at + 12)) (be 4 p (readbacks_at + 16)) (be 4 p (readbacks_at + 20))
  unfolding rest_of dwords rest_marks first
  four = rw bridge

  pub rest_2 : (a ≡ 0 → ⊥) → wrong_at 2 nobody ≡ spot_in (rest_of p)
  rest_2 w = sym (four ∙ rw (← ra, ne_eqb a 0 w))

  module _ (za : a ≡ 0) (b : ℕ) (rb : b ≡ be 4 p (readbacks_at + 12)) where
    pub rest_3 : (b ≡ 0 → ⊥) → wrong_at 3 nobody ≡ spot_in (rest_of p)
    rest_3 w = sym (four ∙ rw (sym ra ∙ za, ← rb, ne_eqb b 0 w))

    module _ (zb : b ≡ 0) (c : ℕ) (rc : c ≡ be 4 p (readbacks_at + 16)) where
      pub rest_4 : (c ≡ 0 → ⊥) → wrong_at 4 nobody ≡ spot_in (rest_of p)
      rest_4 w = sym (four ∙ rw (sym ra ∙ za, sym rb ∙ zb, ← rc, ne_eqb c 0 w))

      pub rest_5 : (c ≡ 0) → (d : ℕ) → d ≡ be 4 p (readbacks_at + 20) → (x : Spot) → x ≡ wrong_if (not (eqb d 0)) 5 → x ≡ spot_in (rest_of p)
      rest_5 zc d rd x e = e ∙ sym (four ∙ rw (sym ra ∙ za, sym rb ∙ zb, sym rc ∙ zc, ← rd))

-- ## A BAR's value

-- a lawful BAR has a size
pub size_some : (x : Slot) (pool : Pool) (wide : Bool) (size : ℕ) → x ≡ Bar pool wide size → SizedSlot x → 0 < size
size_some x pool wide size e z = let s : BarSize pool wide size = subst SizedSlot e z in omega (arith, s.power, pow_pos s.bit)

module _ (size r v : ℕ) where
  pub low_value : (eqb (v % 16) (r % 16) && eqb (v / 16 * 16 % size) 0) ≡ is_bar_value Low size r v
  unfolding is_bar_value
  low_value = sym (and-true (eqb (v % 16) (r % 16) && eqb (v / 16 * 16 % size) 0))

  pub high_value : (eqb (v % 16) (r % 16) && eqb (v / 16 * 16 % size) 0) ≡ is_bar_value High size r v
  unfolding is_bar_value
  high_value = sym (and-true (eqb (v % 16) (r % 16) && eqb (v / 16 * 16 % size) 0))

  pub io_value : (eqb (v % 4) (r % 4) && eqb (v / 4 * 4 % size) 0 && leb v 65535) ≡ is_bar_value Io size r v
  unfolding is_bar_value
  io_value = refl
