-- One turn of the loop over a function's slots, in the words of the code: the slot's BAR is put after those before it. Assumes nothing.
use Rattle.std.specs.Prelude.{◌≡◌, refl, Bool, true, false, cond, List, [], ◌∷◌, ◌++◌, ℕ, suc, ◌+◌, ◌-◌, ◌%◌, ◌^◌, ◌≤◌, ◌<◌, get_or}
use Rattle.std.proofs.Common.{sym, ◌∙◌, append_assoc, append-nil, div-mul-le_self, lt_of_le_of_lt, arith, pow_pos, drop_of_length-le, drop-drop}
use Rattle.std.proofs.Math.Path.{ap}
use Rattle.std.proofs.lemmas.Bool.{false≢true, not-false}
use Rattle.std.proofs.Math.Bool.{and-eq-true_iff}
use Rattle.std.proofs.Math.ListN.{length, take, drop}
use Rattle.endian.specs.Endian.{be, le}
use Rattle.pools.specs.declared.Pool as pools
use Rattle.pools.specs.declared.Pool.TheVariants.{Low, High, Io}
use Rattle.bar.specs.declared.Slot.{Slot}
use Rattle.bar.specs.declared.Slot.TheVariants.{Unused, Bar, Upper, Bad}
use Rattle.bar.specs.Bar.{type_bits, width, without_type, slot_here, slots, is_bad, takes_next, span, SizedSlot}
use Rattle.bar.specs.BarLaws.{sized_here, slots_at_step, length_first}
use Rattle.bar.specs.Values.{value_here, is_value, values_lawful, base_of}
use Rattle.bar.specs.ValuesLaws.{values_from, values_from_off, values_from_step, not_bad_of_value, bar_value_elim, end_le_of_multiple}
use Rattle.walk.specs.Ranges.{Range}
use Rattle.sheet_record.specs.Places.{values_at, readbacks_at}
use Rattle.sheet_record.specs.Entry.{dwords, header_of, is_bridge, slot_count, entry_of}
use Rattle.sheet_record.specs.EntryLaws.{values_entry, slots_entry}
use Rattle.sheet_record.specs.Spaces.{pool_of, bar_range}
use Rattle.sheet.specs.declared.Rule.TheVariants.{ReadBacks}
use Rattle.sheet.specs.Sheet.{all_zero, read_backs_wrong, breaks}
use Rattle.sheet_ranges.specs.Ranges.{bar_here, bars_from, pool_number}
use Rattle.sheet_ranges.specs.Items.{range_of, ranges_in, open_item, bar_at, BarEnds, bars_in}
use Rattle.sheet_ranges.specs.ItemsLaws.{range_of_item, ranges_nil}

-- ## Slot by slot

-- what is left from slot i on
abbrev pub bars_at : List ℕ → List ℕ → ℕ → List Range
bars_at rs vs i = bars_from (slots (drop i rs)) (drop i vs)

bars_step : (rs vs : List ℕ) (i : ℕ) (x : Slot) → i < length rs → x ≡ slot_here (drop i rs) → is_bad x ≡ false
    → bars_at rs vs i ≡ bar_here x (drop i vs) ++ bars_at rs vs (i + span x)
unfolding bars_from
bars_step rs vs i x h e l =
    ap (λ (xs : List Slot). bars_from xs (drop i vs)) (slots_at_step rs i x h e l) ∙ ap (bar_here x (drop i vs) ++◌) (go (takes_next x))
  where
    two : i + 1 + 1 ≡ i + 2
    two = omega arith

    go : (b : Bool) → bars_from (cond b (Upper ∷ slots (drop (i + 2) rs)) (slots (drop (i + 1) rs))) (drop 1 (drop i vs))
        ≡ bars_at rs vs (i + cond b 2 1)
    go true = rw (drop-drop 1 i vs, drop-drop 1 (i + 1) vs, two)
    go false = rw (drop-drop 1 i vs)

bars_end_lem : (rs vs : List ℕ) (i : ℕ) → length rs ≤ i → bars_at rs vs i ≡ []
unfolding bars_from slots
bars_end_lem rs vs i h = rw (drop_of_length-le rs h)

bar_here_lem : (x : Slot) (vs : List ℕ) → bar_here x vs ≡ bar_at x (value_here x vs)
bar_here_lem Unused vs = refl
bar_here_lem (Bar q wide size) vs = refl
bar_here_lem Upper vs = refl
bar_here_lem Bad vs = refl

-- ## Where a lawful BAR ends

width_le : (q : pools.Pool) (wide : Bool) → width q wide ≤ 64
width_le Low true = omega arith
width_le Low false = omega arith
width_le High true = omega arith
width_le High false = omega arith
width_le Io wide = omega arith

ends_of_value : (x : Slot) (r v : ℕ) → SizedSlot x → is_value x r v ≡ true → v < 2 ^ 64 → BarEnds x v
ends_of_value Unused r v z l h = tt
ends_of_value (Bar q wide size) r v z l h =
    let m = (bar_value_elim q size r v l).multiple in
    let e : without_type q v % 2 ^ z.bit ≡ 0 = ap (λ (k : ℕ). without_type q v % k) (sym z.power) ∙ m in
    let b = lt_of_le_of_lt (div-mul-le_self v (2 ^ type_bits q)) h in
    let most : z.bit ≤ 64 = omega (arith, z.most, width_le q wide) in
    (omega (arith, z.power, pow_pos z.bit), omega (arith, z.power, end_le_of_multiple z.bit 64 (without_type q v) most e b))
ends_of_value Upper r v z l h = tt
ends_of_value Bad r v z l h = tt

-- ## One slot put, in the words of the code

bar_range_lem : (q : pools.Pool) (first size : ℕ) → 0 < size → open_item q first (first + (size - 1)) ≡ bar_range q first size
bar_range_lem q first size h = let e : suc (first + (size - 1)) ≡ first + size = omega arith in rw e

module _ (x : Slot) (q : pools.Pool) (wide : Bool) (size v first : ℕ) (e : x ≡ Bar q wide size) (f : first ≡ base_of (Bar q wide size) v)
    (ends : BarEnds x v) where
  here : BarEnds (Bar q wide size) v
  here = rw e at ends

  pub size_some : 0 < size
  size_some = here.0

  pub end_fits : first + (size - 1) < 2 ^ 64
  end_fits = omega (arith, f, here.0, here.1)

  -- p is the pool's number
  pub bar_put : (p n : ℕ) (xs : List ℕ) (new : List Range) → p ≡ pool_number (pool_of q)
      → new ≡ ranges_in n xs ++ (range_of (record { pool = p; first = first; last = first + (size - 1) }) ∷ [])
      → new ≡ ranges_in n xs ++ bar_at x v
  bar_put p n xs new g put =
      put
      ∙ ap (λ (r : Range). ranges_in n xs ++ (r ∷ [])) (range_of_item q p first (first + (size - 1)) g ∙ bar_range_lem q first size size_some)
      ∙ rw (e, f)

pub bar_none : (x : Slot) (v n : ℕ) (xs : List ℕ) → bar_at x v ≡ [] → ranges_in n xs ≡ ranges_in n xs ++ bar_at x v
bar_none x v n xs e = rw e (sym (append-nil (ranges_in n xs)))

-- ## The loop: rs are a function's read-backs and vs its values

-- x is the slot at i, v the number in its registers
module _ (rs vs : List ℕ) (i : ℕ) (x : Slot) (v : ℕ) (h : i < length rs) (e : x ≡ slot_here (drop i rs)) (f : v ≡ value_here x (drop i vs))
    (lawful : values_from rs vs i ≡ true) where
  value_right : is_value x (get_or rs i 0) (value_here x (drop i vs)) ≡ true
  value_right = go (is_value x (get_or rs i 0) (value_here x (drop i vs))) refl
    where
      go : (b : Bool) → is_value x (get_or rs i 0) (value_here x (drop i vs)) ≡ b → b ≡ true
      go true q = refl
      go false q = absurd (false≢true (sym (values_from_off rs vs i x h e q) ∙ lawful))

  pub bar_ends : v < 2 ^ 64 → BarEnds x v
  bar_ends l = ends_of_value x (get_or rs i 0) v (rw e (sized_here (drop i rs))) (rw f value_right) l

  -- it takes n places
  module _ (n : ℕ) (m : n ≡ span x) where
    pub lawful_next : values_from rs vs (i + n) ≡ true
    lawful_next = rw m (values_from_step rs vs i x h e value_right ∙ lawful)

    -- its BAR put after k others
    pub bars_turn : (k j : ℕ) (old new : List ℕ) → ranges_in j new ≡ ranges_in k old ++ bar_at x v
        → ranges_in j new ++ bars_at rs vs (i + n) ≡ ranges_in k old ++ bars_at rs vs i
    bars_turn k j old new put =
        let step = bars_step rs vs i x h e (not_bad_of_value x _ _ value_right) in
        let bar : bar_at x v ≡ bar_here x (drop i vs) = ap (bar_at x) f ∙ sym (bar_here_lem x (drop i vs)) in
        rw (put, bar, m, step) (append_assoc (ranges_in k old) (bar_here x (drop i vs)) (bars_at rs vs (i + span x)))

-- ## Of a record

-- six slots at most, and two of a bridge
pub slots_le_six : (p : List ℕ) → slot_count (header_of p) ≤ 6
slots_le_six p = go (is_bridge (header_of p))
  where
    go : (b : Bool) → cond b 2 6 ≤ 6
    go true = omega arith
    go false = omega arith

pub slots_of_bridge : (p : List ℕ) → is_bridge (header_of p) ≡ true → slot_count (header_of p) ≡ 2
slots_of_bridge p e = rw e

module _ (p set values : List ℕ) (n : ℕ) (r : set ≡ dwords (be 4) 6 p readbacks_at) (v : values ≡ dwords (le 4) 6 p values_at)
    (c : n ≡ slot_count (header_of p)) where
  pub lawful_start : breaks ReadBacks (entry_of p) ≡ false → values_from (take n set) (take n values) 0 ≡ true
  unfolding breaks read_backs_wrong entry_of
  lawful_start w =
      let first = take (slot_count (header_of p)) (dwords (be 4) 6 p readbacks_at) in
      let rest = drop (slot_count (header_of p)) (dwords (be 4) 6 p readbacks_at) in
      let own = (entry_of p).values in
      rw (r, v, c, ← values_entry p) ((and-eq-true_iff (values_lawful first own) (all_zero rest)).0 (not-false _ w)).0

  pub bars_start : bars_in p ≡ bars_at (take n set) (take n values) 0
  bars_start = rw (slots_entry p, values_entry p, r, v, c)

  length_six : length set ≡ 6
  unfolding dwords
  length_six = ap length r

  pub slots_le : n ≤ 6
  slots_le = omega (arith, c, slots_le_six p)

  pub length_slots : length (take n set) ≡ n
  length_slots = omega (arith, length_first set n length_six, slots_le)

-- ## Before the first turn and after the last

pub bars_none : (xs rs vs : List ℕ) (all : List Range) → all ≡ bars_at rs vs 0 → ranges_in 0 xs ++ bars_at rs vs 0 ≡ all
bars_none xs rs vs all e = ap (λ (old : List Range). old ++ bars_at rs vs 0) (ranges_nil xs) ∙ sym e

pub bars_all : (n : ℕ) (xs rs vs : List ℕ) (i : ℕ) (all : List Range) → length rs ≤ i → ranges_in n xs ++ bars_at rs vs i ≡ all
    → ranges_in n xs ≡ all
bars_all n xs rs vs i all h e = sym (append-nil (ranges_in n xs)) ∙ ap (ranges_in n xs ++◌) (sym (bars_end_lem rs vs i h)) ∙ e
