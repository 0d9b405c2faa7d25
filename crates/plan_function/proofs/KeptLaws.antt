-- The laws that the code goes by: a slot's BAR, the loop over a set's slots, a window; each in the words of the code. Assumes nothing.
use Rattle.std.specs.Prelude.{◌≡◌, refl, Bool, true, false, cond, ℕ, zero, suc, ◌+◌, ◌-◌, ◌/◌, ◌%◌, ◌^◌, ◌≤◌, ◌<◌, eqb, get_or, take, drop, replicate}
use Rattle.std.proofs.Common.{sym, ◌∙◌, true≢false, arith, add-one, eq-eqb, ne_eqb, length-append, length-take, length-drop, drop_of_length-le, take-append-drop, length-take-le, take_at, drop_at, drop-drop}
use Rattle.std.proofs.Math.Path.{ap, ap₂}
use mathlib.Core.List.{List, [], ◌∷◌, ◌++◌, map, map-append, append_assoc, append-nil}
use Rattle.std.proofs.Math.ListN.{length, set}
use Rattle.std.proofs.lemmas.List.Edits.{sets, sets-eq}
use Rattle.std.proofs.lemmas.List.{set-get_or}
use Rattle.std.proofs.Math.Seq.{length-sets}
use Rattle.arith.specs.Align.{align_up}
use Rattle.pools.specs.declared.Pool.{Pool}
use Rattle.pools.specs.declared.Pool.TheVariants.{Low, High, Io}
use Rattle.pools.specs.Pools.{granule}
use Rattle.pools.specs.PoolsLaws.{granule_pos}
use Rattle.bar.specs.declared.Slot.{Slot}
use Rattle.bar.specs.declared.Slot.TheVariants.{Unused, Bar, Upper, Bad}
use Rattle.bar.specs.Bar.{is_io_bar, is_wide, io_wrong, io_slot, narrow_slot, wide_slot, slot_here, sized, slots, is_bad, any_bad, takes_next, span}
use Rattle.bar.specs.Bar.{wide_pool}
use Rattle.bar.specs.Bar.{SizedSlot}
use Rattle.bar.specs.BarLaws.{sized_slots, length_first, length_slots, slots_at_step, any_bad_of_bad, any_bad_step, slot_of_none}
use Rattle.bar.specs.Values.{value_of, registers_of}
use Rattle.bar.specs.ValuesLaws.{head_at}
use Rattle.window.specs.Window.{closed, opened}
use Rattle.lists.specs.Lists.{All}
use Rattle.plan_rule.proofs.RecordLaws.{false_of_not}
use Rattle.plan_rule.specs.declared.Extent.{Extent}
use Rattle.plan_rule.specs.Cap.{cap}
use Rattle.plan_rule.proofs.CapLaws.{cap_cap, cap_align}
use Rattle.plan_rule.specs.Pieces.{window_size, window_align}
use Rattle.plan_function.specs.declared.Cursors.{Cursors}
use Rattle.plan_function.specs.declared.BarsPlaced.{BarsPlaced}
use Rattle.plan_function.specs.declared.Extents.{Extents}
use Rattle.plan_function.specs.declared.WindowPlaced.{WindowPlaced}
use Rattle.plan_function.specs.declared.WindowsPlaced.{WindowsPlaced}
use Rattle.plan_function.specs.Function.{Ends, start_of, after_bar, bar_starts, after_bars, registers_at, values_at, window_start}
use Rattle.plan_function.specs.Function.{window_stop}
use Rattle.plan_function.specs.Kept.{word, ends_of, kept_cursors, with_end, kept_values, bars_placed, window_placed, windows_placed}
use Rattle.plan_function.proofs.CapLaws.{cap_ends, cap_after_bars, cap_bar_starts}

-- ## Lists

module _ (l vs : List ℕ) (i : ℕ) (h : i + length vs ≤ length l) where
  length_front : length (take i l ++ vs) ≡ i + length vs
  length_front = length-append (take i l) vs ∙ ap (λ (n : ℕ). n + length vs) (length-take-le i l (omega arith))

  take_sets : take (i + length vs) (sets l i vs) ≡ take i l ++ vs
  take_sets =
      ap (take (i + length vs)) (sets-eq vs l i h)
      ∙ take_at (take i l ++ vs) (drop (i + length vs) l) (i + length vs) length_front

  drop_sets : drop (i + length vs) (sets l i vs) ≡ drop (i + length vs) l
  drop_sets =
      ap (drop (i + length vs)) (sets-eq vs l i h)
      ∙ drop_at (take i l ++ vs) (drop (i + length vs) l) (i + length vs) length_front

abbrev zeros : ℕ → List ℕ
zeros n = replicate n 0

drop_zeros : (n m : ℕ) → drop m (zeros n) ≡ zeros (n - m)
drop_zeros n zero = let e : n - 0 ≡ n = omega arith in rw e
drop_zeros zero (suc m) = let e : 0 - suc m ≡ 0 = omega arith in rw e
drop_zeros (suc n) (suc m) = let e : suc n - suc m ≡ n - m = omega arith in rw e (drop_zeros n m)

-- ## Slots

all_of_at : (P : Slot → Type 0) (xs : List Slot) → ((i : ℕ) → P (get_or xs i Unused)) → All P xs
all_of_at P [] h = tt
all_of_at P (x ∷ xs) h = (h 0, all_of_at P xs (λ i. h (suc i)))

pub all_sized_lem : (s : List ℕ) → All SizedSlot (slots s)
all_sized_lem s = all_of_at SizedSlot (slots s) (sized_slots s)

-- a slot where a BAR may start is no upper half, and a 32-bit BAR is not of the high pool
abbrev pub Starts : Slot → Type 0
Starts Unused = Unit {0}
Starts (Bar Low wide z) = Unit {0}
Starts (Bar High true z) = Unit {0}
Starts (Bar High false z) = ⊥
Starts (Bar Io wide z) = Unit {0}
Starts Upper = ⊥
Starts Bad = Unit {0}

starts_cond : (b : Bool) (x y : Slot) → Starts x → Starts y → Starts (cond b x y)
starts_cond true x y p q = p
starts_cond false x y p q = q

starts_io : (z : ℕ) → Starts (sized Io false z)
unfolding sized
starts_io z = starts_cond (eqb z 0) Bad _ tt tt

starts_low : (z : ℕ) → Starts (sized Low false z)
unfolding sized
starts_low z = starts_cond (eqb z 0) Bad _ tt tt

pub starts_narrow : (r : ℕ) → Starts (narrow_slot r)
unfolding narrow_slot io_slot
starts_narrow r =
    starts_cond (eqb r 0) Unused _ tt
    (starts_cond (is_io_bar r) _ _ (starts_cond (io_wrong r) Bad _ tt (starts_io _)) (starts_cond (eqb (r / 2 % 4) 0) _ Bad (starts_low _) tt))

starts_wide : (p : Pool) (z : ℕ) → Starts (sized p true z)
unfolding sized
starts_wide Low z = starts_cond (eqb z 0) Bad _ tt tt
starts_wide High z = starts_cond (eqb z 0) Bad _ tt tt
starts_wide Io z = starts_cond (eqb z 0) Bad _ tt tt

pub starts_here : (s : List ℕ) → Starts (slot_here s)
unfolding slot_here wide_slot
starts_here [] = tt
starts_here (r ∷ []) = starts_narrow r
starts_here (r ∷ u ∷ us) = starts_cond (is_wide r) _ _ (starts_wide (wide_pool r) _) (starts_narrow r)

registers_at_lem : (x : Slot) (r start : ℕ) → Starts x → registers_at x r start ≡ registers_of x (value_of x r start)
registers_at_lem Unused r start h = refl
registers_at_lem (Bar q wide z) r start h = refl
registers_at_lem Upper r start h = absurd h
registers_at_lem Bad r start h = refl

length_registers : (x : Slot) (v : ℕ) → length (map word (registers_of x v)) ≡ span x
length_registers x v = go (takes_next x)
  where
    go : (b : Bool) → length (map word (cond b (v % 4294967296 ∷ v / 4294967296 ∷ []) (v ∷ []))) ≡ cond b 2 1
    go true = refl
    go false = refl

-- ## Cursors

pub ends_kept : (e : Ends) → ends_of (kept_cursors e) ≡ cap_ends e
ends_kept e = λ i q. each q i
  where
    each : (q : Pool) → ends_of (kept_cursors e) q ≡ cap (e q)
    each Low = refl
    each High = refl
    each Io = refl

kept_ext : (e f : Ends) → ((q : Pool) → cap (e q) ≡ cap (f q)) → kept_cursors e ≡ kept_cursors f
kept_ext e f h = λ i. record { low = h Low i; high = h High i; io = h Io i }

-- what was kept is kept
pub kept_kept : (c : Cursors) (e : Ends) → c ≡ kept_cursors e → c ≡ kept_cursors (ends_of c)
kept_kept c e h =
    h ∙ sym (kept_ext (ends_of c) e
    (λ q. ap (λ (x : Cursors). cap (ends_of x q)) h ∙ ap (λ (f : Ends). cap (f q)) (ends_kept e) ∙ cap_cap (e q)))

-- a BAR of n bytes that starts at s
pub kept_bar : (c : Cursors) (q : Pool) (wide : Bool) (z e s n : ℕ) → c ≡ kept_cursors (ends_of c) → e ≡ ends_of c q → s ≡ cap (align_up z e)
    → n ≡ cap (s + z)
    → with_end c q n ≡ kept_cursors (after_bar (ends_of c) (Bar q wide z))
kept_bar c Low wide z e s n k d f g =
    let h : n ≡ cap (align_up z c.low + z) = omega (arith, ap (align_up z) d) in
    λ i. record { low = h i; high = (k i).high; io = (k i).io }
kept_bar c High wide z e s n k d f g =
    let h : n ≡ cap (align_up z c.high + z) = omega (arith, ap (align_up z) d) in
    λ i. record { low = (k i).low; high = h i; io = (k i).io }
kept_bar c Io wide z e s n k d f g =
    let h : n ≡ cap (align_up z c.io + z) = omega (arith, ap (align_up z) d) in
    λ i. record { low = (k i).low; high = (k i).high; io = h i }

-- ## The loop over a set's slots

-- the registers from place i on, with these cursors there
unfoldable pub kept_from : List ℕ → ℕ → Ends → ℕ → List ℕ
kept_from set n e i =
    let xs = slots (drop i (take n set)) in
    map word (values_at xs (drop i set) (map cap (bar_starts e xs)))

-- how far the loop has come
pub record Placing (set : List ℕ) (n : ℕ) (c : Ends) (values : List ℕ) (at : Cursors) (i : ℕ) : Type 0 where
  pub within : i ≤ n
  pub six : length values ≡ 6
  pub lawful : any_bad (slots (drop i (take n set))) ≡ false
  pub kept : at ≡ kept_cursors (ends_of at)
  pub clear : drop i values ≡ zeros (6 - i)
  pub registers : take i values ++ kept_from set n (ends_of at) i ≡ kept_values set n c
  pub cursors : kept_cursors (after_bars (ends_of at) (slots (drop i (take n set)))) ≡ kept_cursors (after_bars c (slots (take n set)))

pub placing_start : (set : List ℕ) (n : ℕ) (c : Ends) (at : Cursors) → any_bad (slots (take n set)) ≡ false → at ≡ kept_cursors c
    → Placing set n c (zeros 6) at 0
unfolding kept_from kept_values
placing_start set n c at good h =
    record {
      within = omega arith;
      six = refl;
      lawful = good;
      kept = kept_kept at c h;
      clear = refl;
      registers = ap (λ (l : List ℕ). map word (values_at xs set l))
          (ap (λ (e : Ends). map cap (bar_starts e xs)) same ∙ cap_bar_starts c xs (all_sized_lem (take n set)));
      cursors = kept_ext _ _ (λ q. ap (λ (e : Ends). cap (after_bars e xs q)) same ∙ cap_after_bars c xs (all_sized_lem (take n set)) q);
    }
  where
    xs : List Slot
    xs = slots (take n set)

    same : ends_of at ≡ cap_ends c
    same = ap ends_of h ∙ ends_kept c

-- what follows the slot x at place i: its upper half is passed over
after_slot : (x : Slot) (s : List ℕ) (i : ℕ) → List Slot
after_slot x s i = cond (takes_next x) (Upper ∷ slots (drop (i + 2) s)) (slots (drop (i + 1) s))

values_after : (x : Slot) (s set : List ℕ) (i : ℕ) (e : Ends)
    → values_at (after_slot x s i) (drop 1 (drop i set)) (map cap (bar_starts e (after_slot x s i)))
    ≡ values_at (slots (drop (i + span x) s)) (drop (i + span x) set) (map cap (bar_starts e (slots (drop (i + span x) s))))
unfolding after_slot values_at bar_starts
values_after x s set i e = go (takes_next x)
  where
    two : i + 1 + 1 ≡ i + 2
    two = omega arith

    go : (b : Bool)
        → values_at (cond b (Upper ∷ slots (drop (i + 2) s)) (slots (drop (i + 1) s))) (drop 1 (drop i set))
        (map cap (bar_starts e (cond b (Upper ∷ slots (drop (i + 2) s)) (slots (drop (i + 1) s)))))
        ≡ values_at (slots (drop (i + cond b 2 1) s)) (drop (i + cond b 2 1) set) (map cap (bar_starts e (slots (drop (i + cond b 2 1) s))))
    go true = rw (drop-drop 1 i set, drop-drop 1 (i + 1) set, two)
    go false = rw (drop-drop 1 i set)

ends_after : (x : Slot) (s : List ℕ) (i : ℕ) (e : Ends) → after_bars e (after_slot x s i) ≡ after_bars e (slots (drop (i + span x) s))
unfolding after_slot after_bars
ends_after x s i e = go (takes_next x)
  where
    go : (b : Bool) → after_bars e (cond b (Upper ∷ slots (drop (i + 2) s)) (slots (drop (i + 1) s)))
        ≡ after_bars e (slots (drop (i + cond b 2 1) s))
    go true = refl
    go false = refl

length_after : (x : Slot) (s : List ℕ) (i : ℕ) → length (x ∷ after_slot x s i) ≡ span x + length (slots (drop (i + span x) s))
unfolding after_slot
length_after x s i = go (takes_next x)
  where
    go : (b : Bool) → suc (length (cond b (Upper ∷ slots (drop (i + 2) s)) (slots (drop (i + 1) s)))) ≡ cond b 2 1
        + length (slots (drop (i + cond b 2 1) s))
    go true = omega arith
    go false = omega arith

module _ (set : List ℕ) (n : ℕ) (c : Ends) (values : List ℕ) (at : Cursors) (i : ℕ) (p : Placing set n c values at i) (below : i < n)
    (most : n ≤ 6)
    (six : length set ≡ 6) (x : Slot) (here : x ≡ slot_here (drop i (take n set))) where
  abbrev first : List ℕ
  first = take n set

  inside : i < length first
  inside = omega (arith, length_first set n six)

  -- the loop's slot is lawful
  pub not_bad : is_bad x ≡ false
  not_bad = false_of_not (is_bad x) (λ b. true≢false (sym (any_bad_of_bad first i x inside here b) ∙ p.lawful))

  slots_now : slots (drop i first) ≡ x ∷ after_slot x first i
  unfolding after_slot
  slots_now = slots_at_step first i x inside here not_bad

  -- and lies within the first n
  pub span_le : i + span x ≤ n
  span_le =
      omega (
        arith,
        length_first set n six,
        length-drop i first,
        length_slots (drop i first),
        ap length slots_now,
        length_after x first i,
        p.within,
      )

  module _ (start v : ℕ) (values' : List ℕ) (at' : Cursors) (s : start ≡ cap (start_of (ends_of at) x))
      (w : v ≡ value_of x (get_or set i 0) start)
      (stored : values' ≡ sets values i (map word (registers_of x v))) (moved : at' ≡ kept_cursors (after_bar (ends_of at) x)) where
    abbrev e : Ends
    e = ends_of at

    abbrev rest : List Slot
    rest = slots (drop (i + span x) first)

    abbrev words : List ℕ
    words = map word (registers_of x v)

    room : i + length words ≤ length values
    room = omega (arith, length_registers x v, span_le, p.six)

    same : ends_of at' ≡ cap_ends (after_bar e x)
    same = ap ends_of moved ∙ ends_kept (after_bar e x)

    tail_same : map cap (bar_starts (ends_of at') rest) ≡ map cap (bar_starts (after_bar e x) rest)
    tail_same = ap (λ (f : Ends). map cap (bar_starts f rest)) same
        ∙ cap_bar_starts (after_bar e x) rest (all_sized_lem (drop (i + span x) first))

    head_same : registers_at x (get_or (drop i set) 0 0) (cap (start_of e x)) ≡ registers_of x v
    head_same =
        registers_at_lem x _ _ (rw here (starts_here (drop i first)))
        ∙ ap (registers_of x) (ap₂ (value_of x) (head_at set i) (sym s) ∙ sym w)

    split : kept_from set n e i ≡ words ++ kept_from set n (ends_of at') (i + span x)
    unfolding kept_from values_at bar_starts
    split =
        ap (λ (xs : List Slot). map word (values_at xs (drop i set) (map cap (bar_starts e xs)))) slots_now
        ∙ map-append word (registers_at x (get_or (drop i set) 0 0) (cap (start_of e x)))
        (values_at (after_slot x first i) (drop 1 (drop i set)) (map cap (bar_starts (after_bar e x) (after_slot x first i))))
        ∙ ap₂ (λ (a b : List ℕ). map word a ++ map word b) head_same
        (values_after x first set i (after_bar e x) ∙ ap (values_at rest (drop (i + span x) set)) (sym tail_same))

    pub placing_step : Placing set n c values' at' (i + span x)
    unfolding after_bars
    placing_step =
        record {
          within = span_le;
          six = ap length stored ∙ length-sets values i words ∙ p.six;
          lawful = any_bad_step first i x inside here not_bad ∙ p.lawful;
          kept = kept_kept at' (after_bar e x) moved;
          clear = cleared;
          registers = front;
          cursors = kept_ext _ _ ends ∙ p.cursors;
        }
      where
        long : i + length words ≡ i + span x
        long = ap (λ (k : ℕ). i + k) (length_registers x v)

        less : 6 - i - span x ≡ 6 - (i + span x)
        less = omega arith

        cleared : drop (i + span x) values' ≡ zeros (6 - (i + span x))
        cleared =
            ap (drop (i + span x)) stored
            ∙ ap (λ (k : ℕ). drop k (sets values i words)) (sym long)
            ∙ drop_sets values words i room
            ∙ ap (λ (k : ℕ). drop k values) long
            ∙ sym (drop-drop (span x) i values)
            ∙ ap (drop (span x)) p.clear
            ∙ drop_zeros (6 - i) (span x)
            ∙ ap zeros less

        front : take (i + span x) values' ++ kept_from set n (ends_of at') (i + span x) ≡ kept_values set n c
        front =
            ap (λ (l : List ℕ). l ++ kept_from set n (ends_of at') (i + span x))
            (ap (take (i + span x)) stored ∙ ap (λ (k : ℕ). take k (sets values i words)) (sym long) ∙ take_sets values words i room)
            ∙ append_assoc (take i values) words (kept_from set n (ends_of at') (i + span x))
            ∙ ap (λ (l : List ℕ). take i values ++ l) (sym split)
            ∙ p.registers

        ends : (q : Pool) → cap (after_bars (ends_of at') rest q) ≡ cap (after_bars e (slots (drop i first)) q)
        ends q =
            ap (λ (f : Ends). cap (after_bars f rest q)) same
            ∙ cap_after_bars (after_bar e x) rest (all_sized_lem (drop (i + span x) first)) q
            ∙ ap (λ (f : Ends). cap (f q)) (sym (ends_after x first i (after_bar e x)))
            ∙ ap (λ (xs : List Slot). cap (after_bars e xs q)) (sym slots_now)

-- a read-back of 0 leaves all as it is
pub placing_skip : (rs : List ℕ) (n : ℕ) (c : Ends) (values : List ℕ) (at : Cursors) (i : ℕ) → Placing rs n c values at i → i < n → n ≤ 6
    → length rs ≡ 6 → get_or rs i 0 ≡ 0 → Placing rs n c values at (i + 1)
placing_skip rs n c values at i p below most six z =
    placing_step rs n c values at i p below most six Unused (slot_of_none rs n n i six (omega arith) below z) 0 0 values at refl refl stored
    p.kept
  where
    head_zeros : (k : ℕ) → get_or (zeros k) 0 0 ≡ 0
    head_zeros zero = refl
    head_zeros (suc k) = refl

    clear : get_or values i 0 ≡ 0
    clear = sym (head_at values i) ∙ ap (λ (l : List ℕ). get_or l 0 0) p.clear ∙ head_zeros (6 - i)

    stored : values ≡ sets values i (0 ∷ [])
    stored = sym (ap (set values i) (sym clear) ∙ set-get_or values i 0)

pub placing_end : (set : List ℕ) (n : ℕ) (c : Ends) (values : List ℕ) (at : Cursors) (i : ℕ) → Placing set n c values at i → n ≤ i
    → ◌≡◌ {A = BarsPlaced} (record { values = values; cursors = at }) (bars_placed set n c)
unfolding kept_from after_bars slots values_at
placing_end set n c values at i p h = λ j. record { values = all j; cursors = ends j }
  where
    i_is : i ≡ n
    i_is = omega (arith, p.within)

    none : drop i (take n set) ≡ []
    none = drop_of_length-le (take n set) {i = i} (omega (arith, length-take n set))

    all : values ≡ kept_values set n c ++ replicate (6 - n) 0
    all =
        sym (take-append-drop i values)
        ∙ ap₂ (λ (a b : List ℕ). a ++ b)
        (sym (append-nil (take i values)) ∙ ap (λ (l : List ℕ). take i values ++ l) (sym empty) ∙ p.registers)
        (p.clear ∙ ap (λ (k : ℕ). zeros (6 - k)) i_is)
      where
        empty : kept_from set n (ends_of at) i ≡ []
        empty = rw none

    ends : at ≡ kept_cursors (after_bars c (slots (take n set)))
    ends = p.kept ∙ rw none at p.cursors

-- cursors that were kept before answer the same
pub bars_placed_kept : (set : List ℕ) (n : ℕ) (c : Ends) (at : Cursors) → at ≡ kept_cursors c → bars_placed set n (ends_of at)
    ≡ bars_placed set n c
unfolding kept_values
bars_placed_kept set n c at h =
    ap₂ (λ (vs : List ℕ) (k : Cursors). record { values = vs ++ replicate (6 - n) 0; cursors = k })
    (ap (λ (l : List ℕ). map word (values_at xs set l))
    (ap (λ (e : Ends). map cap (bar_starts e xs)) same ∙ cap_bar_starts c xs (all_sized_lem (take n set))))
    (kept_ext _ _ (λ q. ap (λ (e : Ends). cap (after_bars e xs q)) same ∙ cap_after_bars c xs (all_sized_lem (take n set)) q))
  where
    xs : List Slot
    xs = slots (take n set)

    same : ends_of at ≡ cap_ends c
    same = ap ends_of h ∙ ends_kept c

-- ## A slot's registers stored

pub span_one : (x : Slot) → 0 < span x
span_one x = go (takes_next x)
  where
    go : (b : Bool) → 0 < cond b 2 1
    go true = omega arith
    go false = omega arith

pub span_two : (x : Slot) → takes_next x ≡ true → span x ≡ 2
span_two x e = rw e

pub put_one : (l : List ℕ) (i : ℕ) (x : Slot) (v : ℕ) → takes_next x ≡ false → set l i (v % 4294967296)
    ≡ sets l i (map word (registers_of x v))
put_one l i x v e = rw e

pub put_two : (l : List ℕ) (i : ℕ) (x : Slot) (v : ℕ) → takes_next x ≡ true → v < 2 ^ 64
    → set (set l i (v % 4294967296)) (i + 1) (v / 4294967296) ≡ sets l i (map word (registers_of x v))
put_two l i x v e h =
    let a : v % 4294967296 % 4294967296 ≡ v % 4294967296 = omega arith in
    let b : v / 4294967296 % 4294967296 ≡ v / 4294967296 = omega arith in
    rw (e, a, b, add-one i)

-- ## A window

pub window_none : (q : Pool) (inner : Extent) (e below : ℕ) → inner.align ≡ 0
    → window_placed q inner e below ≡ record { window = closed q; cursor = cap e; below = cap below }
window_none q inner e below h = rw (eq-eqb inner.align 0 h)

-- a the alignment, z the size
pub window_some : (q : Pool) (inner : Extent) (e below a z start stop : ℕ) → (inner.align ≡ 0 → ⊥) → a ≡ window_align q inner.align
    → z ≡ window_size q (cap inner.end) → start ≡ cap (align_up a e) → stop ≡ cap (start + z)
    → window_placed q inner e below ≡ record { window = opened q start stop; cursor = stop; below = start }
window_some q inner e below a z start stop n ea ez es et =
    rw (ne_eqb inner.align 0 n, ← first, ← last)
  where
    first : start ≡ cap (window_start q inner e)
    first = es ∙ ap (λ (k : ℕ). cap (align_up k e)) ea

    last : stop ≡ cap (window_stop q inner e)
    last = omega (arith, et, first, ez, cap_align (granule q) (granule_pos q) inner.end)

pub windows_of_three : (inner : Extents) (c below : Cursors) (l h i : WindowPlaced) → l
    ≡ window_placed Low inner.low c.low below.low
    → h ≡ window_placed High inner.high c.high below.high → i ≡ window_placed Io inner.io c.io below.io
    → ◌≡◌ {A = WindowsPlaced}
    (record {
      low = l.window;
      high = h.window;
      io = i.window;
      cursors = record { low = l.cursor; high = h.cursor; io = i.cursor };
      below = record { low = l.below; high = h.below; io = i.below };
    })
    (windows_placed inner c below)
windows_of_three inner c below l h i el eh ei = λ j.
    record {
      low = (el j).window;
      high = (eh j).window;
      io = (ei j).window;
      cursors = record { low = (el j).cursor; high = (eh j).cursor; io = (ei j).cursor };
      below = record { low = (el j).below; high = (eh j).below; io = (ei j).below };
    }
