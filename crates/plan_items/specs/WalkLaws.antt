-- The laws of the walk over one record: an item starts at or after the end before it; the loop over the slots, turn by turn; its BARs and
-- then its window. Assumes nothing.
use Rattle.std.specs.Prelude.{◌≡◌, Bool, true, false, ◌&&◌, ◌||◌, ℕ, suc, ◌+◌, ◌-◌, ◌≤◌, ◌<◌, eqb, ltb, length, take, drop}
use Rattle.std.proofs.Math.Path.{refl, sym, ap}
use Rattle.std.proofs.Common.{◌∙◌, ⊎_elim, add-one, arith, eq-eqb, ne_eqb, lt-ltb, le-ltb, drop_of_length-le}
use Rattle.std.proofs.Math.Bool.{cond}
use mathlib.Core.List.{List, [], ◌∷◌, ◌++◌}
use Rattle.std.proofs.Math.Numerals.{add-two}
use Rattle.arith.specs.Order.{le_or_lt}
use Rattle.arith.specs.Align.{align_up}
use Rattle.arith.specs.Powers.{PowerOfTwo}
use Rattle.arith.specs.PowersLaws.{pos_of_power}
use Rattle.arith.specs.AlignLaws.{le_align_up}
use Rattle.pools.specs.Pools.{same_pool}
use Rattle.bar.specs.declared.Slot.{Slot}
use Rattle.bar.specs.declared.Slot.TheVariants.{Unused, Bar, Upper, Bad}
use Rattle.bar.specs.Bar.{slot_here, slots, is_bad, any_bad, takes_next, span}
use Rattle.bar.specs.BarLaws.{slots_at_step, any_bad_step}
use Rattle.board_record.specs.declared.Function.{Function}
use Rattle.board_record.specs.Function.{is_bridge, slot_count}
use Rattle.plan_rule.specs.declared.Extent.{Extent}
use Rattle.plan_rule.specs.Pieces.{window_size, window_align}
use Rattle.plan_rule.specs.Cap.{limit, cap}
use Rattle.plan_sizing.specs.CutLaws.{not_bad_of_lawful}
use Rattle.finding.specs.declared.Party.{Party}
use Rattle.finding.specs.Places.{window_place}
use Rattle.plan_items.specs.declared.Told.{Told}
use Rattle.plan_items.specs.declared.Watched.{Watched}
use Rattle.plan_items.specs.declared.Seen.{Seen}
use Rattle.plan_items.specs.declared.BarsSeen.{BarsSeen}
use Rattle.plan_items.specs.Walk.{ends_out, out_after, see, see_all, told_at, bars_told, bars_end, window_told, slots_of, record_told}
use Rattle.plan_items.specs.Walk.{seen_after, slot_seen, bars_seen}

-- an item starts at or after the end before it
pub before_le_start : (align e start : ℕ) → PowerOfTwo align → e ≤ limit → start ≡ cap (align_up align e) → e ≤ start
before_le_start align e start p h s = omega (arith, s, le_align_up align (pos_of_power p) e)

-- the items of two lists, one after the other
pub see_all_append : (w : Watched) (s : Seen) (xs ys : List Told) → see_all w s (xs ++ ys) ≡ see_all w (see_all w s xs) ys
unfolding see_all
see_all_append w s [] ys = refl
see_all_append w s (x ∷ xs) ys = see_all_append w (see w s x) xs ys

pub see_all_one : (w : Watched) (s : Seen) (x : Told) → see_all w s (x ∷ []) ≡ see w s x
unfolding see_all
see_all_one w s x = refl

pub see_all_none : (w : Watched) (s : Seen) → see_all w s [] ≡ s
unfolding see_all
see_all_none w s = refl

-- ## The loop over a record's slots

module _ (w : Watched) (b k : ℕ) where
  pub slot_seen_within : (i : ℕ) (d : BarsSeen) (x : Slot) → d.end ≤ limit → (slot_seen w b k i d x).end ≤ limit
  slot_seen_within i d Unused h = h
  slot_seen_within i d (Bar p wide size) h = go (same_pool p w.pool)
    where
      go : (t : Bool) → (cond t (seen_after w d (told_at b k i d.end size size)) d).end ≤ limit
      go true = omega arith
      go false = h
  slot_seen_within i d Upper h = h
  slot_seen_within i d Bad h = h

  bars_seen_cons : (i : ℕ) (d : BarsSeen) (x : Slot) (xs : List Slot)
      → bars_seen w b k (suc i) (slot_seen w b k i d x) xs ≡ bars_seen w b k i d (x ∷ xs)
  unfolding bars_told bars_end see_all
  bars_seen_cons i d Unused xs = refl
  bars_seen_cons i d (Bar p wide size) xs = go (same_pool p w.pool)
    where
      here : Told
      here = told_at b k i d.end size size

      go : (t : Bool) → bars_seen w b k (suc i) (cond t (seen_after w d here) d) xs
          ≡ record {
            seen = see_all w d.seen
                (cond t (here ∷ bars_told w.pool b k (suc i) here.stop xs) (bars_told w.pool b k (suc i) d.end xs));
            end = bars_end w.pool (cond t here.stop d.end) xs;
          }
      go true = refl
      go false = refl
  bars_seen_cons i d Upper xs = refl
  bars_seen_cons i d Bad xs = refl

  -- one turn
  pub bars_seen_turn : (set : List ℕ) (i : ℕ) (d : BarsSeen) (x : Slot) → i < length set → x ≡ slot_here (drop i set) → is_bad x ≡ false
      → bars_seen w b k (i + span x) (slot_seen w b k i d x) (slots (drop (i + span x) set)) ≡ bars_seen w b k i d (slots (drop i set))
  bars_seen_turn set i d x h e l =
      go (takes_next x)
      ∙ bars_seen_cons i d x (rest (takes_next x))
      ∙ ap (bars_seen w b k i d) (sym (slots_at_step set i x h e l))
    where
      d' : BarsSeen
      d' = slot_seen w b k i d x

      rest : Bool → List Slot
      rest t = cond t (Upper ∷ slots (drop (i + 2) set)) (slots (drop (i + 1) set))

      go : (t : Bool) → bars_seen w b k (i + cond t 2 1) d' (slots (drop (i + cond t 2 1) set)) ≡ bars_seen w b k (suc i) d' (rest t)
      go true = rw (add-two i) (bars_seen_cons (suc i) d' Upper (slots (drop (suc (suc i)) set)))
      go false = rw (add-one i)

  pub bars_seen_done : (set : List ℕ) (i : ℕ) (d : BarsSeen) → length set ≤ i → bars_seen w b k i d (slots (drop i set)) ≡ d
  unfolding bars_told bars_end see_all slots
  bars_seen_done set i d h = rw (drop_of_length-le set h)

-- what holds at slot i of the loop that began with d₀
pub record Seeing (w : Watched) (b k : ℕ) (set : List ℕ) (d₀ d : BarsSeen) (i : ℕ) : Type 0 where
  pub lawful : any_bad (slots (drop i set)) ≡ false
  pub within : d.end ≤ limit
  pub comes_to_lem : bars_seen w b k i d (slots (drop i set)) ≡ bars_seen w b k 0 d₀ (slots set)

pub seeing_start : (w : Watched) (b k : ℕ) (set : List ℕ) (d : BarsSeen) → any_bad (slots set) ≡ false → d.end ≤ limit
    → Seeing w b k set d d 0
seeing_start w b k set d l h = record { lawful = l; within = h; comes_to_lem = refl }

pub seeing_turn : (w : Watched) (b k : ℕ) (set : List ℕ) (d₀ d after : BarsSeen) (i m : ℕ) (x : Slot) → Seeing w b k set d₀ d i
    → i < length set → x ≡ slot_here (drop i set) → after ≡ slot_seen w b k i d x → m ≡ span x → Seeing w b k set d₀ after (i + m)
seeing_turn w b k set d₀ d after i m x s h e f g =
    let l = not_bad_of_lawful set i x h e s.lawful in
    rw (f, g)
    (record {
      lawful = any_bad_step set i x h e l ∙ s.lawful;
      within = slot_seen_within w b k i d x s.within;
      comes_to_lem = bars_seen_turn w b k set i d x h e l ∙ s.comes_to_lem;
    })

pub seeing_end : (w : Watched) (b k : ℕ) (set : List ℕ) (d₀ d : BarsSeen) (i : ℕ) → Seeing w b k set d₀ d i → length set ≤ i
    → d ≡ bars_seen w b k 0 d₀ (slots set)
seeing_end w b k set d₀ d i s h = sym (bars_seen_done w b k set i d h) ∙ s.comes_to_lem

-- ## One item, in the words of the code

pub ends_out_before : (w : Watched) (stop : ℕ) → stop ≤ w.last → w.closed ≡ ends_out w stop
ends_out_before w stop h = go w.closed ∙ ap (λ (b : Bool). w.closed || b) (sym (le-ltb (suc w.last) stop (omega arith)))
  where
    go : (c : Bool) → c ≡ c || false
    go true = refl
    go false = refl

-- with no sum that could wrap
pub ends_out_after : (w : Watched) (stop : ℕ) → w.closed || ltb 1 (stop - w.last) ≡ ends_out w stop
ends_out_after w stop =
    ap (λ (b : Bool). w.closed || b)
    (⊎_elim
    (λ (h : stop ≤ suc w.last). le-ltb 1 (stop - w.last) (omega arith) ∙ sym (le-ltb (suc w.last) stop h))
    (λ (h : suc w.last < stop). lt-ltb 1 (stop - w.last) (omega arith) ∙ sym (lt-ltb (suc w.last) stop h))
    (le_or_lt stop (suc w.last)))

-- t is the test
pub out_after_test : (w : Watched) (out : Party) (x : Told) (r t : Bool) → r ≡ ends_out w x.stop
    → (eqb out.number 0 && (x.root && r)) ≡ t → cond t x.party out ≡ out_after w out x
out_after_test w out x r t e f =
    ap (λ (b : Bool). cond b x.party out) (sym f)
    ∙ ap (λ (b : Bool). cond (eqb out.number 0 && (x.root && b)) x.party out) e

pub seen_after_intro : (w : Watched) (d : BarsSeen) (b : ℕ) (party : Party) (size align start stop : ℕ) (seen : Seen)
    → start ≡ cap (align_up align d.end) → stop ≡ cap (start + size)
    → seen ≡ see w d.seen (record { root = eqb b 0; party = party; before = d.end; start = start; stop = stop })
    → ◌≡◌ {A = BarsSeen} (record { seen = seen; end = stop })
    (seen_after w d (told_at b party.number party.place d.end size align))
seen_after_intro w d b party size align start stop seen e f g = λ i. record { seen = (g ∙ ap (see w d.seen) told) i; end = ends i }
  where
    ends : stop ≡ cap (cap (align_up align d.end) + size)
    ends = f ∙ ap (λ (n : ℕ). cap (n + size)) e

    told : ◌≡◌ {A = Told} (record { root = eqb b 0; party = party; before = d.end; start = start; stop = stop })
        (told_at b party.number party.place d.end size align)
    told = λ i. record { root = eqb b 0; party = party; before = d.end; start = e i; stop = ends i }

-- ## A bridge's window, and the whole record

pub window_none : (w : Watched) (s : Seen) (b k e : ℕ) (inner : Extent) → inner.align ≡ 0
    → s ≡ see_all w s (window_told w.pool b k e inner)
window_none w s b k e inner z = rw (eq-eqb inner.align 0 z) (sym (see_all_none w s))

pub window_some : (w : Watched) (d after : BarsSeen) (b k place size align : ℕ) (inner : Extent) → (inner.align ≡ 0 → ⊥)
    → place ≡ window_place w.pool → size ≡ window_size w.pool (cap inner.end) → align ≡ window_align w.pool inner.align
    → after ≡ seen_after w d (told_at b k place d.end size align)
    → after.seen ≡ see_all w d.seen (window_told w.pool b k d.end inner)
window_some w d after b k place size align inner n e f g h =
    ap (λ (x : BarsSeen). x.seen) h ∙ rw (e, f, g, ne_eqb inner.align 0 n)
    (sym (see_all_one w d.seen (told_at b k (window_place w.pool) d.end (window_size w.pool (cap inner.end))
    (window_align w.pool inner.align))))

-- n is the number of its slots
module _ (w : Watched) (s : Seen) (f : Function) (k e : ℕ) (inner : Extent) (n : ℕ) (bars : BarsSeen) (m : n ≡ slot_count f)
    (g : bars ≡ bars_seen w f.parent k 0 (record { seen = s; end = e }) (slots (take n f.readbacks))) where
  own : bars ≡ bars_seen w f.parent k 0 (record { seen = s; end = e }) (slots_of f)
  own = g ∙ ap (λ (i : ℕ). bars_seen w f.parent k 0 (record { seen = s; end = e }) (slots (take i f.readbacks))) m

  abbrev told : List Told
  told = bars_told w.pool f.parent k 0 e (slots_of f)

  abbrev window : List Told
  window = window_told w.pool f.parent k (bars_end w.pool e (slots_of f)) inner

  pub record_bridge : (r : Seen) → is_bridge f ≡ true → r ≡ see_all w bars.seen (window_told w.pool f.parent k bars.end inner)
      → r ≡ see_all w s (record_told w.pool f k e inner)
  unfolding record_told
  record_bridge r b h =
      h
      ∙ ap (λ (d : BarsSeen). see_all w d.seen (window_told w.pool f.parent k d.end inner)) own
      ∙ sym (see_all_append w s told window)
      ∙ ap (λ (t : Bool). see_all w s (told ++ cond t window [])) (sym b)

  pub record_leaf : is_bridge f ≡ false → bars.seen ≡ see_all w s (record_told w.pool f k e inner)
  unfolding record_told
  record_leaf b =
      ap (λ (d : BarsSeen). d.seen) own
      ∙ sym (see_all_append w s told [] ∙ see_all_none w (see_all w s told))
      ∙ ap (λ (t : Bool). see_all w s (told ++ cond t window [])) (sym b)
