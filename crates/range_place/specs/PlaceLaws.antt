-- The search for the place of a BAR or open window, turn by turn, in the words of the code. Assumes nothing.
use Rattle.std.specs.Prelude.{◌≡◌, refl, Bool, true, false, cond, ℕ, zero, suc, ◌+◌, ◌-◌, ◌≤◌, ◌<◌, get_or, take, drop}
use Rattle.std.proofs.Common.{sym, ◌∙◌, true≢false, not-suc-le-zero, le_of_suc-le-suc, drop_of_length-le, get_or-append-add, lt-ltb, le-ltb}
use Rattle.std.proofs.Math.Path.{ap}
use mathlib.Core.List.{List, [], ◌∷◌, ◌++◌, append_assoc, append-nil}
use native.Mathlib.Omega.{arith}
use Rattle.std.proofs.Math.ListN.{length, get_or-append, get_or-eq_default}
use Rattle.lists.specs.Lists.{All, one_if}
use Rattle.endian.specs.Endian.{be}
use Rattle.pools.specs.declared.Pool.{Pool}
use Rattle.pools.specs.declared.Pool.TheVariants.{Low, High, Io}
use Rattle.bar.specs.declared.Slot.{Slot}
use Rattle.bar.specs.declared.Slot.TheVariants.{Unused, Bar, Upper, Bad}
use Rattle.bar.specs.Bar.{slot_here, slots, is_bad, any_bad, takes_next, span}
use Rattle.bar.specs.BarLaws.{length_first, slots_at_step, any_bad_of_bad, any_bad_step}
use Rattle.window.specs.declared.Window.{Window}
use Rattle.window.specs.Window.{start, stop, is_open}
use Rattle.sheet_record.specs.Places.{readbacks_at}
use Rattle.sheet_record.specs.Entry.{dwords, header_of, is_bridge, slot_count, entry_of, window_of, bridges}
use Rattle.sheet.specs.declared.Rule.TheVariants.{ReadBacks}
use Rattle.sheet.specs.Sheet.{breaks}
use Rattle.sheet.proofs.RulesLaws.{lawful_entry}
use Rattle.sheet_ranges.specs.BarsLaws.{slots_le_six}
use Rattle.audit_finding.specs.Zipped.{bar_place, bar_places, window_places, places_of}

-- ## An element of two lists joined

-- of a list that has one number only
within : (xs ys : List ℕ) (x n : ℕ) → All (λ y. y ≡ x) xs → n < length xs → get_or (xs ++ ys) n 0 ≡ x
within xs ys x n all h = get_or-append xs ys 0 n h ∙ only xs n all h
  where
    only : (xs : List ℕ) (n : ℕ) → All (λ y. y ≡ x) xs → n < length xs → get_or xs n 0 ≡ x
    only [] n all h = absurd (not-suc-le-zero h)
    only (y ∷ xs) zero all h = all.0
    only (y ∷ xs) (suc n) all h = only xs n all.1 (le_of_suc-le-suc h)

past : (xs ys : List ℕ) (n : ℕ) → length xs ≤ n → get_or (xs ++ ys) n 0 ≡ get_or ys (n - length xs) 0
past xs ys n h =
    let e : n ≡ length xs + (n - length xs) = omega (arith, h) in
    ap (λ (k : ℕ). get_or (xs ++ ys) k 0) e ∙ get_or-append-add xs ys (n - length xs) 0

-- ## Slot by slot: rs are the read-backs, ws the places of the windows

-- what is left from slot i on
abbrev pub places_left : List ℕ → List ℕ → ℕ → List ℕ
places_left rs ws i = bar_places i (slots (drop i rs)) ++ ws

abbrev pub Lawful : List ℕ → ℕ → Type 0
Lawful rs i = any_bad (slots (drop i rs)) ≡ false

same_count : (x : Slot) (i : ℕ) → length (bar_place x i) ≡ length (bar_place x 0)
same_count Unused i = refl
same_count (Bar q wide size) i = refl
same_count Upper i = refl
same_count Bad i = refl

same_place : (x : Slot) (i : ℕ) → All (λ p. p ≡ i) (bar_place x i)
same_place Unused i = tt
same_place (Bar q wide size) i = (refl, tt)
same_place Upper i = tt
same_place Bad i = tt

module _ (rs ws : List ℕ) (i : ℕ) (x : Slot) (h : i < length rs) (e : x ≡ slot_here (drop i rs)) (lawful : Lawful rs i) where
  not_bad : is_bad x ≡ false
  not_bad = go (is_bad x) refl
    where
      go : (b : Bool) → is_bad x ≡ b → b ≡ false
      go true w = absurd (true≢false (sym (any_bad_of_bad rs i x h e w) ∙ lawful))
      go false w = refl

  places_step : places_left rs ws i ≡ bar_place x i ++ places_left rs ws (i + span x)
  unfolding bar_places
  places_step =
      ap (λ (xs : List Slot). bar_places i xs ++ ws) (slots_at_step rs i x h e not_bad)
      ∙ go (takes_next x)
      ∙ append_assoc (bar_place x i) (bar_places (i + span x) (slots (drop (i + span x) rs))) ws
    where
      two : i + 1 + 1 ≡ i + 2
      two = omega arith

      go : (b : Bool)
          → (bar_place x i ++ bar_places (i + 1) (cond b (Upper ∷ slots (drop (i + 2) rs)) (slots (drop (i + 1) rs)))) ++ ws
          ≡ (bar_place x i ++ bar_places (i + cond b 2 1) (slots (drop (i + cond b 2 1) rs))) ++ ws
      go true = rw two
      go false = refl

  -- n are left to be passed over, here the BARs of this slot
  module _ (n here : ℕ) (is : here ≡ length (bar_place x 0)) where
    pub place_here : n < here → get_or (places_left rs ws i) n 0 ≡ i
    place_here l =
        ap (λ (ps : List ℕ). get_or ps n 0) places_step
        ∙ within (bar_place x i) (places_left rs ws (i + span x)) i n (same_place x i) (omega (arith, is, same_count x i, l))

    pub place_later : here ≤ n → (w : ℕ) → w ≡ span x → get_or (places_left rs ws (i + w)) (n - here) 0 ≡ get_or (places_left rs ws i) n 0
    place_later l w s =
        let fewer : here ≡ length (bar_place x i) = is ∙ sym (same_count x i) in
        rw (s, fewer)
        (sym (ap (λ (ps : List ℕ). get_or ps n 0) places_step
        ∙ past (bar_place x i) (places_left rs ws (i + span x)) n (omega (arith, fewer, l))))

  pub lawful_later : (w : ℕ) → w ≡ span x → Lawful rs (i + w)
  lawful_later w s = rw s (any_bad_step rs i x h e not_bad ∙ lawful)

pub places_end : (rs ws : List ℕ) (i n : ℕ) → length rs ≤ i → get_or (places_left rs ws i) n 0 ≡ get_or ws n 0
unfolding slots bar_places
places_end rs ws i n h = rw (drop_of_length-le rs h)

-- ## Of a record's part

-- only a bridge has windows
abbrev pub windows_in : List ℕ → List ℕ
windows_in p = cond (bridges (entry_of p)) (window_places (entry_of p)) []

module _ (p set : List ℕ) (n : ℕ) (r : set ≡ dwords (be 4) 6 p readbacks_at) (c : n ≡ slot_count (header_of p)) where
  pub lawful_start : breaks ReadBacks (entry_of p) ≡ false → Lawful (take n set) 0
  unfolding entry_of
  lawful_start w = rw (r, c) (lawful_entry (entry_of p) w)

  pub places_start : (m : ℕ) → get_or (places_left (take n set) (windows_in p) 0) m 0 ≡ get_or (places_of (entry_of p)) m 0
  unfolding places_of entry_of
  places_start m = rw (r, c)

  pub few_slots : n ≤ 6
  few_slots = omega (arith, c, slots_le_six p)

  six : length set ≡ 6
  unfolding dwords
  six = ap length r

  pub length_slots : length (take n set) ≡ n
  length_slots = omega (arith, length_first set n six, few_slots)

-- ## Windows

-- w is what was read of the window v
module _ (q : Pool) (w v : Window) (is : w ≡ v) (first last : ℕ) (e : first ≡ start q w) (f : last + 1 ≡ stop q w) where
  pub closed_window : last < first → ◌≡◌ {A = ℕ} 0 (cond (is_open q v) 1 0)
  closed_window l = rw (← is, le-ltb (start q w) (stop q w) (omega (arith, e, f, l)))

  pub open_window : first ≤ last → ◌≡◌ {A = ℕ} 1 (cond (is_open q v) 1 0)
  open_window l = rw (← is, lt-ltb (start q w) (stop q w) (omega (arith, e, f, l)))

-- the places of the three, where they are open
abbrev lowest : Bool → List ℕ
lowest a = one_if a 6

abbrev middle : Bool → List ℕ
middle b = one_if b 7

abbrev highest : Bool → List ℕ
highest c = one_if c 8

-- a, b and c say which of the three are open, and so many are
module _ (a b c : Bool) (n : ℕ) where
  count : (t : Bool) (x : ℕ) → length (one_if t x) ≡ cond t 1 0
  count true x = refl
  count false x = refl

  alone : (t : Bool) (x : ℕ) → All (λ y. y ≡ x) (one_if t x)
  alone true x = (refl, tt)
  alone false x = tt

  module _ (low : ℕ) (is : low ≡ cond a 1 0) where
    low_place : n < low → get_or ((lowest a ++ middle b) ++ highest c) n 0 ≡ 6
    low_place h =
        let l : n < length (lowest a) = omega (arith, is, count a 6, h) in
        ap (λ (xs : List ℕ). get_or xs n 0) (append_assoc (lowest a) (middle b) (highest c))
        ∙ within (lowest a) (middle b ++ highest c) 6 n (alone a 6) l

    module _ (past_low : low ≤ n) (high : ℕ) (also : high ≡ cond b 1 0) where
      after_low : get_or ((lowest a ++ middle b) ++ highest c) n 0 ≡ get_or (middle b ++ highest c) (n - length (lowest a)) 0
      after_low =
          ap (λ (xs : List ℕ). get_or xs n 0) (append_assoc (lowest a) (middle b) (highest c))
          ∙ past (lowest a) (middle b ++ highest c) n (omega (arith, is, count a 6, past_low))

      high_place : n < low + high → get_or ((lowest a ++ middle b) ++ highest c) n 0 ≡ 7
      high_place h =
          after_low
          ∙ within (middle b) (highest c) 7 (n - length (lowest a)) (alone b 7)
          (omega (arith, is, also, count a 6, count b 7, past_low, h))

      module _ (past_high : low + high ≤ n) (io : ℕ) (third : io ≡ cond c 1 0) where
        after_high : get_or ((lowest a ++ middle b) ++ highest c) n 0 ≡ get_or (highest c) (n - length (lowest a) - length (middle b)) 0
        after_high =
            after_low
            ∙ past (middle b) (highest c) (n - length (lowest a)) (omega (arith, is, also, count a 6, count b 7, past_high))

        io_place : n < low + high + io → get_or ((lowest a ++ middle b) ++ highest c) n 0 ≡ 8
        io_place h =
            after_high
            ∙ ap (λ (xs : List ℕ). get_or xs (n - length (lowest a) - length (middle b)) 0) (sym (append-nil (highest c)))
            ∙ within (highest c) [] 8 (n - length (lowest a) - length (middle b)) (alone c 8)
            (omega (arith, is, also, third, count a 6, count b 7, count c 8, past_high, h))

        no_place : low + high + io ≤ n → get_or ((lowest a ++ middle b) ++ highest c) n 0 ≡ 0
        no_place h =
            after_high
            ∙ get_or-eq_default (highest c) 0 (omega (arith, is, also, third, count a 6, count b 7, count c 8, h))

pub windows_none : (p : List ℕ) (n : ℕ) → is_bridge (header_of p) ≡ false → 0 ≡ get_or (windows_in p) n 0
unfolding entry_of
windows_none p n e = rw e

module _ (p : List ℕ) (n : ℕ) (bridge : is_bridge (header_of p) ≡ true) where
  abbrev a : Bool
  a = is_open Low (window_of Low p)

  abbrev b : Bool
  b = is_open High (window_of High p)

  abbrev c : Bool
  c = is_open Io (window_of Io p)

  windows_some : get_or ((lowest a ++ middle b) ++ highest c) n 0 ≡ get_or (windows_in p) n 0
  unfolding entry_of
  windows_some = rw bridge

  module _ (low : ℕ) (is : low ≡ cond (is_open Low (window_of Low p)) 1 0) where
    pub window_low : n < low → 6 ≡ get_or (windows_in p) n 0
    window_low h = sym (low_place a b c n low is h) ∙ windows_some

    module _ (past_low : low ≤ n) (high : ℕ) (also : high ≡ cond (is_open High (window_of High p)) 1 0) where
      pub window_high : n < low + high → 7 ≡ get_or (windows_in p) n 0
      window_high h = sym (high_place a b c n low is past_low high also h) ∙ windows_some

      module _ (past_high : low + high ≤ n) (io : ℕ) (third : io ≡ cond (is_open Io (window_of Io p)) 1 0) where
        pub window_io : n < low + high + io → 8 ≡ get_or (windows_in p) n 0
        window_io h = sym (io_place a b c n low is past_low high also past_high io third h) ∙ windows_some

        pub window_past : low + high + io ≤ n → 0 ≡ get_or (windows_in p) n 0
        window_past h = sym (no_place a b c n low is past_low high also past_high io third h) ∙ windows_some
