-- What a loop over the records keeps, in the words of its two calls: its arrays hold the cursors of every bus before the next record, cut
-- at 2^62; and what it writes of a record is the plan's, where nothing runs out. Assumes nothing.
use Rattle.std.specs.Prelude.{◌≡◌, true, false, ℕ, suc, ◌≤◌, ◌<◌, max, take, drop}
use Rattle.std.proofs.Common.{sym, ap₂, subst, ◌∙◌, ⊎_elim}
use Rattle.std.proofs.Math.Path.{ap}
use mathlib.Core.List.{List, map}
use native.Mathlib.Omega.{arith}
use Rattle.arith.specs.Order.{eq_or_ne}
use Rattle.arith.specs.Powers.{PowerOfTwo}
use Rattle.pools.specs.declared.Pool.{Pool}
use Rattle.pools.specs.Pools.{granule}
use Rattle.bar.specs.declared.Slot.{Slot}
use Rattle.bar.specs.Bar.{slots}
use Rattle.bar.specs.Bar.{SizedSlot}
use Rattle.lists.specs.Lists.{All}
use Rattle.lists.specs.ListLaws.{all_imp, all_drop}
use Rattle.plan_rule.proofs.PoolLaws.{granule_power}
use Rattle.plan_rule.specs.Records.{Host, Function, Lawful, Sized}
use Rattle.plan_rule.proofs.RecordLaws.{IsAt}
use Rattle.plan_rule.specs.Layout.{largest_align}
use Rattle.plan_rule.proofs.LayoutLaws.{largest_align_power}
use Rattle.plan_rule.specs.Pieces.{content_of, pieces}
use Rattle.plan_rule.proofs.PieceLaws.{BarsSized, Shaped, content_shaped, pieces_shaped}
use Rattle.plan_rule.specs.Placing.{placed}
use Rattle.plan_rule.specs.declared.Extent.{Extent}
use Rattle.plan_rule.specs.Sizing.{nothing, bus_laid}
use Rattle.plan_rule.proofs.ExtentLaws.{extend_align, extend_content}
use Rattle.plan_rule.specs.Cap.{cap}
use Rattle.plan_rule.proofs.CapLaws.{capped}
use Rattle.plan_function.specs.Registers.{bars_from, window_for, values_from}
use Rattle.plan_function.specs.Function.{Ends, bar_starts, after_bars, values_at, is_empty, window_at, after_window, below_window}
use Rattle.plan_function.specs.Pass.{cursors_at}
use Rattle.plan_function.proofs.PassLaws.{cursors_at_start}
use Rattle.plan_function.specs.Kept.{word, kept_values, kept_window}
use Rattle.plan_function.proofs.KeptLaws.{all_sized_lem}
use Rattle.plan_function.proofs.CapLaws.{cap_ends, cap_after_bars, cap_bar_starts, cap_window_start, cap_window_stop, cap_after_window}
use Rattle.plan_function.proofs.CapLaws.{cap_below_window}
use Rattle.plan_function.proofs.JoinLaws.{Room, whole_of_room, bus_before, inside_of, parent_lt, values_cut, window_cut, cursor_own}
use Rattle.plan_function.proofs.JoinLaws.{cursor_below, cursor_other}
use Rattle.plan_function.proofs.WordLaws.{all_fitting, map_word, words_join}

-- the arrays of the buses up to n, before the record at index i
abbrev pub Agrees : Host → List Function → ℕ → ℕ → (ℕ → Ends) → Type 0
Agrees h fs n i a = (b : ℕ) → b ≤ n → (q : Pool) → a b q ≡ cap (cursors_at h fs i b q)

-- at first every cursor is its pool's base
pub agrees_start : (h : Host) (fs : List Function) (n : ℕ) (a : ℕ → Ends) → ((b : ℕ) → b ≤ n → (q : Pool) → a b q ≡ cap (h.base q))
    → Agrees h fs n 0 a
agrees_start h fs n a e b l q = e b l q ∙ ap (λ (c : ℕ → Ends). cap (c b q)) (sym (cursors_at_start h fs))

-- the record at index i, whose slots are those of the first m read-backs of its set
module _ (h : Host) (fs : List Function) (lawful : Lawful fs) (i : ℕ) (f : Function) (at : IsAt fs i f) (set : List ℕ) (m : ℕ)
    (bars : f.bars ≡ bars_from 0 (slots (take m set))) (n : ℕ) (a : ℕ → Ends) (agrees : Agrees h fs n i a) (last : i < n) where
  abbrev xs : List Slot
  xs = slots (take m set)

  sized_slots : All SizedSlot xs
  sized_slots = all_sized_lem (take m set)

  abbrev own : Ends
  own = bus_before h fs i f

  own_le : f.parent ≤ n
  own_le = omega (arith, parent_lt h fs lawful i f at xs bars)

  own_is : a f.parent ≡ cap_ends own
  own_is = λ j q. agrees f.parent own_le q j

  -- after its BARs
  bars_end_lem : (q : Pool) → cap (after_bars (a f.parent) xs q) ≡ cap (after_bars own xs q)
  bars_end_lem q = ap (λ (e : Ends). cap (after_bars e xs q)) own_is ∙ cap_after_bars own xs sized_slots q

  -- BAR registers are the plan's
  pub values_planned : Room h fs → kept_values set m (a f.parent) ≡ values_from (suc i) 0 (placed h fs) xs set
  unfolding kept_values
  values_planned room =
      ap (λ (l : List ℕ). map word (values_at xs set l))
      (ap (λ (e : Ends). map cap (bar_starts e xs)) own_is ∙ cap_bar_starts own xs sized_slots)
      ∙ ap (map word) (sym (values_cut h fs lawful i f at xs bars cap (whole_of_room h fs lawful room) set))
      ∙ map_word _ (words_join h fs lawful room i f at xs bars (all_fitting (take m set)) set)

  -- a function that is no bridge: its bus alone moves
  pub agrees_leaf : (a' : ℕ → Ends) → f.bridge ≡ false → ((q : Pool) → a' f.parent q ≡ cap (after_bars (a f.parent) xs q))
      → ((b : ℕ) → b ≤ n → (b ≡ f.parent → ⊥) → (q : Pool) → a' b q ≡ a b q) → Agrees h fs n (suc i) a'
  agrees_leaf a' leaf moved kept b l q = ⊎_elim mine other (eq_or_ne b f.parent)
    where
      mine : b ≡ f.parent → a' b q ≡ cap (cursors_at h fs (suc i) b q)
      mine e = rw e (moved q ∙ bars_end_lem q ∙ ap cap (sym (cursor_own h fs lawful i f at xs bars q ∙ rw leaf)))

      below : b ≡ suc i → cursors_at h fs (suc i) b q ≡ cursors_at h fs i b q
      below e = rw e (cursor_below h fs lawful i f at xs bars q ∙ rw leaf)

      other : (b ≡ f.parent → ⊥) → a' b q ≡ cap (cursors_at h fs (suc i) b q)
      other ne =
          kept b l ne q ∙ agrees b l q
          ∙ ap cap (sym (⊎_elim below (cursor_other h fs lawful i f at xs bars b q ne) (eq_or_ne b (suc i))))

  -- a bridge, with what its bus comes to, cut at 2^62
  module _ (bridge : f.bridge ≡ true) (x : Pool → Extent) (sized : (q : Pool) → x q ≡ capped (inside_of fs i f q)) where
    abbrev inside : Pool → Extent
    inside = inside_of fs i f

    -- c are the cursors after its BARs
    module _ (c : Ends) (after : (q : Pool) → c q ≡ cap (after_bars (a f.parent) xs q)) where
      end_is : (q : Pool) → c q ≡ cap (after_bars own xs q)
      end_is q = after q ∙ bars_end_lem q

      pub window_planned : Room h fs → (q : Pool) → kept_window q (x q) (c q) ≡ window_for (suc i) q (placed h fs)
      window_planned room q =
          ap₂ (kept_window q) (sized q) (end_is q)
          ∙ ap₂ (window_at q (is_empty (inside q))) (cap_window_start q (inside q) (after_bars own xs q))
          (cap_window_stop q (inside q) (after_bars own xs q))
          ∙ sym (window_cut h fs lawful i f at xs bars cap (whole_of_room h fs lawful room) bridge q)

      -- its bus and the bus below it move
      pub agrees_bridge : (a' : ℕ → Ends) → ((q : Pool) → a' f.parent q ≡ cap (after_window q (x q) (c q)))
          → ((q : Pool) → a' (suc i) q ≡ cap (below_window q (x q) (c q) (a (suc i) q)))
          → ((b : ℕ) → b ≤ n → (b ≡ f.parent → ⊥) → (b ≡ suc i → ⊥) → (q : Pool) → a' b q ≡ a b q) → Agrees h fs n (suc i) a'
      agrees_bridge a' moved opened kept b l q =
          ⊎_elim mine (λ ne. ⊎_elim below
          (λ nk. kept b l ne nk q ∙ agrees b l q ∙ ap cap (sym (cursor_other h fs lawful i f at xs bars b q ne nk)))
          (eq_or_ne b (suc i)))
          (eq_or_ne b f.parent)
        where
          mine : b ≡ f.parent → a' b q ≡ cap (cursors_at h fs (suc i) b q)
          mine e =
              rw e
              (moved q
              ∙ ap₂ (λ (y : Extent) (k : ℕ). cap (after_window q y k)) (sized q) (end_is q)
              ∙ cap_after_window q (inside q) (after_bars own xs q)
              ∙ ap cap (sym (cursor_own h fs lawful i f at xs bars q ∙ rw bridge)))

          below : b ≡ suc i → a' b q ≡ cap (cursors_at h fs (suc i) b q)
          below e =
              rw e
              (opened q
              ∙ ap₂ (λ (y : Extent) (k : ℕ). cap (below_window q y k (a (suc i) q))) (sized q) (end_is q)
              ∙ ap (λ (k : ℕ). cap (below_window q (capped (inside q)) (cap (after_bars own xs q)) k)) (agrees (suc i) last q)
              ∙ cap_below_window q (inside q) (after_bars own xs q) (cursors_at h fs i (suc i) q)
              ∙ ap cap (sym (cursor_below h fs lawful i f at xs bars q ∙ rw bridge)))

    -- what the call for its windows requires
    pub align_power : (q : Pool) → PowerOfTwo (max (granule q) (x q).align)
    unfolding bus_laid
    align_power q =
        let rest = pieces (suc (suc i)) (drop (suc i) fs) in
        let content = content_of (suc i) f.spare_low q rest in
        let e : (x q).align ≡ largest_align content =
        ap (λ (y : Extent). y.align) (sized q ∙ ap capped (sym (extend_content (suc i) f.spare_low q rest)))
        ∙ extend_align nothing content
        ∙ omega arith in
        rw e
        (largest_align_power (granule q) content (granule_power q)
        (all_imp _ _ content (content_shaped (suc i) f.spare_low q rest shaped) (λ p s. s.align_power)))
      where
        shaped : All Shaped (pieces (suc (suc i)) (drop (suc i) fs))
        shaped = pieces_shaped (suc (suc i)) (drop (suc i) fs) (subst Sized at (all_drop BarsSized i fs lawful.sized)).1
