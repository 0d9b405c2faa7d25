-- The records of a plan are shaped as the sheet's layout wants them: every number has its width. Assumes nothing.
use Rattle.std.specs.Prelude.{◌≡◌, Bool, true, false, cond, ℕ, zero, suc, ◌+◌, ◌^◌, ◌≤◌, ◌<◌, length, drop}
use Rattle.std.proofs.Math.Path.{refl}
use Rattle.std.proofs.Common.{sym, ap, ◌∙◌, add-zero, arith}
use mathlib.Core.List.Memᴰ
use mathlib.Core.List.{List, [], ◌∷◌, cons≢nil, head-eq_of_cons-eq}
use Rattle.pools.specs.declared.Pool.{Pool}
use Rattle.pools.specs.declared.Pool.TheVariants.{Low, High, Io}
use Rattle.bar.specs.Bar.{slots}
use Rattle.bar.specs.PlacedLaws.{AllPlaced, length_placed_values, placed_value_lt}
use Rattle.window.specs.declared.Window.{Window}
use Rattle.window.specs.Window.{closed, Fits}
use Rattle.window.proofs.WindowLaws.{closed_fits}
use Rattle.lists.specs.Lists.{◌∈◌, All}
use Rattle.lists.specs.ListLaws.{drop_suc, all_elim}
use Rattle.plan_rule.specs.Records as placing
use Rattle.plan_rule.proofs.RecordLaws.{IsAt}
use Rattle.plan_rule.specs.Layout.{Placed}
use Rattle.plan_rule.specs.Placing.{placed}
use Rattle.plan_rule.specs.Numbering.{bridges, bus_number, subordinate_of, row_of, numbered_from, numbered}
use Rattle.plan_rule.proofs.Numbered.{Range, well_numbered}
use Rattle.plan_rule.proofs.NumberingLaws.{bridges_split}
use Rattle.plan_rule.specs.Refusals.{refusal_of}
use Rattle.plan_function.specs.Registers.{bar_start, values_from}
use Rattle.board_record.specs.declared.Host.{Host}
use Rattle.board_record.specs.declared.Function.{Function}
use Rattle.board_record.specs.Function.{is_bridge, slot_count}
use Rattle.board.specs.ToPlacing.{to_host, to_function, to_placing}
use Rattle.sheet_bytes.specs.Layout.{Dwords, NoBridge, Shaped, WellShaped}
use Rattle.plan_good.proofs.Kept.{AllKept, kept_of_planned}
use Rattle.plan_answer.specs.Plan.{slots_of, of_bridge, entry_for, planned_from, plan_of}
use Rattle.plan_sheet.specs.Fits.{FunctionFits, BoardFits}
use Rattle.plan_sheet.proofs.Starts.{bars_placed_lem}
use Rattle.plan_sheet.proofs.Windows.{window_fits}
use Rattle.plan_sheet.proofs.Values.{slot_readbacks, length_slot_readbacks, values_of_record}

-- ## A record of the board, by its place

-- function f stands at index i
abbrev pub StandsAt : List Function → ℕ → Function → List Function → Type 0
StandsAt fs i f gs = drop i fs ≡ f ∷ gs

pub at_placing : (i : ℕ) (fs : List Function) (f : Function) (gs : List Function) → StandsAt fs i f gs
    → IsAt (to_placing fs) i (to_function f)
at_placing zero [] f gs e = absurd (cons≢nil (sym e))
at_placing zero (g ∷ fs) f gs e = ap (λ (x : Function). to_function x ∷ to_placing fs) (head-eq_of_cons-eq e)
at_placing (suc i) [] f gs e = absurd (cons≢nil (sym e))
at_placing (suc i) (g ∷ fs) f gs e = at_placing i fs f gs e

row_from : (first : ℕ) (all : List placing.Function) (k i : ℕ) (fs : List Function) (f : Function) (gs : List Function) → StandsAt fs i f gs
    → row_of first all (k + i) (to_function f) ∈ numbered_from first all k (to_placing fs)
unfolding numbered_from
row_from first all k zero [] f gs e = absurd (cons≢nil (sym e))
row_from first all k zero (g ∷ fs) f gs e =
    rw (add-zero k) (Memᴰ.head (ap (λ (x : Function). row_of first all k (to_function x)) (sym (head-eq_of_cons-eq e))))
row_from first all k (suc i) [] f gs e = absurd (cons≢nil (sym e))
row_from first all k (suc i) (g ∷ fs) f gs e =
    let place : k + suc i ≡ suc k + i = omega arith in
    rw place (Memᴰ.tail (row_from first all (suc k) i fs f gs e))

row_at : (first i : ℕ) (fs : List Function) (f : Function) (gs : List Function) → StandsAt fs i f gs
    → row_of first (to_placing fs) (suc i) (to_function f) ∈ numbered first (to_placing fs)
row_at first i fs f gs e = let place : 1 + i ≡ suc i = omega arith in rw place at (row_from first (to_placing fs) 1 i fs f gs e)

-- ## Bus numbers

bus_number_le : (first : ℕ) (ps : List placing.Function) (k : ℕ) → bus_number first ps k ≤ first + bridges ps
unfolding bus_number
bus_number_le first ps k = omega (arith, bridges_split k ps)

-- a number that only a bridge has
of_bridge_lt : (f : Function) (n : ℕ) → (is_bridge f ≡ true → n < 2 ^ 8) → of_bridge f n 0 < 2 ^ 8
of_bridge_lt f n h = go (is_bridge f) refl
  where
    go : (t : Bool) → is_bridge f ≡ t → cond t n 0 < 2 ^ 8
    go true e = h e
    go false e = omega arith

of_bridge_fits : (f : Function) (q : Pool) (w : Window) → Fits q w → Fits q (of_bridge f w (closed q))
of_bridge_fits f q w h = go (is_bridge f)
  where
    go : (t : Bool) → Fits q (cond t w (closed q))
    go true = h
    go false = closed_fits q

module _ (h : Host) (fs : List Function) (fits : BoardFits h fs) (planned : refusal_of (to_host h) (to_placing fs) ≡ 0) where
  abbrev ps : List placing.Function
  ps = to_placing fs

  abbrev first : ℕ
  first = h.first_bus

  abbrev xs : List Placed
  xs = placed (to_host h) (to_placing fs)

  kept : AllKept (to_host h) (to_placing fs)
  kept = kept_of_planned (to_host h) (to_placing fs) planned

  bus_lt : (k : ℕ) → bus_number first ps k < 256
  bus_lt k = omega (arith, bus_number_le first ps k, kept.buses, fits.board.edges.last_bus_is_byte)

  -- 27's order, of a bridge
  pub range_at : (i : ℕ) (f : Function) (gs : List Function) → StandsAt fs i f gs → is_bridge f ≡ true
      → Range (first + bridges ps) (row_of first ps (suc i) (to_function f))
  range_at i f gs at is =
      all_elim _ (numbered first ps) (well_numbered first ps fits.board.lawful).ranged (row_at first i fs f gs at) is

  module _ (i : ℕ) (f : Function) (gs : List Function) (at : StandsAt fs i f gs) (fit : FunctionFits f) where
    pub bars_placed_at : AllPlaced (λ j. bar_start (suc i) j xs) (slots (slot_readbacks f))
    bars_placed_at =
        bars_placed_lem (to_host h) ps fits.board kept i (to_function f) (at_placing i fs f gs at) (slot_readbacks f) refl

    subordinate_lt : is_bridge f ≡ true → subordinate_of first ps (suc i) < 2 ^ 8
    subordinate_lt is = omega (arith, (range_at i f gs at is).in_host, kept.buses, fits.board.edges.last_bus_is_byte)

    no_bridge : is_bridge f ≡ false → NoBridge (entry_for first ps xs (suc i) f)
    no_bridge e = rw e (record { primary = refl; secondary = refl; subordinate = refl; low = refl; high = refl; io = refl })

    value_count : length (values_from (suc i) 0 xs (slots_of f) f.readbacks) ≡ slot_count f
    value_count =
        ap length (values_of_record (suc i) xs f fit)
        ∙ length_placed_values (λ j. bar_start (suc i) j xs) (slot_readbacks f) fit.lawful bars_placed_at
        ∙ length_slot_readbacks f fit

    values_lt : Dwords (values_from (suc i) 0 xs (slots_of f) f.readbacks)
    values_lt = rw (values_of_record (suc i) xs f fit)
        (placed_value_lt (λ j. bar_start (suc i) j xs) (slot_readbacks f) fit.lawful bars_placed_at)

    entry_shaped : Shaped (entry_for first ps xs (suc i) f)
    entry_shaped =
        record {
          id = omega (arith, bus_lt f.parent, fit.devfn);
          header = fit.header;
          value_count = value_count;
          values = values_lt;
          readback_count = fit.six;
          readbacks = fit.readbacks;
          primary = of_bridge_lt f _ (λ _. bus_lt f.parent);
          secondary = of_bridge_lt f _ (λ _. bus_lt (suc i));
          subordinate = of_bridge_lt f _ subordinate_lt;
          low = of_bridge_fits f Low _ (window_fits (to_host h) ps fits.board kept (suc i) Low);
          high = of_bridge_fits f High _ (window_fits (to_host h) ps fits.board kept (suc i) High);
          io = of_bridge_fits f Io _ (window_fits (to_host h) ps fits.board kept (suc i) Io);
          no_bridge = no_bridge;
        }

  shaped_from : (i : ℕ) (gs : List Function) → drop i fs ≡ gs → All FunctionFits gs → All WellShaped (planned_from first ps xs (suc i) gs)
  unfolding planned_from
  shaped_from i [] e fit = tt
  shaped_from i (f ∷ gs) e fit = (
    record { entry = entry_shaped i f gs e fit.0; command = fit.0.command },
    shaped_from (suc i) gs (drop_suc i fs f gs e) fit.1,
  )

  -- every record of the plan
  pub shaped : All WellShaped (plan_of h fs)
  unfolding plan_of
  shaped = shaped_from 0 fs refl fits.functions
