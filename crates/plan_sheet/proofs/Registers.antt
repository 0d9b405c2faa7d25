-- The planned sheet's registers in a space are the plan's. Assumes nothing.
use Rattle.std.specs.Prelude.{◌≡◌, true, false, cond, ℕ, zero, suc, ◌+◌, ◌*◌, ◌/◌, ◌%◌, drop}
use Rattle.std.proofs.Math.Path.{refl, ap, ap₂}
use Rattle.std.proofs.Common.{sym, ◌∙◌, arith}
use Rattle.std.proofs.Math.Bool.{Bool}
use mathlib.Core.List.{List, [], ◌∷◌, ◌++◌, map, append-nil, cons≢nil, head-eq_of_cons-eq}
use Rattle.std.proofs.Math.Numerals.{add-one}
use Rattle.pools.specs.declared.Pool.{Pool}
use Rattle.pools.specs.declared.Pool.TheVariants.{Low, High, Io}
use Rattle.pools.specs.declared.Space.{Space}
use Rattle.pools.specs.declared.Space.TheVariants.{Memory as memory_space, Io as io_space}
use Rattle.pools.specs.Pools.{in_space}
use Rattle.bar.specs.Bar.{slots}
use Rattle.bar.specs.PlacedLaws.{base_placed}
use Rattle.window.proofs.WindowLaws.{Edges}
use Rattle.lists.specs.Lists.{All, keep}
use Rattle.lists.specs.ListLaws.{drop_suc}
use Rattle.lists.specs.KeepLaws.{keep_append, keep_elim, keep_nil}
use Rattle.plan_rule.specs.Pools.{low, high, io}
use Rattle.plan_rule.specs.Records as placing
use Rattle.plan_rule.specs.Layout.{Piece, Placed, end_of}
use Rattle.plan_rule.specs.Pieces.{window_over, content_of, window_pieces, pieces}
use Rattle.plan_rule.specs.Placing.{placed}
use Rattle.plan_rule.specs.Numbering.{bus_number, row_of, numbered_from}
use Rattle.plan_rule.specs.Refusals.{refusal_of}
use Rattle.plan_function.specs.Registers.{bar_start}
use Rattle.board_record.specs.declared.Host.{Host}
use Rattle.board_record.specs.declared.Function.{Function}
use Rattle.board_record.specs.Function.{is_bridge}
use Rattle.board.specs.ToPlacing.{to_host, to_function, to_placing, devfn_of}
use Rattle.sheet_record.specs.Spaces.{bars_from as ranges_from, node_of, function_of, bars_of as sheet_bars, windows_of as sheet_windows}
use Rattle.sheet_record.specs.Entry.{Entry}
use Rattle.sheet.specs.Sheet.{entries_of}
use Rattle.sheet.specs.Spaces.{functions_from, registers_of}
use Rattle.sheet_bytes.specs.Layout.{Planned, sheet_bytes}
use Rattle.sheet_bytes.proofs.ReadBack.{entries_of_sheet_bytes}
use Rattle.plan_good.proofs.Kept.{AllKept, kept_of_planned}
use Rattle.plan_good.specs.Registers.{range_of, is_window_of, bars_of, windows_of, plan_node, plan_register, plan_registers}
use Rattle.plan_good.proofs.RecordPieces.{windows_of_record, bars_at_lem}
use Rattle.plan_answer.specs.Plan.{entry_for, planned_from, plan_of}
use Rattle.plan_sheet.specs.Fits.{FunctionFits, BoardFits}
use Rattle.plan_sheet.proofs.Starts.{bar_start_is}
use Rattle.plan_sheet.proofs.Windows.{WindowAt, window_edges}
use Rattle.plan_sheet.proofs.WindowRanges.{range_of_closed, window_for_keep, over_kept, over_dropped, ranges_of_two, ranges_of_one}
use Rattle.plan_sheet.proofs.BarRanges.{ranges_of_bars}
use Rattle.plan_sheet.proofs.Values.{slot_readbacks, values_of_record}
use Rattle.plan_sheet.proofs.Shaped.{StandsAt, at_placing, bars_placed_at, shaped}

devfn_at : (i : ℕ) (fs : List Function) (f : Function) (gs : List Function) → StandsAt fs i f gs → devfn_of fs (suc i) ≡ f.devfn
devfn_at zero [] f gs e = absurd (cons≢nil (sym e))
devfn_at zero (g ∷ fs) f gs e = ap (λ (x : Function). x.devfn) (head-eq_of_cons-eq e)
devfn_at (suc i) [] f gs e = absurd (cons≢nil (sym e))
devfn_at (suc i) (g ∷ fs) f gs e = devfn_at i fs f gs e

-- ## The windows that a record puts in a space

module _ (k b n : ℕ) (rest : List Piece) where
  abbrev over : Pool → List Piece
  over q = window_over k b q (content_of k n q rest)

  memory_windows : keep (λ p. in_space memory_space p.pool) (window_pieces k b n rest) ≡ over low ++ over high
  unfolding window_pieces
  memory_windows =
      let test : Piece → Bool = λ p. in_space memory_space p.pool in
      keep_append test (over low) (over high ++ over io)
      ∙ ap₂ ◌++◌ (over_kept k b memory_space low (content_of k n low rest) refl)
      (keep_append test (over high) (over io)
      ∙ ap₂ ◌++◌ (over_kept k b memory_space high (content_of k n high rest) refl)
      (over_dropped k b memory_space io (content_of k n io rest) refl)
      ∙ append-nil (over high))

  io_windows : keep (λ p. in_space io_space p.pool) (window_pieces k b n rest) ≡ over io
  unfolding window_pieces
  io_windows =
      let test : Piece → Bool = λ p. in_space io_space p.pool in
      keep_append test (over low) (over high ++ over io)
      ∙ ap₂ ◌++◌ (over_dropped k b io_space low (content_of k n low rest) refl)
      (keep_append test (over high) (over io)
      ∙ ap₂ ◌++◌ (over_dropped k b io_space high (content_of k n high rest) refl) (over_kept k b io_space io (content_of k n io rest) refl))

none_of_map : (ws : List Placed) → map (λ (x : Placed). x.piece) ws ≡ [] → ws ≡ []
none_of_map [] e = refl
none_of_map (x ∷ ws) e = absurd (cons≢nil e)

module _ (h : Host) (fs : List Function) (fits : BoardFits h fs) (planned : refusal_of (to_host h) (to_placing fs) ≡ 0) where
  abbrev ps : List placing.Function
  ps = to_placing fs

  abbrev first : ℕ
  first = h.first_bus

  abbrev xs : List Placed
  xs = placed (to_host h) (to_placing fs)

  kept : AllKept (to_host h) (to_placing fs)
  kept = kept_of_planned (to_host h) (to_placing fs) planned

  module _ (i : ℕ) (f : Function) (gs : List Function) (at : StandsAt fs i f gs) (fit : FunctionFits f) where
    abbrev entry : Entry
    entry = entry_for first ps xs (suc i) f

    node_agree : node_of (suc i) entry ≡ plan_node (devfn_of fs) (row_of first ps (suc i) (to_function f))
    node_agree =
        let n = bus_number first ps f.parent in
        let bus : (n * 256 + f.devfn) / 256 ≡ n = omega (arith, fit.devfn) in
        let devfn : (n * 256 + f.devfn) % 256 ≡ devfn_of fs (suc i) = omega (arith, fit.devfn, devfn_at i fs f gs at) in
        λ j.
        record {
          number = suc i;
          bus = bus j;
          devfn = devfn j;
          bridge = is_bridge f;
          secondary = entry.secondary;
          subordinate = entry.subordinate;
        }

    bars_agree : (sp : Space) → sheet_bars sp entry ≡ bars_of sp xs (suc i)
    bars_agree sp =
        let rs = slot_readbacks f in
        let base : ℕ → ℕ = λ j. bar_start (suc i) j xs in
        let is_at = at_placing i fs f gs at in
        ap (ranges_from sp (slots rs)) (values_of_record (suc i) xs f fit)
        ∙ ranges_of_bars sp base (slots rs) _ (base_placed base rs fit.lawful (bars_placed_at h fs fits planned i f gs at fit))
        ∙ sym (bars_at_lem sp (to_host h) ps fits.board.lawful i (to_function f) is_at base
        (bar_start_is (to_host h) ps fits.board.lawful i (to_function f) is_at (slots rs) refl))

    edges : (sp : Space) (q : Pool) (x : Placed) → WindowAt q (keep (is_window_of sp (suc i)) xs) x → Edges q x.start (end_of x)
    edges sp q x w =
        window_edges (to_host h) ps fits.board kept q x
        (record { among = (keep_elim (is_window_of sp (suc i)) xs w.among).0; is_window_lem = w.is_window_lem; pool_is = w.pool_is })

    windows_are : (sp : Space)
        → map (λ (x : Placed). x.piece) (keep (is_window_of sp (suc i)) xs)
        ≡ keep (λ p. in_space sp p.pool)
        (cond (is_bridge f) (window_pieces (suc i) f.parent (to_function f).spare_low (pieces (suc (suc i)) (drop (suc i) ps))) [])
    windows_are sp = windows_of_record sp (to_host h) ps fits.board.lawful i (to_function f) (at_placing i fs f gs at)

    no_windows : (sp : Space) → is_bridge f ≡ false → windows_of sp xs (suc i) ≡ []
    no_windows sp e =
        let none = rw e at (windows_are sp) in
        ap (map range_of) (none_of_map (keep (is_window_of sp (suc i)) xs) (none ∙ keep_nil (λ p. in_space sp p.pool)))

    windows_agree : (sp : Space) → sheet_windows sp entry ≡ windows_of sp xs (suc i)
    windows_agree memory_space = go (is_bridge f) refl
      where
        rest : List Piece
        rest = pieces (suc (suc i)) (drop (suc i) ps)

        go : (t : Bool) → is_bridge f ≡ t → sheet_windows memory_space entry ≡ windows_of memory_space xs (suc i)
        go true e =
            rw (e, window_for_keep memory_space (suc i) Low refl xs, window_for_keep memory_space (suc i) High refl xs)
            (ranges_of_two (suc i) f.parent (content_of (suc i) (to_function f).spare_low low rest)
            (content_of (suc i) (to_function f).spare_low high rest)
            (keep (is_window_of memory_space (suc i)) xs)
            ((rw e at (windows_are memory_space)) ∙ memory_windows (suc i) f.parent (to_function f).spare_low rest) (edges memory_space))
        go false e = rw (e, range_of_closed Low, range_of_closed High) (sym (no_windows memory_space e))
    windows_agree io_space = go (is_bridge f) refl
      where
        rest : List Piece
        rest = pieces (suc (suc i)) (drop (suc i) ps)

        go : (t : Bool) → is_bridge f ≡ t → sheet_windows io_space entry ≡ windows_of io_space xs (suc i)
        go true e =
            rw (e, window_for_keep io_space (suc i) Io refl xs)
            (ranges_of_one (suc i) f.parent (content_of (suc i) (to_function f).spare_low io rest) (keep (is_window_of io_space (suc i)) xs)
            ((rw e at (windows_are io_space)) ∙ io_windows (suc i) f.parent (to_function f).spare_low rest) (edges io_space))
        go false e = rw (e, range_of_closed Io) (sym (no_windows io_space e))

    -- one record's
    register_agree : (sp : Space) → function_of sp (suc i) entry ≡ plan_register sp xs (devfn_of fs) (row_of first ps (suc i) (to_function f))
    register_agree sp =
        let node = node_agree in
        let bars = bars_agree sp in
        let windows = windows_agree sp in
        λ j. record { node = node j; bars = bars j; windows = windows j }

  registers_from : (sp : Space) (i : ℕ) (gs : List Function) → drop i fs ≡ gs → All FunctionFits gs
      → functions_from sp (suc i) (map (λ (p : Planned). p.entry) (planned_from first ps xs (suc i) gs))
      ≡ map (plan_register sp xs (devfn_of fs)) (numbered_from first ps (suc i) (to_placing gs))
  unfolding functions_from planned_from numbered_from
  registers_from sp i [] e fit = refl
  registers_from sp i (f ∷ gs) e fit =
      ap₂ ◌∷◌ (register_agree i f gs e fit.0 sp) (rw add-one (registers_from sp (suc i) gs (drop_suc i fs f gs e) fit.1))

  pub entries_planned : entries_of (sheet_bytes (plan_of h fs)) ≡ map (λ (p : Planned). p.entry) (plan_of h fs)
  entries_planned = entries_of_sheet_bytes (plan_of h fs) (shaped h fs fits planned)

  -- the sheet's registers, read from its bytes, are the plan's
  pub registers_agree : (sp : Space) → registers_of sp (sheet_bytes (plan_of h fs)) ≡ plan_registers sp (to_host h) ps (devfn_of fs)
  unfolding plan_of plan_registers
  registers_agree sp = ap (functions_from sp 1) entries_planned ∙ registers_from sp 0 fs refl fits.functions
