-- The planned sheet passes the sheet's checks, as planned or with its command words rewritten. Assumes nothing.
use Rattle.std.specs.Prelude.{◌≡◌, Bool, ℕ, suc, ◌+◌, ◌*◌, ◌/◌, ◌%◌, ◌≤◌, length, get_or, drop}
use Rattle.std.proofs.Math.Path.{refl, ap}
use Rattle.std.proofs.Common.{sym, subst, ◌∙◌, arith}
use Rattle.std.proofs.Math.Bool.{true, false}
use mathlib.Core.List.{List, [], ◌∷◌, map}
use Rattle.std.proofs.lemmas.List.{length-map}
use borrow.Author.Tests.{eq-eqb, ne_eqb, lt-ltb, le-ltb, le-leb}
use Rattle.endian.specs.Endian.{Bytes}
use Rattle.pools.specs.declared.Pool.TheVariants.{Low, High, Io}
use Rattle.records.specs.Limits.{most_functions}
use Rattle.bar.specs.PlacedLaws.{placed_values_lawful}
use Rattle.lists.specs.Lists.{All}
use Rattle.lists.specs.ListLaws.{drop_suc}
use Rattle.plan_rule.specs.Records as placing
use Rattle.plan_rule.specs.Layout.{Placed}
use Rattle.plan_rule.specs.Placing.{placed}
use Rattle.plan_rule.specs.Numbering.{bus_number}
use Rattle.plan_rule.specs.Refusals.{refusal_of}
use Rattle.plan_function.specs.Registers.{bar_start}
use Rattle.board_record.specs.declared.Host.{Host}
use Rattle.board_record.specs.declared.Function.{Function}
use Rattle.board_record.specs.Function.{is_bridge}
use Rattle.board.specs.ToPlacing.{to_host, to_placing, devfn_of}
use Rattle.walk.specs.Ids.{DistinctIds}
use Rattle.sheet_record.specs.Spaces.{node_of}
use Rattle.sheet.specs.declared.Rule.{Rule}
use Rattle.sheet.specs.declared.Rule.TheVariants.{HeaderType, Buses, ReadBacks, Nibbles}
use Rattle.sheet_record.specs.Entry.{Entry}
use Rattle.sheet.specs.Sheet.{entries_of, read_backs_wrong, breaks, any_breaks, has_id, id_twice, sheet_number}
use Rattle.sheet.proofs.SheetLaws.{Checked, zero_of_checked}
use Rattle.sheet.specs.Spaces.{nodes_from}
use Rattle.sheet.specs.Commands.{SameButCommands}
use Rattle.sheet.proofs.CommandsLaws.{number_same}
use Rattle.sheet_bytes.specs.Layout.{Planned, sheet_bytes}
use Rattle.sheet_bytes.proofs.AllBytes.{bytes_sheet_bytes}
use Rattle.sheet_bytes.proofs.ReadBack.{framed_sheet_bytes}
use Rattle.plan_good.proofs.Ids.{planned_ids_lem}
use Rattle.plan_answer.specs.Plan.{entry_for, planned_from, plan_of}
use Rattle.plan_sheet.specs.Fits.{FunctionFits, BoardFits}
use Rattle.plan_sheet.proofs.Windows.{window_nibbled}
use Rattle.plan_sheet.proofs.Values.{slot_readbacks, values_of_record}
use Rattle.plan_sheet.proofs.Shaped.{StandsAt, range_at, bars_placed_at, shaped}
use Rattle.plan_sheet.proofs.Registers.{entries_planned}
use Rattle.plan_sheet.proofs.Nodes.{nodes_agree}

-- ## The version (21)

version_sheet_bytes : (ps : List Planned) → get_or (sheet_bytes ps) 0 0 ≡ 1
unfolding sheet_bytes
version_sheet_bytes ps = refl

-- ## IDs (28), of any records

absent : (k j : ℕ) (e : Entry) (es : List Entry) → All (λ m. (node_of k e).bus ≡ m.bus → (node_of k e).devfn ≡ m.devfn → ⊥) (nodes_from j es)
    → has_id e.id es ≡ false
unfolding has_id nodes_from
absent k j e [] h = refl
absent k j e (x ∷ es) h =
    let other = ne_eqb x.id e.id (λ same. h.0 (ap (λ (n : ℕ). n / 256) (sym same)) (ap (λ (n : ℕ). n % 256) (sym same))) in
    rw other (absent k (j + 1) e es h.1)

once_of_distinct : (k : ℕ) (es : List Entry) → DistinctIds (nodes_from k es) → id_twice es ≡ false
unfolding id_twice nodes_from
once_of_distinct k [] h = refl
once_of_distinct k (e ∷ es) h = rw (absent k (k + 1) e es h.0) (once_of_distinct (k + 1) es h.1)

-- ## One record for each function

length_from : (first : ℕ) (ps : List placing.Function) (xs : List Placed) (k : ℕ) (gs : List Function)
    → length (planned_from first ps xs k gs) ≡ length gs
unfolding planned_from
length_from first ps xs k [] = refl
length_from first ps xs k (f ∷ gs) = ap suc (length_from first ps xs (suc k) gs)

pub length_plan : (h : Host) (fs : List Function) → length (plan_of h fs) ≡ length fs
unfolding plan_of
length_plan h fs = length_from h.first_bus (to_placing fs) (placed (to_host h) (to_placing fs)) 1 fs

module _ (h : Host) (fs : List Function) (fits : BoardFits h fs) (planned : refusal_of (to_host h) (to_placing fs) ≡ 0) where
  abbrev ps : List placing.Function
  ps = to_placing fs

  abbrev first : ℕ
  first = h.first_bus

  abbrev xs : List Placed
  xs = placed (to_host h) (to_placing fs)

  -- ## The checks of a record by itself (24, 27, 25, 29)

  module _ (i : ℕ) (f : Function) (gs : List Function) (at : StandsAt fs i f gs) (fit : FunctionFits f) where
    abbrev entry : Entry
    entry = entry_for first ps xs (suc i) f

    type_right : breaks HeaderType entry ≡ false
    unfolding breaks
    type_right = le-ltb 1 (f.header % 128) fit.header_type_lem

    buses_right : breaks Buses entry ≡ false
    unfolding breaks
    buses_right = go (is_bridge f) refl
      where
        go : (t : Bool) → is_bridge f ≡ t → breaks Buses entry ≡ false
        go true e =
            let n = bus_number first ps f.parent in
            let bus : (n * 256 + f.devfn) / 256 ≡ n = omega (arith, fit.devfn) in
            let r = range_at h fs fits planned i f gs at e in
            rw (e, bus, eq-eqb n n refl, lt-ltb _ _ r.bus_first, le-leb _ _ r.not_empty)
        go false e = rw e

    readbacks_right : breaks ReadBacks entry ≡ false
    unfolding breaks read_backs_wrong
    readbacks_right =
        rw (
          values_of_record (suc i) xs f fit,
          placed_values_lawful (λ j. bar_start (suc i) j xs) (slot_readbacks f) fit.lawful
              (bars_placed_at h fs fits planned i f gs at fit),
          fit.rest_zero,
        )

    nibbles_right : breaks Nibbles entry ≡ false
    unfolding breaks
    nibbles_right = go (is_bridge f) refl
      where
        go : (t : Bool) → is_bridge f ≡ t → breaks Nibbles entry ≡ false
        go true e = rw (e, window_nibbled (suc i) Low xs, window_nibbled (suc i) High xs, window_nibbled (suc i) Io xs)
        go false e = rw e

    entry_right : (rule : Rule) → breaks rule entry ≡ false
    entry_right HeaderType = type_right
    entry_right Buses = buses_right
    entry_right ReadBacks = readbacks_right
    entry_right Nibbles = nibbles_right

  none_from : (rule : Rule) (i : ℕ) (gs : List Function) → drop i fs ≡ gs → All FunctionFits gs
      → any_breaks rule (map (λ (p : Planned). p.entry) (planned_from first ps xs (suc i) gs)) ≡ false
  unfolding any_breaks planned_from
  none_from rule i [] e fit = refl
  none_from rule i (f ∷ gs) e fit = rw (entry_right i f gs e fit.0 rule) (none_from rule (suc i) gs (drop_suc i fs f gs e) fit.1)

  none_breaks : (rule : Rule) → any_breaks rule (entries_of (sheet_bytes (plan_of h fs))) ≡ false
  unfolding plan_of
  none_breaks rule = ap (any_breaks rule) (entries_planned h fs fits planned) ∙ none_from rule 0 fs refl fits.functions

  -- ## The count (22)

  count : length (entries_of (sheet_bytes (plan_of h fs))) ≤ most_functions
  count =
      omega (
        arith,
        ap length (entries_planned h fs fits planned),
        length-map (plan_of h fs) (λ (p : Planned). p.entry),
        length_plan h fs,
        fits.few,
      )

  ids : id_twice (entries_of (sheet_bytes (plan_of h fs))) ≡ false
  ids =
      once_of_distinct 1 (entries_of (sheet_bytes (plan_of h fs)))
      (subst DistinctIds (sym (nodes_agree h fs fits planned))
      (planned_ids_lem (to_host h) ps fits.board.lawful (devfn_of fs) fits.siblings_rise))

  planned_checked : Checked (sheet_bytes (plan_of h fs))
  planned_checked =
      record {
        version = version_sheet_bytes (plan_of h fs);
        framed = framed_sheet_bytes (plan_of h fs);
        count = count;
        types = none_breaks HeaderType;
        buses = none_breaks Buses;
        ids = ids;
        readbacks = none_breaks ReadBacks;
        nibbles = none_breaks Nibbles;
      }

  pub planned_sheet_passes : sheet_number (sheet_bytes (plan_of h fs)) ≡ 0
  planned_sheet_passes = zero_of_checked (sheet_bytes (plan_of h fs)) planned_checked

  -- it is a list of bytes
  pub bytes_planned : Bytes (sheet_bytes (plan_of h fs))
  bytes_planned = bytes_sheet_bytes (plan_of h fs) (shaped h fs fits planned)

  -- whatever its command words are
  pub rewritten_sheet_passes : (t : List ℕ) → SameButCommands (sheet_bytes (plan_of h fs)) t → sheet_number t ≡ 0
  rewritten_sheet_passes t same = number_same same ∙ planned_sheet_passes
