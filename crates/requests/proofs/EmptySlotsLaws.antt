-- Document 02's E10 holds: where a board's spares are, and that nobody is in them. Assumes nothing.
use Rattle.std.specs.Prelude.{◌≡◌, refl, Bool, true, false, cond, ℕ, zero, suc, ◌+◌, ◌*◌, ◌/◌, ◌≤◌, ◌<◌, ltb, length, get_or, take, drop}
use Rattle.std.proofs.Common.{sym, subst, ◌∙◌, ⊎_elim, arith, ne_eqb}
use Rattle.std.proofs.Math.Path.{ap}
use mathlib.Core.List.{List, [], ◌∷◌, map}
use Rattle.arith.specs.BoolLaws.{false_of_or}
use Rattle.endian.specs.Endian.{Bytes, be}
use Rattle.endian.specs.EndianLaws.{be_lt}
use Rattle.lists.specs.Lists.{◌∈◌, All, any}
use Rattle.lists.specs.ListLaws.{all_elim, drop_suc, member_of_some}
use Rattle.pools.specs.declared.Space.TheVariants.{Memory as memory_space}
use Rattle.records.specs.Records.{Parts, parts_of, parts_from, any_part}
use Rattle.records.specs.Limits.{most_functions}
use Rattle.bar.specs.Header.{is_bridge as is_bridge_header}
use Rattle.plan_rule.specs.Records as placing
use Rattle.plan_rule.specs.Records.{Function}
use Rattle.plan_rule.specs.Preorder.{parent_of}
use Rattle.plan_rule.specs.Layout.{Placed}
use Rattle.plan_rule.specs.Pieces.{content_of}
use Rattle.plan_rule.specs.Placing.{placed}
use Rattle.plan_rule.specs.Numbering.{bridges, bridge_count, bus_number, subordinate_of, Numbered, numbered_from, numbered}
use Rattle.plan_rule.proofs.NumberingLaws.{bridges_and_spares}
use Rattle.plan_rule.proofs.NoSpares.{NoSpare, NoSpares, bridges_counted, bus_number_counted, content_alone}
use Rattle.board_record.specs.Host.{host_of_part, host_wrong, functions_at}
use Rattle.board_record.specs.Function.{function_of_part, bridge_length, wrong_in, readbacks_wrong}
use Rattle.board_record.specs.FunctionLaws.{length_of_version, spares_none, spares_bytes, spares_of_bridge, spares_of_end}
use Rattle.board_order.specs.Order.{any_misplaced}
use Rattle.board.specs.Board.{is_version, misframed, from_readbacks, from_order, from_edges, from_headers, from_count, from_frame, from_version}
use Rattle.board.specs.Board.{board_number, functions_of}
use Rattle.board.proofs.BoardLaws.{accepted_of_zero, other_version}
use Rattle.board.specs.ToPlacing.{to_placing}
use Rattle.board.proofs.ToPlacingLaws.{lawful_of_accepted}
use Rattle.plan_good.proofs.Rows.{row_at, first_le_bus_number}
use Rattle.plan_good.proofs.BusRanges.{row_of, parent_row}
use Rattle.plan_good.specs.SpareBuses.{BridgeAt}
use Rattle.plan_good.proofs.SpareBusesLaws.{spares_last, greatest_below}
use Rattle.plan_good.specs.SpareRoom.{LowWindow, InSpareRoom, InGap, NobodyAt}
use Rattle.plan_good.proofs.SpareRoomLaws.{room_kept, open_exactly, nobody_in_gap, gap_of_spare}
use Rattle.plan_answer.specs.declared.Planning.TheVariants.{Planned}
use Rattle.plan_answer.specs.Plan.{planning}
use Rattle.plan_sheet.proofs.Accepted.{fits_of_accepted}
use Rattle.plan_sheet.proofs.FitsLaws.{devfn_lt}
use Rattle.plan_sheet.proofs.Answer.{planned_of_answer}
use Rattle.demands.specs.Demand3.{Lawful, host, functions}
use Rattle.demands.proofs.Demand3Laws.{demand_3}
use Rattle.demands.specs.ById.{HasId}
use Rattle.demands.proofs.ByIdLaws.{by_id_routed}
use Rattle.requests.specs.EmptySlots.{version_of, Spares, AsBefore, IsSpareBus, EmptySlots}

-- ## Records

spares_read : (p : List ℕ) → Bytes p → is_bridge_header (get_or p 3 0) ≡ true → Spares p
spares_read p bytes b =
    let e : (function_of_part p).spares ≡ get_or p 14 0 * 65536 + be 2 p 15 = spares_of_bridge p b ∙ spares_bytes p in
    let l : be 2 p 15 < 65536 = be_lt 2 p 15 bytes in
    record { buses = omega (arith, e, l); room = omega (arith, e, l) }

lengths : (v : ℕ) (ps : List (List ℕ)) → any_part (wrong_in v) ps ≡ false
    → All (λ p. is_bridge_header (get_or p 3 0) ≡ true → length p ≡ bridge_length v) ps
unfolding any_part
lengths v [] e = tt
lengths v (p ∷ ps) e =
    let both = false_of_or (wrong_in v p) (any_part (wrong_in v) ps) e in
    (λ b. rw b at (length_of_version v p both.0), lengths v ps both.1)

-- ## Versions

-- no other check answers 21
not_21 : (t : Bool) (n rest : ℕ) → (n ≡ 21 → ⊥) → (rest ≡ 21 → ⊥) → cond t n rest ≡ 21 → ⊥
not_21 true n rest here later = here
not_21 false n rest here later = later

frame_not_21 : (v : ℕ) (r : Parts) → from_frame v r ≡ 21 → ⊥
unfolding from_frame from_count from_headers from_edges from_order from_readbacks
frame_not_21 v r =
    let h = host_of_part (get_or r.parts 0 []) in
    let ps = drop 1 r.parts in
    let fs = map function_of_part ps in
    not_21 (misframed r) 20 (from_count v h ps) (λ e. omega (arith, e))
    (not_21 (ltb most_functions (length ps)) 22 (from_headers v h ps) (λ e. omega (arith, e))
    (not_21 (any_part (wrong_in v) ps) 24 (from_edges h fs) (λ e. omega (arith, e))
    (not_21 (host_wrong h) 26 (from_order fs) (λ e. omega (arith, e))
    (not_21 (any_misplaced 0 [] fs) 23 (from_readbacks fs) (λ e. omega (arith, e))
    (not_21 (any readbacks_wrong fs) 25 0 (λ e. omega (arith, e)) (λ e. omega (arith, e)))))))

version_of_21 : (b : List ℕ) → (length b ≡ 0 → ⊥) → board_number b ≡ 21 → is_version (version_of b) ≡ false
unfolding board_number from_version
version_of_21 b some e = go (is_version (version_of b)) refl
  where
    go : (t : Bool) → is_version (version_of b) ≡ t → is_version (version_of b) ≡ false
    go true is = absurd (frame_not_21 (version_of b) (parts_of (drop 1 b)) (rw (ne_eqb (length b) 0 some, is) at e))
    go false is = is

-- ## Version 1

spares_zero : (p : List ℕ) → wrong_in 1 p ≡ false → (function_of_part p).spares ≡ 0
spares_zero p w = go (is_bridge_header (get_or p 3 0)) refl
  where
    go : (t : Bool) → is_bridge_header (get_or p 3 0) ≡ t → (function_of_part p).spares ≡ 0
    go true b =
        let l : length p ≡ 14 = rw b at (length_of_version 1 p w) in
        spares_of_bridge p b ∙ spares_none p (omega (arith, l))
    go false b = spares_of_end p b

none_of_parts : (ps : List (List ℕ)) → any_part (wrong_in 1) ps ≡ false → NoSpares (to_placing (map function_of_part ps))
unfolding any_part
none_of_parts [] e = tt
none_of_parts (p ∷ ps) e =
    let both = false_of_or (wrong_in 1 p) (any_part (wrong_in 1) ps) e in
    let z = spares_zero p both.0 in
    (record { no_buses = omega (arith, z); no_room = omega (arith, z) }, none_of_parts ps both.1)

none_of_board : (b : List ℕ) → Lawful b → version_of b ≡ 1 → NoSpares (functions b)
none_of_board b lawful v =
    let a = accepted_of_zero b lawful in
    rw a.functions_read
    (none_of_parts (parts_from b functions_at) (subst (λ (n : ℕ). any_part (wrong_in n) (parts_from b functions_at) ≡ false) v a.of_version))

-- the numbers that a board without spares takes are as many as its bridges
bridges_of_none : (k : ℕ) (fs : List Function) → NoSpares fs → bridges (take k fs) ≡ bridge_count (take k fs)
bridges_of_none k fs none = bridges_counted (take k fs) (all_take k fs none)
  where
    all_take : (n : ℕ) (gs : List Function) → NoSpares gs → NoSpares (take n gs)
    all_take zero gs h = tt
    all_take (suc n) [] h = tt
    all_take (suc n) (g ∷ gs) h = (h.0, all_take n gs h.1)

as_before : (b : List ℕ) → Lawful b → version_of b ≡ 1 → AsBefore b
as_before b lawful v =
    let fs = functions b in
    let none = none_of_board b lawful v in
    record {
      no_spares = none;
      secondaries = λ k.
          bus_number_counted fs none (host b).first_bus k ∙ ap (λ (n : ℕ). (host b).first_bus + n) (bridges_of_none k fs none);
      subordinates = greatest_below (host b).first_bus fs (lawful_of_accepted b lawful) none;
      windows = λ f m k q later.
          ap (λ (n : ℕ). content_of k n q later) (all_elim NoSpare fs none m).no_room ∙ content_alone k q later;
    }

-- ## Spare buses

-- a bridge's row is that of a record which is a bridge
record RowBridge (first : ℕ) (fs : List Function) (y : Numbered) : Type 0 where
  index : ℕ
  function : Function
  bridge : BridgeAt fs index function
  secondary_is : y.secondary ≡ bus_number first fs (suc index)

module _ (first : ℕ) (fs : List Function) where
  bridges_from : (i : ℕ) (gs : List Function) → drop i fs ≡ gs
      → All (λ y. y.bridge ≡ true → RowBridge first fs y) (numbered_from first fs (suc i) gs)
  unfolding numbered_from
  bridges_from i [] e = tt
  bridges_from i (g ∷ gs) e =
      let next = drop_suc i fs g gs e in (
        λ is.
            record {
              index = i;
              function = g;
              bridge = record { stands = e ∙ ap (λ (hs : List Function). g ∷ hs) (sym next); is_bridge_lem = is };
              secondary_is = refl;
            },
        bridges_from (suc i) gs next,
      )

  row_bridge : (y : Numbered) → y ∈ numbered first fs → y.bridge ≡ true → RowBridge first fs y
  row_bridge y m = all_elim _ (numbered first fs) (bridges_from 0 fs refl) m

  -- no record's bus is one of a bridge's spares: the first bus comes before them, and a bridge's secondary does or comes after
  module _ (lawful : placing.Lawful fs) (i : ℕ) (f : Function) (at : BridgeAt fs i f) (bus : ℕ)
      (below : bus ≤ subordinate_of first fs (suc i)) (past : subordinate_of first fs (suc i) < bus + f.spare_buses) where
    not_first : bus ≡ first → ⊥
    not_first e =
        omega (arith, e, past, (spares_last first fs lawful i f at).after_all_below, first_le_bus_number first fs (suc i))

    not_secondary : (j : ℕ) (g : Function) → BridgeAt fs j g → bus ≡ bus_number first fs (suc j) → ⊥
    not_secondary j g b e =
        ⊎_elim (λ l. omega (arith, e, past, l)) (λ l. omega (arith, e, below, l))
        ((spares_last first fs lawful i f at).no_bridge_there j g b)

    not_of_row : (x : Numbered) → x ∈ numbered first fs → bus ≡ x.bus → ⊥
    not_of_row x m e =
        ⊎_elim (λ root. not_first (e ∙ root.1))
        (λ up.
        let y = row_bridge up.row up.in_rows up.under.bridge in
        not_secondary y.index y.function y.bridge (e ∙ up.under.bus_is ∙ y.secondary_is))
        (parent_row first fs lawful m)

nobody_on_spare_bus : (b : List ℕ) → Bytes b → Lawful b → (i : ℕ) (f : Function) → BridgeAt (functions b) i f
    → (id : ℕ) → IsSpareBus b i f (id / 256) → (k : ℕ) → HasId b id k → ⊥
nobody_on_spare_bus b bytes lawful i f at id (below, past) k has =
    let first = (host b).first_bus in
    let fs = functions b in
    let orderly = lawful_of_accepted b lawful in
    let (x, m, is) = member_of_some _ (numbered first fs) (row_at first fs k has.from_1 has.in_list) in
    let r = row_of first fs orderly m in
    let up = r.bus_is ∙ ap (bus_number first fs) (r.parent_is ∙ ap (parent_of fs) is) in
    let byte = devfn_lt (functions_of b) (fits_of_accepted b bytes lawful).functions k in
    not_of_row first fs orderly i f at (id / 256) below past x m (omega (arith, has.id_is, up, byte))

-- ## The request

pub empty_slots : EmptySlots
empty_slots =
    record {
      bridges_by_version = λ b lawful. lengths (version_of b) (parts_from b functions_at) (accepted_of_zero b lawful).of_version;
      spares_read = spares_read;
      versions_known = λ b some. (version_of_21 b some, other_version b some);
      version_1_as_before = as_before;
      spare_buses_last = λ b lawful. spares_last (host b).first_bus (functions b) (lawful_of_accepted b lawful);
      spare_room_kept = λ b lawful i f at.
          room_kept (host b) (functions b) (lawful_of_accepted b lawful) i f at.stands at.is_bridge_lem;
      opened_by_spares = λ b lawful i f at.
          open_exactly (host b) (functions b) (lawful_of_accepted b lawful) i f at.stands at.is_bridge_lem;
      spares_counted = λ b room lawful.
          let e = bridges_and_spares (functions b) in
          let exactly = (demand_3.answers_by_number b room lawful).no_buses_left in
          (λ n. omega (arith, e, exactly.0 n), λ l. exactly.1 (omega (arith, e, l)));
      spare_room_is_gap = gap;
      nobody_in_gap = nobody;
      nobody_in_spare_room = in_spare_room;
      spare_room_refused = λ b room n bytes planned t same header p read a is i f at w m v spare.
          (demand_3.requests_routed b room n bytes planned t same header p read memory_space a is).else_no_owner.1
          (λ k o. in_spare_room b room n bytes planned i f at w m v a spare k o.bar_holds_lem);
      nobody_on_spare_bus = nobody_on_spare_bus;
      spare_bus_refused = λ b room n bytes planned t same header p read id by i f at spare right.
          (by_id_routed b room n bytes planned t same header p read id by).else_no_owner.1
          (right, nobody_on_spare_bus b bytes (planned_of_answer b (length room) n planned).accepted i f at id spare);
    }
  where
    gap : (b : List ℕ) → Lawful b → (i : ℕ) (f : Function) → BridgeAt (functions b) i f
        → (w : Placed) → w ∈ placed (host b) (functions b) → LowWindow (suc i) w
        → (a : ℕ) → InSpareRoom f w a → InGap (placed (host b) (functions b)) w a
    gap b lawful i f at = gap_of_spare (host b) (functions b) (lawful_of_accepted b lawful) i f at.stands at.is_bridge_lem

    nobody : (b room : List ℕ) (n : ℕ) → Bytes b → planning b (length room) ≡ Planned n
        → (k : ℕ) (w : Placed) → w ∈ placed (host b) (functions b) → LowWindow k w
        → (a : ℕ) → InGap (placed (host b) (functions b)) w a → NobodyAt (host b) (functions b) a
    nobody b room n bytes planned =
        let answers = planned_of_answer b (length room) n planned in
        nobody_in_gap (host b) (functions b) (fits_of_accepted b bytes answers.accepted).board answers.not_refused

    in_spare_room : (b room : List ℕ) (n : ℕ) → Bytes b → planning b (length room) ≡ Planned n
        → (i : ℕ) (f : Function) → BridgeAt (functions b) i f
        → (w : Placed) → w ∈ placed (host b) (functions b) → LowWindow (suc i) w
        → (a : ℕ) → InSpareRoom f w a → NobodyAt (host b) (functions b) a
    in_spare_room b room n bytes planned i f at w m v a spare =
        nobody b room n bytes planned (suc i) w m v a
        (gap b (planned_of_answer b (length room) n planned).accepted i f at w m v a spare)
