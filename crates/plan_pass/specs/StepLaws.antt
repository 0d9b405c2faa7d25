-- One record of the placing pass is the plan's: from arrays that hold the cursors before it, its registers are those planned, and the
-- arrays after it hold the cursors before the next. Assumes nothing.
use Rattle.std.specs.Prelude.{◌≡◌, Bool, true, false, List, [], ◌∷◌, map, length, get_or, take, drop, replicate}
use Rattle.std.proofs.Math.Path.{refl, ap, ap₂}
use Rattle.std.proofs.Common.{sym, ◌∙◌, ⊎_elim, true≢false, append-nil, add-zero, arith, length-append, take_at, length-take-le}
use Rattle.std.proofs.Math.Bool.{cond}
use Prim.Native.Nat.{ℕ, zero, suc, ◌+◌, ◌*◌, ◌-◌, ◌≤◌, ◌<◌}
use Rattle.std.proofs.lemmas.List.Edits.{sets}
use Rattle.std.proofs.Math.Seq.{length-sets}
use Rattle.arith.specs.Order.{le_or_lt}
use Rattle.arith.specs.BoolLaws.{false_of_or}
use Rattle.endian.specs.SetsLaws.{get_d_sets_before, get_d_sets_after, get_d_sets_at}
use Rattle.pools.specs.declared.Pool.{Pool}
use Rattle.pools.specs.declared.Pool.TheVariants.{Low, High, Io}
use Rattle.bar.specs.declared.Slot.{Slot}
use Rattle.bar.specs.declared.Slot.TheVariants.{Unused, Bar, Upper, Bad}
use Rattle.bar.specs.Bar.{narrow_slot, wide_slot, is_wide, slot_here, slots, is_bad, any_bad, takes_next}
use Rattle.bar.specs.BarLaws.{narrow_takes_one, wide_takes_next}
use Rattle.window.specs.Window.{closed}
use Rattle.plan_rule.specs.Records as placing
use Rattle.plan_rule.specs.Records.{Host, Lawful}
use Rattle.plan_rule.proofs.RecordLaws.{IsAt}
use Rattle.plan_rule.specs.Placing.{placed}
use Rattle.plan_rule.specs.Numbering.{bridges, over, bus_number, subordinate_of}
use Rattle.plan_rule.proofs.NumberingLaws.{bridges_split, bridges_take_mono}
use Rattle.plan_rule.proofs.Numbered.{spares_fit, over_le, subordinate_laid}
use Rattle.plan_rule.specs.Sizing.{bus_laid, laid_from}
use Rattle.plan_rule.proofs.SizingLaws.{next_le}
use Rattle.plan_rule.specs.Cap.{cap}
use Rattle.plan_rule.proofs.CapLaws.{capped}
use Rattle.board_record.specs.declared.Function.{Function}
use Rattle.board_record.specs.Function.{is_bridge, slot_count, spare_low}
use Rattle.board.specs.ToPlacing.{to_function, to_placing}
use Rattle.plan_sizing.specs.declared.Laid.{Laid}
use Rattle.plan_sizing.specs.Memo.{laid_at, below}
use Rattle.plan_function.specs.declared.Cursors.{Cursors}
use Rattle.plan_function.specs.Function.{Ends, registers_at, values_at, bar_starts, after_bars, after_window, below_window}
use Rattle.plan_function.specs.Registers.{values_from, window_for}
use Rattle.plan_function.specs.Kept.{word, ends_of, kept_values, kept_window, extent_in}
use Rattle.plan_function.proofs.KeptLaws.{Starts, starts_narrow, ends_kept}
use Rattle.plan_function.proofs.JoinLaws.{Room, inside_of, parent_lt}
use Rattle.plan_function.proofs.LoopLaws.{Agrees, values_planned, window_planned, agrees_leaf, agrees_bridge, align_power}
use Rattle.sheet_bytes.specs.Layout.{planned_of}
use Rattle.plan_answer.specs.Plan.{slots_of, entry_for}
use Rattle.plan_pass.specs.Step.{cursors_in, ends_list, extents_in, number_in, bus_in, NumberFits, bars_in, windows_in}
use Rattle.plan_pass.specs.Step.{leaf_registers, bridge_registers, registers_of, leaf_next, bridge_next, cursors_next, Placeable, Bridged}

-- ## The cursors' array as a function of bus and pool

abbrev pub ends_in : List ℕ → ℕ → Ends
ends_in c b = ends_of (cursors_in c b)

pub ends_stored : (c : List ℕ) (b : ℕ) (x : Cursors) → 3 * b + 3 ≤ length c → (q : Pool) → ends_in (sets c (3 * b) (ends_list x)) b q
    ≡ ends_of x q
ends_stored c b x h Low =
    ap (λ (k : ℕ). get_or (sets c (3 * b) (ends_list x)) k 0) (sym (add-zero (3 * b)))
    ∙ get_d_sets_at c (3 * b) (ends_list x) 0 0 (omega arith) (omega arith)
ends_stored c b x h High = get_d_sets_at c (3 * b) (ends_list x) 1 0 (omega arith) (omega arith)
ends_stored c b x h Io = get_d_sets_at c (3 * b) (ends_list x) 2 0 (omega arith) (omega arith)

pub ends_other : (c : List ℕ) (k : ℕ) (x : Cursors) (b : ℕ) → (b ≡ k → ⊥) → (q : Pool) → ends_in (sets c (3 * k) (ends_list x)) b q
    ≡ ends_in c b q
ends_other c k x b ne = each
  where
    apart : (r : ℕ) → r < 3 → get_or (sets c (3 * k) (ends_list x)) (3 * b + r) 0 ≡ get_or c (3 * b + r) 0
    apart r l =
        ⊎_elim
        (λ (h : k ≤ b). let m : k < b = omega arith in get_d_sets_after c (3 * k) (ends_list x) (3 * b + r) 0 (omega arith))
        (λ (h : b < k). get_d_sets_before c (3 * k) (ends_list x) (3 * b + r) 0 (omega arith))
        (le_or_lt k b)

    each : (q : Pool) → ends_in (sets c (3 * k) (ends_list x)) b q ≡ ends_in c b q
    each Low = rw (add-zero (3 * b)) at (apart 0 (omega arith))
    each High = apart 1 (omega arith)
    each Io = apart 2 (omega arith)

-- ## A lawful set has as many registers as read-backs

length_one : (x : Slot) (r start : ℕ) → Starts x → takes_next x ≡ false → length (registers_at x r start) ≡ 1
length_one Unused r start s e = refl
length_one (Bar q true z) r start s e = absurd (true≢false e)
length_one (Bar q false z) r start s e = refl
length_one Upper r start s e = absurd s
length_one Bad r start s e = refl

length_two : (x : Slot) (r start : ℕ) → takes_next x ≡ true → length (registers_at x r start) ≡ 2
length_two Unused r start e = absurd (true≢false (sym e))
length_two (Bar q true z) r start e = refl
length_two (Bar q false z) r start e = absurd (true≢false (sym e))
length_two Upper r start e = absurd (true≢false (sym e))
length_two Bad r start e = absurd (true≢false (sym e))

length_values_at : (s rs starts : List ℕ) → any_bad (slots s) ≡ false → length (values_at (slots s) rs starts) ≡ length s
unfolding slots slot_here values_at any_bad
length_values_at [] rs starts good = refl
length_values_at (r ∷ []) rs starts good =
    ap length (append-nil (registers_at (narrow_slot r) (get_or rs 0 0) (get_or starts 0 0)))
    ∙ length_one (narrow_slot r) (get_or rs 0 0) (get_or starts 0 0) (starts_narrow r) (narrow_takes_one r)
length_values_at (r ∷ u ∷ us) rs starts good =
    go (is_wide r) good (length_values_at us (drop 1 (drop 1 rs)) (drop 1 (drop 1 starts)))
    (length_values_at (u ∷ us) (drop 1 rs) (drop 1 starts))
  where
    go : (b : Bool) → any_bad (cond b (wide_slot r u) (narrow_slot r) ∷ cond b (Upper ∷ slots us) (slots (u ∷ us))) ≡ false
        → (any_bad (slots us) ≡ false → length (values_at (slots us) (drop 1 (drop 1 rs)) (drop 1 (drop 1 starts))) ≡ length us)
        → (any_bad (slots (u ∷ us)) ≡ false → length (values_at (slots (u ∷ us)) (drop 1 rs) (drop 1 starts)) ≡ suc (length us))
        → length (values_at (cond b (wide_slot r u) (narrow_slot r) ∷ cond b (Upper ∷ slots us) (slots (u ∷ us))) rs starts)
        ≡ suc (suc (length us))
    go true g p q =
        let good = false_of_or (is_bad (wide_slot r u)) (any_bad (slots us)) g in
        length-append (registers_at (wide_slot r u) (get_or rs 0 0) (get_or starts 0 0))
        (values_at (slots us) (drop 1 (drop 1 rs)) (drop 1 (drop 1 starts)))
        ∙ omega (arith, length_two (wide_slot r u) (get_or rs 0 0) (get_or starts 0 0) (wide_takes_next r u good.0), p good.1)
    go false g p q =
        let good = false_of_or (is_bad (narrow_slot r)) (any_bad (slots (u ∷ us))) g in
        length-append (registers_at (narrow_slot r) (get_or rs 0 0) (get_or starts 0 0)) (values_at (slots (u ∷ us)) (drop 1 rs) (drop 1 starts))
        ∙ omega (arith, length_one (narrow_slot r) (get_or rs 0 0) (get_or starts 0 0) (starts_narrow r) (narrow_takes_one r), q good.1)

length_map : (vs : List ℕ) → length (map word vs) ≡ length vs
length_map [] = refl
length_map (v ∷ vs) = ap suc (length_map vs)

length_kept_values : (set : List ℕ) (m : ℕ) (e : Ends) → m ≤ length set → any_bad (slots (take m set)) ≡ false
    → length (kept_values set m e) ≡ m
unfolding kept_values
length_kept_values set m e h good =
    let starts = map cap (bar_starts e (slots (take m set))) in
    length_map (values_at (slots (take m set)) set starts) ∙ length_values_at (take m set) set starts good ∙ length-take-le m set h

-- ## Small

pub map_drop : {A B : Type 0} (g : A → B) (i : ℕ) (xs : List A) → drop i (map g xs) ≡ map g (drop i xs)
map_drop g zero xs = refl
map_drop g (suc i) [] = refl
map_drop g (suc i) (x ∷ xs) = map_drop g i xs

abbrev pub RecordAt : List Function → ℕ → Function → Type 0
RecordAt fs i f = drop i fs ≡ f ∷ drop (suc i) fs

pub is_at_of_record : (fs : List Function) (i : ℕ) (f : Function) → RecordAt fs i f → IsAt (to_placing fs) i (to_function f)
is_at_of_record fs i f e =
    map_drop to_function i fs ∙ ap (map to_function) e
    ∙ ap (λ (l : List placing.Function). to_function f ∷ l) (sym (map_drop to_function (suc i) fs))

length_placing : (fs : List Function) → length (to_placing fs) ≡ length fs
length_placing [] = refl
length_placing (f ∷ fs) = ap suc (length_placing fs)

cond_other : {A : Type 0} (b : Bool) (x y z : A) → b ≡ false → cond b x z ≡ cond b y z
cond_other true x y z e = absurd (true≢false e)
cond_other false x y z e = refl

slot_count_le : (b : Bool) → cond b 2 6 ≤ 6
slot_count_le true = omega arith
slot_count_le false = omega arith

-- ## A record of the board fs, placed from the arrays

-- what the arrays say of the board: the bridges before each record, and what lies below each bridge
pub record Prepared (first : ℕ) (fs : List Function) (counts memo : List ℕ) : Type 0 where
  pub lawful : Lawful (to_placing fs)
  pub readable : (i : ℕ) (f : Function) → RecordAt fs i f → any_bad (slots_of f) ≡ false
  pub six : (i : ℕ) (f : Function) → RecordAt fs i f → length f.readbacks ≡ 6
  pub numbers : first + bridges (to_placing fs) < 256
  pub counts_room : 2 * length fs + 2 ≤ length counts
  pub counted : (k : ℕ) → k ≤ length fs → get_or counts (2 * k) 0 ≡ bridges (take k (to_placing fs))
  pub spared : (k : ℕ) → k ≤ length fs → get_or counts (2 * k + 1) 0 ≡ over (to_placing fs) k
  pub memo_room : 7 * length fs ≤ length memo
  pub stored : (i : ℕ) (f : Function) → RecordAt fs i f → is_bridge f ≡ true → laid_at memo i
      ≡ below (to_placing fs) i (spare_low f)

module _ {first : ℕ} {fs : List Function} {counts memo : List ℕ} (prepared : Prepared first fs counts memo) (h : Host) (c : List ℕ)
    (i : ℕ) (f : Function)
    (at : RecordAt fs i f) (inside : i < length fs) (agrees : Agrees h (to_placing fs) (length fs) i (ends_in c)) where
  abbrev ps : List placing.Function
  ps = to_placing fs

  is_at : IsAt ps i (to_function f)
  is_at = is_at_of_record fs i f at

  parent_le : f.parent ≤ i
  parent_le = omega (arith, parent_lt h ps prepared.lawful i (to_function f) is_at (slots_of f) refl)

  bus_is : (k : ℕ) → k ≤ length fs → bus_in first counts k ≡ bus_number first ps k
  unfolding bus_number
  bus_is k l = ap₂ (λ (n m : ℕ). first + (n - m)) (prepared.counted k l) (prepared.spared k l)

  number_fits : (k p : ℕ) → k ≤ length fs → p ≤ length fs → over ps p ≤ bridges (take k ps) → NumberFits first counts k p
  number_fits k p l m h =
      record {
        taken = omega (arith, prepared.counts_room);
        over = omega (arith, prepared.counts_room);
        fits = omega (arith, prepared.counted k l, prepared.spared p m);
        byte = omega (arith, prepared.counted k l, prepared.numbers, bridges_split k ps);
      }

  own_fits : (k : ℕ) → k ≤ length fs → NumberFits first counts k k
  own_fits k l = number_fits k k l l (over_le first ps prepared.lawful k (omega (arith, length_placing fs)))

  -- BARs
  values_are : Room h ps → take (slot_count f) (bars_in c f).values ≡ values_from (suc i) 0 (placed h ps) (slots_of f) f.readbacks
  values_are room =
      take_at (kept_values f.readbacks (slot_count f) (ends_in c f.parent)) (replicate (6 - slot_count f) 0) (slot_count f)
      (length_kept_values f.readbacks (slot_count f) (ends_in c f.parent)
      (omega (arith, slot_count_le (is_bridge f), prepared.six i f at)) (prepared.readable i f at))
      ∙ values_planned h ps prepared.lawful i (to_function f) is_at f.readbacks (slot_count f) refl (length fs) (ends_in c) agrees
      inside room

  after_bars_lem : (q : Pool) → ends_of (bars_in c f).cursors q ≡ cap (after_bars (ends_in c f.parent) (slots_of f) q)
  after_bars_lem q = ap (λ (e : Ends). e q) (ends_kept (after_bars (ends_in c f.parent) (slots_of f)))

  id_is : bus_in first counts f.parent * 256 + f.devfn ≡ bus_number first ps f.parent * 256 + f.devfn
  id_is = ap (λ (n : ℕ). n * 256 + f.devfn) (bus_is f.parent (omega (arith, parent_le)))

  -- ## No bridge

  leaf_planned : Room h ps → is_bridge f ≡ false
      → planned_of (leaf_registers first counts c f) ≡ record { entry = entry_for first ps (placed h ps) (suc i) f; command = f.command }
  unfolding planned_of leaf_registers
  leaf_planned room e =
      let values = values_are room in
      λ j. record {
        entry = record {
          id = id_is j;
          header = f.header;
          values = values j;
          readbacks = f.readbacks;
          primary = cond_other (is_bridge f) 0 (bus_number first ps f.parent) 0 e j;
          secondary = cond_other (is_bridge f) 0 (bus_number first ps (suc i)) 0 e j;
          subordinate = cond_other (is_bridge f) 0 (subordinate_of first ps (suc i)) 0 e j;
          low = cond_other (is_bridge f) (closed Low) (window_for (suc i) Low (placed h ps)) (closed Low) e j;
          high = cond_other (is_bridge f) (closed High) (window_for (suc i) High (placed h ps)) (closed High) e j;
          io = cond_other (is_bridge f) (closed Io) (window_for (suc i) Io (placed h ps)) (closed Io) e j;
        };
        command = f.command;
      }

  leaf_agrees : 3 * suc (length fs) ≤ length c → is_bridge f ≡ false → Agrees h ps (length fs) (suc i) (ends_in (leaf_next c f))
  unfolding leaf_next
  leaf_agrees room e =
      agrees_leaf h ps prepared.lawful i (to_function f) is_at f.readbacks (slot_count f) refl (length fs) (ends_in c) agrees inside
      (ends_in (sets c (3 * f.parent) (ends_list (bars_in c f).cursors))) e
      (λ q. ends_stored c f.parent (bars_in c f).cursors (omega (arith, parent_le)) q ∙ after_bars_lem q)
      (λ b l ne q. ends_other c f.parent (bars_in c f).cursors b ne q)

  -- ## A bridge

  module _ (bridge : is_bridge f ≡ true) where
    inner_is : (q : Pool) → extent_in (extents_in (laid_at memo i)) q ≡ capped (inside_of ps i (to_function f) q)
    inner_is Low = ap (λ (l : Laid). extent_in (extents_in l) Low) (prepared.stored i f at bridge)
    inner_is High = ap (λ (l : Laid). extent_in (extents_in l) High) (prepared.stored i f at bridge)
    inner_is Io = ap (λ (l : Laid). extent_in (extents_in l) Io) (prepared.stored i f at bridge)

    window_is : Room h ps → (q : Pool)
        → kept_window q (extent_in (extents_in (laid_at memo i)) q) (ends_of (bars_in c f).cursors q) ≡ window_for (suc i) q (placed h ps)
    window_is room =
        window_planned h ps prepared.lawful i (to_function f) is_at f.readbacks (slot_count f) refl (length fs) (ends_in c) agrees
        inside bridge
        (extent_in (extents_in (laid_at memo i))) inner_is (ends_of (bars_in c f).cursors) after_bars_lem room

    next_is : (laid_at memo i).next ≡ (bus_laid ps (suc i) (laid_from (suc i))).next
    next_is = ap (λ (l : Laid). l.next) (prepared.stored i f at bridge)

    next_fits : (laid_at memo i).next ≤ length fs
    next_fits = omega (
      arith,
      next_is,
      next_le ps prepared.lawful (suc i) (laid_from (suc i)) (omega (arith, length_placing fs)),
      length_placing fs,
    )

    last_is : number_in first counts (laid_at memo i).next f.parent ≡ subordinate_of first ps (suc i)
    last_is =
        ap₂ (λ (n m : ℕ). first + (n - m)) (prepared.counted (laid_at memo i).next next_fits)
        (prepared.spared f.parent (omega (arith, parent_le)))
        ∙ ap (λ (n : ℕ). first + (bridges (take n ps) - over ps f.parent)) next_is
        ∙ sym (subordinate_laid first ps prepared.lawful i (to_function f) is_at bridge)

    next_later : suc i ≤ (laid_at memo i).next
    unfolding bus_laid
    next_later = omega (arith, next_is)

    last_fits : NumberFits first counts (laid_at memo i).next f.parent
    last_fits =
        number_fits (laid_at memo i).next f.parent next_fits (omega (arith, parent_le))
        (omega (
          arith,
          (spares_fit first ps prepared.lawful i (to_function f) (drop (suc i) ps) is_at).1,
          bridges_take_mono i (laid_at memo i).next ps (omega (arith, next_later)),
        ))

    bridge_planned : Room h ps
        → planned_of (bridge_registers first counts memo c i f)
        ≡ record { entry = entry_for first ps (placed h ps) (suc i) f; command = f.command }
    unfolding planned_of bridge_registers
    bridge_planned room =
        let values = values_are room in
        let primary = bus_is f.parent (omega (arith, parent_le)) in
        let secondary = bus_is (suc i) inside in
        let windows = window_is room in
        λ j. record {
          entry = record {
            id = id_is j;
            header = f.header;
            values = values j;
            readbacks = f.readbacks;
            primary = cond (is_bridge f) (primary j) 0;
            secondary = cond (is_bridge f) (secondary j) 0;
            subordinate = cond (is_bridge f) (last_is j) 0;
            low = cond (is_bridge f) (windows Low j) (closed Low);
            high = cond (is_bridge f) (windows High j) (closed High);
            io = cond (is_bridge f) (windows Io j) (closed Io);
          };
          command = f.command;
        }

    bridge_agrees : 3 * suc (length fs) ≤ length c → Agrees h ps (length fs) (suc i) (ends_in (bridge_next memo c i f))
    unfolding bridge_next
    bridge_agrees room =
        agrees_bridge h ps prepared.lawful i (to_function f) is_at f.readbacks (slot_count f) refl (length fs) (ends_in c) agrees
        inside bridge
        (extent_in (extents_in (laid_at memo i))) inner_is (ends_of (bars_in c f).cursors) after_bars_lem
        (ends_in (sets (sets c (3 * f.parent) (ends_list own)) (3 * suc i) (ends_list under)))
        (λ q.
        ends_other (sets c (3 * f.parent) (ends_list own)) (suc i) under f.parent (λ e. omega (arith, parent_le)) q
        ∙ ends_stored c f.parent own (omega (arith, parent_le)) q
        ∙ ap (λ (e : Ends). e q) (ends_kept (λ p. after_window p (extent_in (extents_in (laid_at memo i)) p) (ends_of (bars_in c f).cursors p))))
        (λ q.
        ends_stored (sets c (3 * f.parent) (ends_list own)) (suc i) under (omega (arith, length-sets c (3 * f.parent) (ends_list own))) q
        ∙ ap (λ (e : Ends). e q)
        (ends_kept (λ p. below_window p (extent_in (extents_in (laid_at memo i)) p) (ends_of (bars_in c f).cursors p)
        (ends_in c (suc i) p))))
        (λ b l np nk q. ends_other (sets c (3 * f.parent) (ends_list own)) (suc i) under b nk q ∙ ends_other c f.parent own b np q)
      where
        own : Cursors
        own = (windows_in memo c i f).cursors

        under : Cursors
        under = (windows_in memo c i f).below

  -- ## Either

  pub record_planned : Room h ps
      → planned_of (registers_of first counts memo c i f) ≡ record { entry = entry_for first ps (placed h ps) (suc i) f; command = f.command }
  record_planned room = go (is_bridge f) refl
    where
      go : (b : Bool) → is_bridge f ≡ b
          → planned_of (cond b (bridge_registers first counts memo c i f) (leaf_registers first counts c f))
          ≡ record { entry = entry_for first ps (placed h ps) (suc i) f; command = f.command }
      go true e = bridge_planned e room
      go false e = leaf_planned room e

  module _ (room : 3 * suc (length fs) ≤ length c) where
    pub record_agrees : Agrees h ps (length fs) (suc i) (ends_in (cursors_next memo c i f))
    record_agrees = go (is_bridge f) refl
      where
        go : (b : Bool) → is_bridge f ≡ b → Agrees h ps (length fs) (suc i) (ends_in (cond b (bridge_next memo c i f) (leaf_next c f)))
        go true e = bridge_agrees e room
        go false e = leaf_agrees room e

    pub record_placeable : Placeable first counts c f
    record_placeable =
        record {
          numbered = own_fits f.parent (omega (arith, parent_le));
          room = omega (arith, parent_le);
          readable = prepared.readable i f at;
        }

    pub record_bridged : is_bridge f ≡ true → Bridged first counts memo c i f.parent
    record_bridged e =
        record {
          numbered = own_fits (suc i) inside;
          room = omega arith;
          stored = omega (arith, prepared.memo_room);
          last_numbered = last_fits e;
          aligned =
              align_power h ps prepared.lawful i (to_function f) is_at f.readbacks (slot_count f) refl (length fs) (ends_in c)
              agrees inside e
              (extent_in (extents_in (laid_at memo i))) (inner_is e);
        }
