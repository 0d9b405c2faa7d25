-- The loop over a board's records, turn by turn: it starts at the first record, each record written is the plan's, and at the end the sheet
-- is the plan's. Assumes nothing.
use Rattle.std.specs.Prelude.{◌≡◌, Bool, true, false, cond, length, take, drop, set}
use Rattle.std.proofs.Math.Path.{refl, ap}
use Rattle.std.proofs.Common.{sym, subst, ◌∙◌, ⊎_elim, length-drop, length-set, length-take-le, take_all}
use mathlib.Core.List.{List, [], ◌∷◌, ◌++◌, map, flat_map}
use mathlib.Core.List.{cons≢nil, head-eq_of_cons-eq}
use Prim.Native.Nat.{ℕ, zero, suc, ◌+◌, ◌*◌, ◌≤◌, ◌<◌}
use Rattle.std.proofs.Math.Nat.{add-zero}
use native.Mathlib.Omega.{arith}
use Rattle.std.proofs.lemmas.List.Edits.{sets}
use Rattle.std.proofs.Math.Seq.{length-sets}
use Rattle.arith.specs.Order.{eq_or_ne}
use Rattle.lists.specs.ListLaws.{drop_suc}
use Rattle.pools.specs.declared.Pool.{Pool}
use Rattle.pools.specs.declared.Pool.TheVariants.{Low, High, Io}
use Rattle.window.specs.Window.{closed, opened}
use Rattle.records.specs.declared.Next.TheVariants.{Record, Broken}
use Rattle.records.specs.Limits.{most_functions}
use Rattle.records.specs.Records.{next_of, parts_from}
use Rattle.records.specs.RecordsLaws.{pass_record, pass_broken, none_left, none_here, none_later}
use Rattle.plan_rule.specs.Records as placing
use Rattle.plan_rule.specs.Layout.{Placed}
use Rattle.plan_rule.specs.Placing.{placed}
use Rattle.board_record.specs.declared.Host.{Host}
use Rattle.board_record.specs.declared.Function.{Function}
use Rattle.board_record.specs.Function.{is_bridge, function_of_part, header_wrong}
use Rattle.board_record.specs.Host.{functions_at}
use Rattle.board.specs.Board.{host_of, functions_of}
use Rattle.board.proofs.BoardLaws.{accepted_of_zero}
use Rattle.board.specs.ToPlacing.{to_host, to_placing}
use Rattle.plan_sizing.specs.Memo.{laid_at}
use Rattle.plan_rule.specs.declared.Extent.{Extent}
use Rattle.plan_rule.specs.Cap.{cap}
use Rattle.plan_function.specs.Function.{window_at, is_empty, window_start, window_stop}
use Rattle.plan_function.specs.declared.Cursors.{Cursors}
use Rattle.plan_function.specs.Kept.{ends_of, kept_window}
use Rattle.plan_function.proofs.LoopLaws.{agrees_start}
use Rattle.sheet.specs.Sheet.{sheet_length}
use Rattle.sheet_bytes.specs.declared.Registers.{Registers}
use Rattle.sheet_bytes.specs.Layout.{Planned, planned_of, record_bytes, sheet_bytes}
use Rattle.sheet_bytes.proofs.LayoutLaws.{sets_sheet_bytes_snoc}
use Rattle.plan_answer.specs.Plan.{entry_for, planned_from, plan_of}
use Rattle.plan_pass.specs.Step.{ends_list, extents_in, bars_in, leaf_registers, bridge_registers, registers_of, cursors_next, Placeable}
use Rattle.plan_pass.specs.Step.{Bridged}
use Rattle.plan_pass.specs.StepLaws.{ends_in, ends_stored, ends_other, RecordAt, record_planned, record_agrees, record_placeable}
use Rattle.plan_pass.specs.StepLaws.{record_bridged}
use Rattle.plan_pass.specs.Loop.{most_buses, plan_on, with_last, Holding, Ready, Standing, bases_for, Filled, Placing}

-- ## The plan, record by record

module _ (first : ℕ) (ps : List placing.Function) (xs : List Placed) where
  length_planned : (k : ℕ) (fs : List Function) → length (planned_from first ps xs k fs) ≡ length fs
  unfolding planned_from
  length_planned k [] = refl
  length_planned k (f ∷ fs) = ap suc (length_planned (suc k) fs)

  planned_snoc : (k i : ℕ) (fs : List Function) (f : Function) → RecordAt fs i f
      → take (suc i) (planned_from first ps xs k fs)
      ≡ take i (planned_from first ps xs k fs) ++ (record { entry = entry_for first ps xs (k + i) f; command = f.command } ∷ [])
  unfolding planned_from
  planned_snoc k zero [] f e = absurd (cons≢nil (sym e))
  planned_snoc k (suc i) [] f e = absurd (cons≢nil (sym e))
  planned_snoc k zero (g ∷ fs) f e = let h : g ≡ f = head-eq_of_cons-eq e in rw (h, add-zero k)
  planned_snoc k (suc i) (g ∷ fs) f e =
      let s : k + suc i ≡ suc k + i = omega arith in
      rw s (ap (λ (l : List Planned). record { entry = entry_for first ps xs k g; command = g.command } ∷ l)
      (planned_snoc (suc k) i fs f e))

length_plan : (b : List ℕ) → length (plan_on b) ≡ length (functions_of b)
unfolding plan_of
length_plan b = length_planned _ _ _ 1 (functions_of b)

plan_snoc : (b : List ℕ) (first i : ℕ) (f : Function) → first ≡ (host_of b).first_bus → RecordAt (functions_of b) i f
    → take (suc i) (plan_on b)
    ≡ take i (plan_on b)
    ++ (record {
      entry = entry_for first (to_placing (functions_of b)) (placed (to_host (host_of b)) (to_placing (functions_of b))) (suc i) f;
      command = f.command;
    } ∷ [])
unfolding plan_of
plan_snoc b first i f e at =
    let s : 1 + i ≡ suc i = omega arith in
    rw e (rw s at (planned_snoc (host_of b).first_bus (to_placing (functions_of b))
    (placed (to_host (host_of b)) (to_placing (functions_of b))) 1 i (functions_of b) f at))

-- ## An I/O window's registers are bytes

io_small : (t : Bool) (s e : ℕ) → ((window_at Io t s e).base < 256) × ((window_at Io t s e).limit < 256)
unfolding closed opened
io_small true s e = (omega arith, omega arith)
io_small false s e = (omega arith, omega arith)

io_kept : (inner : Extent) (e : ℕ) → ((kept_window Io inner e).base < 256) × ((kept_window Io inner e).limit < 256)
io_kept inner e = io_small (is_empty inner) (cap (window_start Io inner e)) (cap (window_stop Io inner e))

io_leaf : (first : ℕ) (counts c : List ℕ) (f : Function)
    → ((leaf_registers first counts c f).io.base < 256) × ((leaf_registers first counts c f).io.limit < 256)
unfolding leaf_registers
io_leaf first counts c f = io_small true 0 0

io_bridge : (first : ℕ) (counts memo c : List ℕ) (i : ℕ) (f : Function)
    → ((bridge_registers first counts memo c i f).io.base < 256) × ((bridge_registers first counts memo c i f).io.limit < 256)
unfolding bridge_registers
io_bridge first counts memo c i f = io_kept (extents_in (laid_at memo i)).io (bars_in c f).cursors.io

pub io_bytes : (first : ℕ) (counts memo c : List ℕ) (i : ℕ) (f : Function) (r : Registers) → r ≡ registers_of first counts memo c i f
    → (r.io.base < 256) × (r.io.limit < 256)
io_bytes first counts memo c i f r e = rw e (go (is_bridge f))
  where
    go : (t : Bool) → ((cond t (bridge_registers first counts memo c i f) (leaf_registers first counts c f)).io.base < 256)
        × ((cond t (bridge_registers first counts memo c i f) (leaf_registers first counts c f)).io.limit < 256)
    go true = io_bridge first counts memo c i f
    go false = io_leaf first counts c f

-- ## Turns

pub standing_start : (b : List ℕ) {first : ℕ} {counts memo c sheet : List ℕ} → Ready b first counts memo c sheet
    → Standing b c sheet c sheet functions_at 0
standing_start b r =
    let a = accepted_of_zero b r.accepted in
    record {
      rest = sym a.functions_read;
      headers = a.headers;
      within = omega arith;
      cursors_length = refl;
      holding = r.bases;
      sheet_length_lem = refl;
      written = r.version;
    }

module _ {b : List ℕ} {first : ℕ} {counts memo c₀ sheet₀ c sheet : List ℕ} (r : Ready b first counts memo c₀ sheet₀) {at i : ℕ}
    (s : Standing b c₀ sheet₀ c sheet at i) where
  -- a record stands there
  module _ (n : ℕ) (e : next_of (drop at b) ≡ Record n) where
    abbrev here : Function
    here = function_of_part (take n (drop (at + 2) b))

    opened_rest : drop i (functions_of b) ≡ here ∷ map function_of_part (parts_from b (at + 2 + n))
    opened_rest = sym s.rest ∙ pass_record (map function_of_part) b at n e

    next_rest : drop (suc i) (functions_of b) ≡ map function_of_part (parts_from b (at + 2 + n))
    next_rest = drop_suc i (functions_of b) here (map function_of_part (parts_from b (at + 2 + n))) opened_rest

    record_here : RecordAt (functions_of b) i here
    record_here = opened_rest ∙ ap (λ (l : List Function). here ∷ l) (sym next_rest)

    pub inside : i < length (functions_of b)
    inside = omega (arith, ap length opened_rest, length-drop i (functions_of b))

    pub header_right : header_wrong (take n (drop (at + 2) b)) ≡ false
    header_right = none_here header_wrong b at n e s.headers

    room_here : 3 * suc (length (functions_of b)) ≤ length c
    room_here = omega (arith, r.cursors_room, s.cursors_length)

    pub turn_placeable : Placeable first counts c here
    turn_placeable = record_placeable r.prepared (to_host (host_of b)) c i here record_here inside s.holding room_here

    pub turn_bridged : is_bridge here ≡ true → Bridged first counts memo c i here.parent
    turn_bridged = record_bridged r.prepared (to_host (host_of b)) c i here record_here inside s.holding room_here

    pub turn_room : sheet_length (suc i) ≤ length sheet
    turn_room = omega (arith, inside, r.sheet_room, s.sheet_length_lem)

    planned_here : planned_of (registers_of first counts memo c i here)
        ≡ record {
          entry = entry_for first (to_placing (functions_of b)) (placed (to_host (host_of b)) (to_placing (functions_of b))) (suc i) here;
          command = here.command;
        }
    unfolding placed
    planned_here = record_planned r.prepared (with_last (to_host (host_of b)) r.last) c i here record_here inside s.holding r.room

    -- the plan's next record
    pub plan_turn : take (suc i) (plan_on b) ≡ take i (plan_on b) ++ (planned_of (registers_of first counts memo c i here) ∷ [])
    plan_turn =
        plan_snoc b first i here r.first_bus_lem record_here
        ∙ ap (λ (p : Planned). take i (plan_on b) ++ (p ∷ [])) (sym planned_here)

    pub standing_turn : {c' sheet' : List ℕ} → c' ≡ cursors_next memo c i here
        → sheet' ≡ sets sheet (sheet_length i) (record_bytes (planned_of (registers_of first counts memo c i here))) → length c' ≡ length c
        → Standing b c₀ sheet₀ c' sheet' (at + 2 + n) (suc i)
    standing_turn {c'} {sheet'} next wrote same =
        record {
          rest = sym next_rest;
          headers = none_later header_wrong b at n e s.headers;
          within = inside;
          cursors_length = same ∙ s.cursors_length;
          holding =
              subst (λ (l : List ℕ). Holding b (suc i) l) (sym next)
              (record_agrees r.prepared (to_host (host_of b)) c i here record_here inside s.holding room_here);
          sheet_length_lem = ap length wrote ∙ length-sets sheet (sheet_length i)
              (record_bytes (planned_of (registers_of first counts memo c i here))) ∙ s.sheet_length_lem;
          written =
              sets_sheet_bytes_snoc sheet₀ (take i (plan_on b)) (planned_of (registers_of first counts memo c i here)) s.written
              (wrote ∙ ap (λ (k : ℕ). sets sheet (sheet_length k) (record_bytes (planned_of (registers_of first counts memo c i here))))
              (sym so_far))
              ∙ ap (λ (p : Planned). sets sheet₀ 0 (sheet_bytes (take i (plan_on b) ++ p ∷ [])))
              planned_here
              ∙ ap (λ (l : List Planned). sets sheet₀ 0 (sheet_bytes l)) (sym (plan_snoc b first i here r.first_bus_lem record_here));
        }
      where
        so_far : length (take i (plan_on b)) ≡ i
        so_far = length-take-le i (plan_on b) (omega (arith, length_plan b, s.within))

  -- the plan has no record more
  plan_whole : drop i (functions_of b) ≡ [] → take i (plan_on b) ≡ plan_on b
  plan_whole e = take_all i (plan_on b) (omega (arith, ap length e, length-drop i (functions_of b), length_plan b))

  -- none does
  finished : drop i (functions_of b) ≡ [] → sheet ≡ sets sheet₀ 0 (sheet_bytes (plan_on b))
  finished e = s.written ∙ ap (λ (p : List Planned). sets sheet₀ 0 (sheet_bytes p)) (plan_whole e)

  pub plan_end : ((n : ℕ) → next_of (drop at b) ≡ Record n → ⊥) → take i (plan_on b) ≡ plan_on b
  plan_end none = plan_whole (sym s.rest ∙ ap (map function_of_part) (none_left b at none))

  pub plan_broken : next_of (drop at b) ≡ Broken → take i (plan_on b) ≡ plan_on b
  plan_broken e = plan_whole (sym s.rest ∙ pass_broken (map function_of_part) b at e)

  pub finished_end : ((n : ℕ) → next_of (drop at b) ≡ Record n → ⊥) → sheet ≡ sets sheet₀ 0 (sheet_bytes (plan_on b))
  finished_end none = finished (sym s.rest ∙ ap (map function_of_part) (none_left b at none))

  pub finished_broken : next_of (drop at b) ≡ Broken → sheet ≡ sets sheet₀ 0 (sheet_bytes (plan_on b))
  finished_broken e = finished (sym s.rest ∙ pass_broken (map function_of_part) b at e)

-- ## The whole pass

pub filled_next : (c c' : List ℕ) (base : Cursors) (n : ℕ) → Filled base n c → 3 * n + 3 ≤ length c → c' ≡ sets c (3 * n) (ends_list base)
    → Filled base (suc n) c'
filled_next c c' base n f room e b l q =
    ap (λ (x : List ℕ). ends_in x b q) e ∙ ⊎_elim here (λ ne. ends_other c n base b ne q ∙ f b (omega arith) q) (eq_or_ne b n)
  where
    here : b ≡ n → ends_in (sets c (3 * n) (ends_list base)) b q ≡ ends_of base q
    here g = rw g (ends_stored c n base room q)

-- the version byte
version_again : (s : List ℕ) → set s 0 1 ≡ sets (set s 0 1) 0 (sheet_bytes [])
unfolding sheet_bytes flat_map
version_again [] = refl
version_again (x ∷ xs) = refl

pub version_first : (s : List ℕ) (ps : List Planned) → sets (set s 0 1) 0 (sheet_bytes ps) ≡ sets s 0 (sheet_bytes ps)
unfolding sheet_bytes
version_first [] ps = refl
version_first (x ∷ xs) ps = refl

pub length_functions : (ls : List (List ℕ)) → length (map function_of_part ls) ≡ length ls
length_functions [] = refl
length_functions (p ∷ ls) = ap suc (length_functions ls)

pub ready_of_placing : {b : List ℕ} {h : Host} {counts memo sheet : List ℕ} (c : List ℕ) (base : Cursors) → Placing b h counts memo sheet
    → base ≡ bases_for h
    → Filled base most_buses c → length c ≡ 3 * most_buses → Ready b h.first_bus counts memo c (set sheet 0 1)
ready_of_placing {b} {h} {counts} {memo} {sheet} c base p base_is filled long =
    record {
      accepted = p.accepted;
      first_bus_lem = ap (λ (x : Host). x.first_bus) p.host_read;
      prepared = p.prepared;
      last = p.last;
      room = p.room;
      cursors_room = omega (arith, few, long);
      bases = agrees_start (to_host (host_of b)) (to_placing (functions_of b)) (length (functions_of b)) (ends_in c)
          (λ k l q. filled k (omega (arith, few)) q ∙ each q);
      sheet_room = omega (arith, p.sheet_room, length-set sheet 0 1);
      version = version_again sheet;
    }
  where
    few : length (functions_of b) ≤ most_functions
    few = let a = accepted_of_zero b
        p.accepted in omega (arith, ap length a.functions_read, length_functions (parts_from b functions_at), a.few)

    same : base ≡ bases_for (host_of b)
    same = base_is ∙ ap bases_for p.host_read

    each : (q : Pool) → ends_of base q ≡ cap ((to_host (host_of b)).base q)
    each Low = ap (λ (x : Cursors). x.low) same
    each High = ap (λ (x : Cursors). x.high) same
    each Io = ap (λ (x : Cursors). x.io) same
