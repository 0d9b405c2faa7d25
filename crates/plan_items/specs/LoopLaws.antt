-- The walk over a board's items, turn by turn: each record's are told from the arrays, and at the end all are seen. Assumes nothing.
use Rattle.std.specs.Prelude.{◌≡◌, Bool, true, false, length, take, drop}
use Rattle.std.proofs.Math.Path.{refl, ap, ap₂}
use Rattle.std.proofs.Common.{sym, subst, ◌∙◌, arith, length-drop}
use Rattle.std.proofs.Math.Bool.{cond}
use mathlib.Core.List.{List, [], ◌∷◌, ◌++◌, map}
use Prim.Native.Nat.{ℕ, suc, ◌+◌, ◌*◌, ◌≤◌, ◌<◌, max}
use Rattle.arith.specs.Powers.{PowerOfTwo}
use Rattle.endian.specs.Endian.{Bytes}
use Rattle.pools.specs.declared.Pool.{Pool}
use Rattle.pools.specs.declared.Pool.TheVariants.{Low, High, Io}
use Rattle.pools.specs.Pools.{granule}
use Rattle.records.specs.declared.Next.TheVariants.{Record, Broken}
use Rattle.records.specs.Limits.{most_functions}
use Rattle.records.specs.Records.{next_of, parts_from}
use Rattle.records.specs.RecordsLaws.{pass_record, pass_broken, none_left, none_here, none_later}
use Rattle.lists.specs.Lists.{keep}
use Rattle.lists.specs.ListLaws.{all_drop, drop_suc}
use Rattle.lists.specs.KeepLaws.{map_keep_append}
use Rattle.plan_rule.specs.Records as placing
use Rattle.plan_rule.specs.Records.{Sized}
use Rattle.plan_rule.proofs.RecordLaws.{IsAt}
use Rattle.plan_rule.specs.Layout.{Piece}
use Rattle.plan_rule.specs.Pieces.{pieces}
use Rattle.plan_rule.proofs.PieceLaws.{BarsSized, pieces_shaped}
use Rattle.plan_rule.specs.Placing.{Cursors, cursors_after}
use Rattle.plan_rule.specs.declared.Extent.{Extent}
use Rattle.plan_rule.specs.Sizing.{bus_laid}
use Rattle.plan_rule.specs.Cap.{cap}
use Rattle.plan_rule.proofs.CapLaws.{capped}
use Rattle.board_record.specs.declared.Host.{Host}
use Rattle.board_record.specs.declared.Function.{Function}
use Rattle.board_record.specs.Function.{is_bridge, slot_count, function_of_part, header_wrong}
use Rattle.board_record.specs.Host.{functions_at}
use Rattle.board.specs.Board.{host_of, functions_of}
use Rattle.board.proofs.BoardLaws.{accepted_of_zero}
use Rattle.board.specs.ToPlacing.{to_host, to_function, to_placing}
use Rattle.plan_sizing.specs.declared.Laid.{Laid}
use Rattle.plan_function.specs.declared.Cursors as kept
use Rattle.plan_function.specs.Kept.{ends_of, extent_in}
use Rattle.plan_function.proofs.KeptLaws.{all_sized_lem}
use Rattle.plan_function.specs.Pass.{cursors_at}
use Rattle.plan_function.proofs.PassLaws.{own_at, cursors_at_start, cursors_at_step}
use Rattle.plan_function.proofs.JoinLaws.{inside_of, parent_lt}
use Rattle.plan_function.proofs.LoopLaws.{agrees_start}
use Rattle.plan_good.proofs.Boards.{open_ends_low}
use Rattle.plan_pass.specs.Step.{extents_in, cursors_next, Placeable, Bridged}
use Rattle.plan_pass.specs.StepLaws.{ends_in, map_drop, RecordAt, is_at_of_record, Prepared, record_agrees, record_placeable, record_bridged}
use Rattle.plan_pass.specs.LoopLaws.{length_functions}
use Rattle.plan_pass.specs.Loop.{most_buses, bases_for, Filled}
use Rattle.plan_sheet.proofs.Accepted.{board_of_accepted}
use Rattle.plan_needs.specs.Bases.{laid_host_of}
use Rattle.plan_needs.proofs.BasesLaws.{laid_base}
use Rattle.plan_items.specs.declared.Told.{Told}
use Rattle.plan_items.specs.declared.Watched.{Watched}
use Rattle.plan_items.specs.declared.Seen.{Seen}
use Rattle.plan_items.specs.Items.{items_from, items_of}
use Rattle.plan_items.specs.Walk.{watched_of, nothing_seen, see_all, told_of, window_told, bars_told, bars_end, record_told, slots_of}
use Rattle.plan_items.specs.ItemsLaws.{of_pool, told_in, items_append}
use Rattle.plan_items.specs.RecordLaws.{own_told}
use Rattle.plan_items.specs.WalkLaws.{see_all_append, see_all_none}
use Rattle.plan_items.specs.SeenLaws.{seen_all}
use Rattle.plan_items.specs.Loop.{seen_in, placed_on, told_on, told_from, inner_in, told_next, Seeable, Holding, Walking, Walked, Walkable}

no_items : (q : Pool) (d : Cursors) (k : ℕ) → told_in q (items_from d (pieces k [])) ≡ []
unfolding pieces items_from keep
no_items q d k = refl

-- ## The record at index i

module _ (b : List ℕ) (q : Pool) (first : ℕ) (counts memo c : List ℕ) (prepared : Prepared first (functions_of b) counts memo) (i : ℕ)
    (f : Function) (at : RecordAt (functions_of b) i f) (inside : i < length (functions_of b)) (holding : Holding b i c) where
  abbrev fs : List placing.Function
  fs = to_placing (functions_of b)

  abbrev later : List Piece
  later = pieces (suc (suc i)) (drop (suc i) fs)

  is_at : IsAt fs i (to_function f)
  is_at = is_at_of_record (functions_of b) i f at

  before : f.parent < suc i
  before = parent_lt (placed_on b) fs prepared.lawful i (to_function f) is_at (slots_of f) refl

  sized : Sized (to_function f ∷ drop (suc i) fs)
  sized = subst Sized is_at (all_drop BarsSized i fs prepared.lawful.sized)

  end_is : ends_in c f.parent q ≡ cap (cursors_at (placed_on b) fs i f.parent q)
  end_is = holding f.parent (omega (arith, before)) q

  inner_is : is_bridge f ≡ true → inner_in memo i q ≡ capped (inside_of fs i (to_function f) q)
  inner_is e = go q
    where
      go : (r : Pool) → inner_in memo i r ≡ capped (inside_of fs i (to_function f) r)
      go Low = ap (λ (l : Laid). extent_in (extents_in l) Low) (prepared.stored i f at e)
      go High = ap (λ (l : Laid). extent_in (extents_in l) High) (prepared.stored i f at e)
      go Io = ap (λ (l : Laid). extent_in (extents_in l) Io) (prepared.stored i f at e)

  -- its own items
  told_own : told_in q (items_from (cursors_at (placed_on b) fs i) (own_at fs i (to_function f))) ≡ told_next q f i memo c
  unfolding record_told bus_laid
  told_own =
      own_told (suc i) (to_function f) (slots_of f) later (cursors_at (placed_on b) fs i) refl before sized.0
      (all_sized_lem (take (slot_count f) f.readbacks)) (pieces_shaped (suc (suc i)) (drop (suc i) fs) sized.1) q
      ∙ ap (λ (e : ℕ). bars e ++ cond (is_bridge f) (window e (capped (inside_of fs i (to_function f) q))) []) (sym end_is)
      ∙ ap (λ (l : List Told). bars (ends_in c f.parent q) ++ l) (go (is_bridge f) refl)
    where
      bars : ℕ → List Told
      bars e = bars_told q f.parent (suc i) 0 e (slots_of f)

      window : ℕ → Extent → List Told
      window e x = window_told q f.parent (suc i) (bars_end q e (slots_of f)) x

      go : (t : Bool) → is_bridge f ≡ t
          → cond t (window (ends_in c f.parent q) (capped (inside_of fs i (to_function f) q))) []
          ≡ cond t (window (ends_in c f.parent q) (inner_in memo i q)) []
      go true e = ap (window (ends_in c f.parent q)) (sym (inner_is e))
      go false e = refl

  -- and then those of the later records
  told_split : told_from b q i ≡ told_next q f i memo c ++ told_from b q (suc i)
  unfolding pieces
  told_split =
      ap (λ (l : List placing.Function). told_in q (items_from (cursors_at (placed_on b) fs i) (pieces (suc i) l))) is_at
      ∙ ap (told_in q) (items_append (cursors_at (placed_on b) fs i) (own_at fs i (to_function f)) later)
      ∙ map_keep_append (of_pool q) told_of (items_from (cursors_at (placed_on b) fs i) (own_at fs i (to_function f)))
      (items_from (cursors_after (cursors_at (placed_on b) fs i) (own_at fs i (to_function f))) later)
      ∙ ap₂ (λ (x y : List Told). x ++ y) told_own
      (ap (λ (d : Cursors). told_in q (items_from d later)) (sym (cursors_at_step (placed_on b) fs i (to_function f) is_at)))

  seeable : 3 * suc (length (functions_of b)) ≤ length c → length (functions_of b) ≤ most_functions → Seeable q f i memo c
  seeable room few =
      record {
        few = omega arith;
        stored = omega (arith, prepared.memo_room);
        room = omega (arith, before);
        cut = omega (arith, end_is);
        readable = prepared.readable i f at;
        aligned = λ e. (record_bridged prepared (placed_on b) c i f at inside holding room e).aligned q;
      }

-- in the words of the code
pub told_next_lem : {r : Seen} {k e : ℕ} {x : Extent} (w : Watched) (s : Seen) (f : Function) (i : ℕ) (memo c : List ℕ) → k ≡ suc i
    → e ≡ ends_in c f.parent w.pool → x ≡ inner_in memo i w.pool → r ≡ see_all w s (record_told w.pool f k e x)
    → r ≡ see_all w s (told_next w.pool f i memo c)
told_next_lem {r} {k} {e} {x} w s f i memo c k_is e_is x_is told =
    told ∙ ap₂ (λ (n : ℕ) (y : Extent). see_all w s (record_told w.pool f k n y)) e_is x_is
    ∙ ap (λ (n : ℕ). see_all w s (record_told w.pool f n (ends_in c f.parent w.pool) (inner_in memo i w.pool))) k_is

pub aligned_as_stored : {x : Extent} (q : Pool) (f : Function) (i : ℕ) (memo c : List ℕ) → Seeable q f i memo c → x ≡ inner_in memo i q
    → is_bridge f ≡ true → PowerOfTwo (max (granule q) x.align)
aligned_as_stored q f i memo c s e b = rw e (s.aligned b)

-- ## Turns

few_functions : (b : List ℕ) {first : ℕ} {counts memo c : List ℕ} → Walking b first counts memo c → length (functions_of b) ≤ most_functions
few_functions b r =
    let a = accepted_of_zero b r.accepted in
    omega (arith, ap length a.functions_read, length_functions (parts_from b functions_at), a.few)

told_start : (b : List ℕ) (q : Pool) → told_from b q 0 ≡ told_on b q
unfolding items_of
told_start b q = ap (λ (d : Cursors). told_in q (items_from d (pieces 1 (to_placing (functions_of b)))))
    (cursors_at_start (placed_on b) (to_placing (functions_of b)))

pub walked_start : (b : List ℕ) (w : Watched) {first : ℕ} {counts memo c : List ℕ} {seen : Seen} → Walking b first counts memo c
    → seen ≡ nothing_seen → Walked b w c c seen functions_at 0
walked_start b w r e =
    let a = accepted_of_zero b r.accepted in
    record {
      rest = sym a.functions_read;
      headers = a.headers;
      within = omega arith;
      cursors_length = refl;
      holding = r.bases;
      to_come_lem = ap₂ (λ (s : Seen) (l : List Told). see_all w s l) e (told_start b w.pool);
    }

module _ {b : List ℕ} {w : Watched} {first : ℕ} {counts memo c₀ c : List ℕ} {seen : Seen} (r : Walking b first counts memo c₀) {at i : ℕ}
    (s : Walked b w c₀ c seen at i) where
  -- a record stands there
  module _ (n : ℕ) (e : next_of (drop at b) ≡ Record n) where
    abbrev here : Function
    here = function_of_part (take n (drop (at + 2) b))

    opened_rest : drop i (functions_of b) ≡ here ∷ map function_of_part (parts_from b (at + 2 + n))
    opened_rest = sym s.rest ∙ pass_record (map function_of_part) b at n e

    next_rest : drop (suc i) (functions_of b) ≡ map function_of_part (parts_from b (at + 2 + n))
    next_rest = drop_suc i (functions_of b) here (map function_of_part (parts_from b (at + 2 + n))) opened_rest

    record_here : RecordAt (functions_of b) i here
    record_here = opened_rest ∙ ap (λ (l : List Function). here ∷ l) (sym next_rest)

    pub inside : i < length (functions_of b)
    inside = omega (arith, ap length opened_rest, length-drop i (functions_of b))

    pub below_most : i < most_functions
    below_most = omega (arith, inside, few_functions b r)

    pub header_right : header_wrong (take n (drop (at + 2) b)) ≡ false
    header_right = none_here header_wrong b at n e s.headers

    room_here : 3 * suc (length (functions_of b)) ≤ length c
    room_here = omega (arith, r.cursors_room, s.cursors_length)

    -- as the code read it
    module _ {f : Function} (read : f ≡ here) where
      pub turn_seeable : Seeable w.pool f i memo c
      turn_seeable =
          rw read
          (seeable b w.pool first counts memo c r.prepared i here record_here inside s.holding room_here (few_functions b r))

      pub turn_placeable : Placeable first counts c f
      turn_placeable = rw read (record_placeable r.prepared (placed_on b) c i here record_here inside s.holding room_here)

      pub turn_bridged : is_bridge f ≡ true → Bridged first counts memo c i f.parent
      turn_bridged = rw read (record_bridged r.prepared (placed_on b) c i here record_here inside s.holding room_here)

      pub walked_turn : {c' : List ℕ} {seen' : Seen} → seen' ≡ see_all w seen (told_next w.pool f i memo c) → c' ≡ cursors_next memo c i f
          → length c' ≡ length c → Walked b w c₀ c' seen' (at + 2 + n) (suc i)
      walked_turn {c'} {seen'} saw next same =
          record {
            rest = sym next_rest;
            headers = none_later header_wrong b at n e s.headers;
            within = inside;
            cursors_length = same ∙ s.cursors_length;
            holding =
                subst (λ (l : List ℕ). Holding b (suc i) l) (sym (next ∙ ap (cursors_next memo c i) read))
                (record_agrees r.prepared (placed_on b) c i here record_here inside s.holding room_here);
            to_come_lem =
                ap (λ (x : Seen). see_all w x (told_from b w.pool (suc i)))
                (saw ∙ ap (λ (x : Function). see_all w seen (told_next w.pool x i memo c)) read)
                ∙ sym (see_all_append w seen (told_next w.pool here i memo c) (told_from b w.pool (suc i)))
                ∙ ap (see_all w seen)
                (sym (told_split b w.pool first counts memo c r.prepared i here record_here inside s.holding))
                ∙ s.to_come_lem;
          }

  -- none does
  finished : drop i (functions_of b) ≡ [] → seen ≡ see_all w nothing_seen (told_on b w.pool)
  finished e = sym (see_all_none w seen) ∙ ap (see_all w seen) (sym nothing_left) ∙ s.to_come_lem
    where
      fs : List placing.Function
      fs = to_placing (functions_of b)

      no_more : drop i fs ≡ []
      no_more = map_drop to_function i (functions_of b) ∙ ap (map to_function) e

      nothing_left : told_from b w.pool i ≡ []
      nothing_left =
          ap (λ (l : List placing.Function). told_in w.pool (items_from (cursors_at (placed_on b) fs i) (pieces (suc i) l))) no_more
          ∙ no_items w.pool (cursors_at (placed_on b) fs i) (suc i)

  pub finished_end : ((n : ℕ) → next_of (drop at b) ≡ Record n → ⊥) → seen ≡ see_all w nothing_seen (told_on b w.pool)
  finished_end none = finished (sym s.rest ∙ ap (map function_of_part) (none_left b at none))

  pub finished_broken : next_of (drop at b) ≡ Broken → seen ≡ see_all w nothing_seen (told_on b w.pool)
  finished_broken e = finished (sym s.rest ∙ pass_broken (map function_of_part) b at e)

-- ## The whole walk

pub walking_of_walkable : {b : List ℕ} {h g : Host} {counts memo : List ℕ} (c : List ℕ) (base : kept.Cursors) → Walkable b h counts memo
    → g ≡ laid_host_of h → base ≡ bases_for g → Filled base most_buses c → length c ≡ 3 * most_buses
    → Walking b h.first_bus counts memo c
walking_of_walkable {b} {h} {g} {counts} {memo} c base p laid base_is filled long =
    record {
      accepted = p.accepted;
      prepared = p.prepared;
      cursors_room = omega (arith, few, long);
      bases = agrees_start (placed_on b) (to_placing (functions_of b)) (length (functions_of b)) (ends_in c)
          (λ k l q. filled k (omega (arith, few)) q ∙ each q);
    }
  where
    few : length (functions_of b) ≤ most_functions
    few = let a = accepted_of_zero b
        p.accepted in omega (arith, ap length a.functions_read, length_functions (parts_from b functions_at), a.few)

    same : base ≡ bases_for (laid_host_of (host_of b))
    same = base_is ∙ ap bases_for (laid ∙ ap laid_host_of p.host_read)

    each : (q : Pool) → ends_of base q ≡ cap ((placed_on b).base q)
    each Low = ap (λ (x : kept.Cursors). x.low) same ∙ ap cap (laid_base (host_of b) Low)
    each High = ap (λ (x : kept.Cursors). x.high) same ∙ ap cap (laid_base (host_of b) High)
    each Io = ap (λ (x : kept.Cursors). x.io) same ∙ ap cap (laid_base (host_of b) Io)

pub walked_all : {b : List ℕ} {h : Host} {counts memo : List ℕ} {w : Watched} {seen : Seen} (q : Pool) → Bytes b → Walkable b h counts memo
    → w ≡ watched_of (to_host h) q → seen ≡ see_all w nothing_seen (told_on b w.pool) → seen
    ≡ seen_in (to_host h) (to_placing (functions_of b)) q
walked_all {b} {h} q bytes p w_is e =
    e ∙ ap (λ (w : Watched). see_all w nothing_seen (told_on b w.pool)) (w_is ∙ ap (λ (x : Host). watched_of (to_host x) q) p.host_read)
    ∙ seen_all (to_host (host_of b)) q (open_ends_low (board_of_accepted b bytes p.accepted).edges q) (to_placing (functions_of b))
    p.prepared.lawful.sized
    ∙ ap (λ (x : Host). seen_in (to_host x) (to_placing (functions_of b)) q) (sym p.host_read)
