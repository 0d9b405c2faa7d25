-- The whole board: the root bus from the pools' bases, and what the planner cites: when a pool runs out, what lies below a bridge.
-- Assumes nothing.
use Rattle.std.specs.Prelude.{◌≡◌, refl, true, false, List, [], ◌∷◌, ℕ, suc, ◌-◌, ◌*◌, ◌≤◌, ◌<◌, ltb, length, get_or}
use Rattle.std.proofs.Common.{sym, ap, ap₂, ◌∙◌, ⊎_elim, arith, lt-ltb, le-ltb}
use Rattle.std.proofs.Math.Bool.{and-false}
use Rattle.std.proofs.Math.Dec.{leb-zero}
use Rattle.std.proofs.lemmas.List.Edits.{sets}
use Rattle.arith.specs.Order.{le_or_lt}
use Rattle.pools.specs.declared.Pool.{Pool}
use Rattle.bar.specs.Header.{is_bridge}
use Rattle.lists.specs.Lists.{front}
use Rattle.plan_rule.specs.Records.{Function, run}
use Rattle.plan_rule.specs.declared.Extent.{Extent}
use Rattle.records.specs.Limits.{most_above}
use Rattle.plan_rule.specs.Sizing as placing
use Rattle.plan_rule.specs.Sizing.{bus_laid, ends_past}
use Rattle.plan_rule.proofs.SizingLaws.{ready_start}
use Rattle.plan_rule.proofs.CapLaws.{capped_laid, cap_bus_laid}
use Rattle.plan_sizing.specs.declared.Laid.{Laid}
use Rattle.plan_sizing.specs.Functions.{header_in, functions_in, function_at}
use Rattle.plan_sizing.specs.FunctionsLaws.{functions_sized, length_functions, functions_at_lem}
use Rattle.plan_sizing.specs.Cut.{cut}
use Rattle.plan_sizing.specs.CutLaws.{says_of_cut, cut_of_capped, whole_of_cut}
use Rattle.plan_sizing.specs.Memo.{laid_at, below, memo_from, memo_between}
use Rattle.plan_sizing.specs.MemoLaws.{memo_between_all, laid_at_bridge}
use Rattle.plan_sizing.specs.Board.{Board, Standing, BusSized, root_from, BoardSized}
use Rattle.plan_sizing.specs.BusLaws.{lawful_of_board}

-- the root bus has all records below it
run_root : (gs : List Function) → length (run 0 gs) ≡ length gs
unfolding front
run_root [] = refl
run_root (g ∷ gs) = rw (leb-zero g.parent) (ap suc (run_root gs))

root_next : (gs : List Function) (bases : Pool → ℕ) → (bus_laid gs 0 (root_from bases)).next ≡ length gs
unfolding bus_laid
root_next gs bases = omega (arith, run_root gs)

-- the walk over the root bus, from a depth that is enough for every bus
pub root_standing : {ps hs ss : List ℕ} (memo : List ℕ) (bases : Pool → ℕ) {d : ℕ} {start : Laid} → Board ps hs ss
    → 7 * length ps ≤ length memo → most_above < d → start ≡ cut (root_from bases) → Standing ps hs ss memo 0 d start
root_standing {ps} {hs} {ss} memo bases b room deep e =
    rw e
    (record {
      board = b;
      room = room;
      whole = whole_of_cut (cut (root_from bases)) (root_from bases) refl;
      within = omega arith;
      deep = omega arith;
      ready = ready_start (functions_in ps hs ss) (lawful_of_board b);
    })

pub board_sized : (ps hs ss : List ℕ) {memo memo' : List ℕ} (bases : Pool → ℕ) {start r : Laid} → start ≡ cut (root_from bases)
    → BusSized ps hs ss memo memo' 0 start r → BoardSized (functions_in ps hs ss) bases memo memo' r
board_sized ps hs ss {memo} {memo'} bases {start} {r} e w = record { laid = laid; stored = stored }
  where
    laid : r ≡ cut (bus_laid (functions_in ps hs ss) 0 (root_from bases))
    laid =
        w.laid
        ∙ ap (λ (x : placing.Laid). cut (bus_laid (functions_in ps hs ss) 0 x)) (says_of_cut start (root_from bases) e)
        ∙ cut_of_capped (bus_laid (functions_in ps hs ss) 0 (capped_laid (root_from bases))) (bus_laid (functions_in ps hs ss) 0 (root_from bases))
        (cap_bus_laid (functions_in ps hs ss) (functions_sized ps hs ss) 0 (root_from bases))

    first : start.next ≡ 0
    first = ap (λ (x : Laid). x.next) e

    last : r.next ≡ length (functions_in ps hs ss)
    last = ap (λ (x : Laid). x.next) laid ∙ root_next (functions_in ps hs ss) bases

    stored : memo' ≡ sets memo 0 (memo_from (functions_in ps hs ss) 0 (functions_in ps hs ss))
    stored =
        w.stored
        ∙ ap₂ (λ (i j : ℕ). sets memo (7 * i) (memo_between (functions_in ps hs ss) i j)) first last
        ∙ ap (sets memo 0) (memo_between_all (functions_in ps hs ss) memo)

-- ## What the planner cites

-- what lies below each bridge can be read back
pub stored_below : (ps hs ss memo memo' : List ℕ) (bases : Pool → ℕ) (r : Laid) → 7 * length ps ≤ length memo
    → BoardSized (functions_in ps hs ss) bases memo memo' r → (i : ℕ) → i < length ps → is_bridge (header_in (get_or hs i 0)) ≡ true
    → laid_at memo' i ≡ below (functions_in ps hs ss) i (function_at ps hs ss i).spare_low
stored_below ps hs ss memo memo' bases r room b i h e =
    ap (λ (m : List ℕ). laid_at m i) b.stored
    ∙ laid_at_bridge (functions_in ps hs ss) memo (omega (arith, length_functions ps hs ss)) i (function_at ps hs ss i)
    (functions_at_lem ps hs ss i h)
    (omega (arith, length_functions ps hs ss))
    e

-- in the words of the code
pub ends_past_none : (last : ℕ) (e : Extent) → e.align ≡ 0 → ends_past last e ≡ false
ends_past_none last e z = rw z

pub ends_past_before : (last : ℕ) (e : Extent) → e.end ≤ last → ends_past last e ≡ false
ends_past_before last e h = rw (le-ltb (suc last) e.end (omega arith)) (and-false (ltb 0 e.align))

pub ends_past_some : (last : ℕ) (e : Extent) → (e.align ≡ 0 → ⊥) → ends_past last e ≡ ltb 1 (e.end - last)
ends_past_some last e n =
    let p : 0 < e.align = omega arith in
    rw (lt-ltb 0 e.align p)
    (⊎_elim
    (λ (h : e.end ≤ suc last). le-ltb (suc last) e.end h ∙ sym (le-ltb 1 (e.end - last) (omega arith)))
    (λ (h : suc last < e.end). lt-ltb (suc last) e.end h ∙ sym (lt-ltb 1 (e.end - last) (omega arith)))
    (le_or_lt e.end (suc last)))
