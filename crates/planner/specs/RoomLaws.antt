-- A measured board on which nothing runs out is what the placing pass asks for. Assumes nothing.
use Rattle.std.specs.Prelude.{◌≡◌, refl, Bool, true, false, cond, List, leb, length}
use Rattle.std.proofs.Common.{ap, arith, leb-true, leb-false}
use Rattle.std.proofs.Math.Path.{subst}
use Prim.Native.Nat.{ℕ, suc, ◌≤◌, ◌<◌}
use Rattle.endian.specs.Endian.{Bytes}
use Rattle.pools.specs.declared.Pool.{Pool}
use Rattle.pools.specs.declared.Pool.TheVariants.{Low, High, Io}
use Rattle.window.specs.Window.{bound}
use Rattle.plan_rule.specs.Records as placing
use Rattle.plan_rule.specs.Layout.{end_of}
use Rattle.plan_rule.specs.Placing.{placed}
use Rattle.plan_rule.specs.Refusals.{Kept, refusal_of}
use Rattle.board_record.specs.declared.Host.{Host}
use Rattle.board.specs.Board.{board_number, host_of, functions_of}
use Rattle.board.specs.ToPlacing.{to_host, to_placing}
use Rattle.plan_function.proofs.JoinLaws.{Room}
use Rattle.lists.specs.ListLaws.{all_intro}
use Rattle.sheet.specs.Sheet.{sheet_length}
use Rattle.plan_good.specs.Boards.{Board, IsOpen}
use Rattle.plan_good.proofs.Kept.{AllKept, kept_of_planned, placed_in_pool, pool_open}
use Rattle.plan_pass.specs.Loop.{with_last, Placing}
use Rattle.plan_pass.specs.PreparedLaws.{prepared_of_accepted}
use Rattle.plan_sheet.proofs.Accepted.{board_of_accepted}
use Rattle.planner.specs.declared.Measured.{Measured}
use Rattle.planner.specs.Measure.{IsMeasured}

-- an open pool's own last address; a closed pool may have any, and nothing lies in it
abbrev last_of : placing.Host → Pool → ℕ
last_of h q = cond (leb (h.base q) (h.last q)) (h.last q) 0

module _ (h : placing.Host) (fs : List placing.Function) (board : Board h fs) (kept : AllKept h fs) where
  -- what an open pool's last address is below, 0 is too
  last_below_lem : (q : Pool) (n : ℕ) → 0 < n → (IsOpen h q → h.last q < n) → last_of h q < n
  last_below_lem q n pos low = go (leb (h.base q) (h.last q)) refl
    where
      go : (t : Bool) → leb (h.base q) (h.last q) ≡ t → cond t (h.last q) 0 < n
      go true e = low (leb-true (h.base q) (h.last q) e)
      go false e = pos

  last_of_open : (q : Pool) → IsOpen h q → last_of h q ≡ h.last q
  last_of_open q opens = go (leb (h.base q) (h.last q)) refl
    where
      go : (t : Bool) → leb (h.base q) (h.last q) ≡ t → cond t (h.last q) 0 ≡ h.last q
      go true e = refl
      go false e = absurd (omega (arith, leb-false (h.base q) (h.last q) e))

  below_2^52 : (q : Pool) → last_of h q < 4503599627370496
  below_2^52 Low = last_below_lem Low _ (omega arith) (λ o. omega (arith, board.edges.low_ends_below_4_Gi_b o))
  below_2^52 High = last_below_lem High _ (omega arith) board.edges.high_ends_below_2^52
  below_2^52 Io = last_below_lem Io _ (omega arith) (λ o. omega (arith, board.edges.io_ends_below_64_Ki_b o))

  in_bound : (q : Pool) → last_of h q < bound q
  in_bound Low = last_below_lem Low _ (omega arith) board.edges.low_ends_below_4_Gi_b
  in_bound High = last_below_lem High _ (omega arith) (λ o. omega (arith, board.edges.high_ends_below_2^52 o))
  in_bound Io = last_below_lem Io _ (omega arith) board.edges.io_ends_below_64_Ki_b

  kept_by_last : (q : Pool) → Kept (with_last h (last_of h)) fs q
  unfolding placed
  kept_by_last q =
      all_intro _ (placed h fs) (λ x m root of_pool_lem.
      let lies = placed_in_pool h fs board.lawful kept m in
      let opens = pool_open h fs board.lawful kept m in
      subst (λ (p : Pool). end_of x ≤ suc (last_of h p)) of_pool_lem
      (omega (arith, lies.to_end, last_of_open x.piece.pool opens)))

  room_by_last : Room (with_last h (last_of h)) fs
  room_by_last = record { kept = kept_by_last; low = below_2^52; fits = in_bound }

pub placing_of_measured : {h : Host} {counts memo : List ℕ} {m : Measured} (b sheet : List ℕ) → Bytes b → board_number b ≡ 0 → h ≡ host_of b
    → IsMeasured b h counts memo m → refusal_of (to_host (host_of b)) (to_placing (functions_of b)) ≡ 0
    → sheet_length (length (functions_of b)) ≤ length sheet
    → Placing b h counts memo sheet
placing_of_measured {h} {counts} {memo} b sheet bytes accepted host_is is planned fits =
    let board = board_of_accepted b bytes accepted in
    let kept = kept_of_planned (to_host (host_of b)) (to_placing (functions_of b)) planned in
    let first : h.first_bus ≡ (host_of b).first_bus = ap (λ (x : Host). x.first_bus) host_is in
    record {
      accepted = accepted;
      host_read = host_is;
      prepared =
          prepared_of_accepted b h.first_bus counts memo accepted
          (omega (arith, first, kept.buses, board.edges.last_bus_is_byte))
          is.counts_room (λ k l. (is.counted k l).taken_is) (λ k l. (is.counted k l).over_is) is.memo_room is.stored;
      last = last_of (to_host (host_of b));
      room = room_by_last (to_host (host_of b)) (to_placing (functions_of b)) board kept;
      sheet_room = fits;
    }
