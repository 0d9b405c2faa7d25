-- What a plan keeps: nothing runs out, so everything that is placed lies in its pool, and that pool is open. Assumes nothing.
use Rattle.std.specs.Prelude.{◌≡◌, refl, List, suc, ◌<◌}
use Rattle.std.proofs.Common.{arith}
use Rattle.plan_rule.specs.Pools.{Pool, low, high, io}
use Rattle.plan_rule.specs.Records.{Host, Function, Lawful}
use Rattle.plan_rule.specs.Layout.{Placed}
use Rattle.plan_rule.proofs.LayoutLaws.{Within}
use Rattle.plan_rule.specs.Pieces.{pieces}
use Rattle.plan_rule.proofs.PieceLaws.{Shaped, has_align, pieces_shaped}
use Rattle.plan_rule.specs.Placing.{from_bases, placed}
use Rattle.plan_rule.proofs.PlacingLaws.{all_place}
use Rattle.plan_rule.proofs.Placed.{in_pool_lem}
use Rattle.plan_rule.specs.Refusals.{Kept, refusal_of}
use Rattle.plan_rule.proofs.RefusalLaws.{BusesKept, refusal_law}
use Rattle.lists.specs.Lists.{◌∈◌}
use Rattle.lists.specs.ListLaws.{all_elim}
use Rattle.plan_good.specs.Boards.{IsOpen}

pub record AllKept (h : Host) (fs : List Function) : Type 0 where
  pub buses : BusesKept h fs
  pub pools : (q : Pool) → Kept h fs q

pub kept_of_planned : (h : Host) (fs : List Function) → refusal_of h fs ≡ 0 → AllKept h fs
kept_of_planned h fs planned = record { buses = kept.0; pools = of_pool_lem }
  where
    kept : BusesKept h fs × Kept h fs low × Kept h fs high × Kept h fs io
    kept = (refusal_law h fs).none_iff.0 planned

    of_pool_lem : (q : Pool) → Kept h fs q
    of_pool_lem low = kept.1
    of_pool_lem high = kept.2
    of_pool_lem io = kept.3

module _ (h : Host) (fs : List Function) (lawful : Lawful fs) where
  pub not_empty : {x : Placed} → x ∈ placed h fs → 0 < x.piece.size
  unfolding placed
  not_empty {x} m =
      let s = all_elim _ (placed h fs) (all_place Shaped (from_bases h) (pieces 1 fs) (pieces_shaped 1 fs lawful.sized)) m in
      omega (arith, s.align_fits, has_align x.piece s)

  module _ (kept : AllKept h fs) where
    pub placed_in_pool : {x : Placed} → x ∈ placed h fs → Within (h.base x.piece.pool) (suc (h.last x.piece.pool)) x
    placed_in_pool {x} m = all_elim _ (placed h fs) (in_pool_lem h fs lawful x.piece.pool (kept.pools x.piece.pool)) m refl

    pub pool_open : {x : Placed} → x ∈ placed h fs → IsOpen h x.piece.pool
    pool_open m = omega (arith, (placed_in_pool m).from_start, (placed_in_pool m).to_end, not_empty m)
