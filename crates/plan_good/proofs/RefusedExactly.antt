-- Demand 3's exact refusals in document 01's words: 30 where the bus numbers run out, 31 to 33 where a pool does and nothing before it has,
-- 0 where nothing runs out, and no other number. Assumes nothing.
use Rattle.std.specs.Prelude.{◌≡◌, refl, ◌⊎◌, ◌↔◌, true, false, List}
use Rattle.std.proofs.Common.{inl, inr, arith}
use Rattle.std.proofs.Math.Bool.{Bool, cond}
use Prim.Native.Nat.{ℕ, pred, ◌+◌, ◌≤◌, ◌<◌}
use Rattle.lists.specs.Lists.{Some}
use Rattle.lists.specs.ListLaws.{some_imp, some_elim, some_and}
use Rattle.plan_rule.specs.Pools.{Pool, low, high, io}
use Rattle.plan_rule.specs.Records.{Host, Function}
use Rattle.plan_rule.specs.Layout.{Placed, end_of}
use Rattle.plan_rule.specs.Placing.{placed}
use Rattle.plan_rule.specs.Numbering.{bridges}
use Rattle.plan_rule.specs.Refusals.{out_of_buses, out_of_pool, Kept, refusal_of}
use Rattle.plan_rule.proofs.RefusalLaws.{PoolPast, BusesKept, out_of_pool_iff, kept_iff, refusal_law}
use Rattle.plan_rule.proofs.RecordLaws.{false_of_not}

-- "first bus + bridges > last bus"
abbrev pub BusesRunOut : Host → List Function → Type 0
BusesRunOut h fs = h.last_bus < h.first_bus + bridges fs

-- "a root bus item's last byte is above the pool's last"
pub record RunsPast (h : Host) (q : Pool) (x : Placed) : Type 0 where
  pub on_root_bus : x.piece.bus ≡ 0
  pub of_pool_lem : x.piece.pool ≡ q
  pub last_byte_above : h.last q < pred (end_of x)

abbrev pub PoolRunsOut : Host → List Function → Pool → Type 0
PoolRunsOut h fs q = Some (RunsPast h q) (placed h fs)

pub record RefusedExactly (h : Host) (fs : List Function) : Type 0 where
  pub no_buses_left : (refusal_of h fs ≡ 30) ↔ BusesRunOut h fs
  pub no_low_room : (refusal_of h fs ≡ 31) ↔ (¬ BusesRunOut h fs × PoolRunsOut h fs low)
  pub no_high_room : (refusal_of h fs ≡ 32) ↔ (¬ BusesRunOut h fs × ¬ PoolRunsOut h fs low × PoolRunsOut h fs high)
  pub no_io_room : (refusal_of h fs ≡ 33) ↔ (¬ BusesRunOut h fs × ¬ PoolRunsOut h fs low × ¬ PoolRunsOut h fs high × PoolRunsOut h fs io)
  pub planned_else : (refusal_of h fs ≡ 0)
      ↔ (¬ BusesRunOut h fs × ¬ PoolRunsOut h fs low × ¬ PoolRunsOut h fs high × ¬ PoolRunsOut h fs io)
  pub no_other_number : (refusal_of h fs ≡ 0) ⊎ ((30 ≤ refusal_of h fs) × (refusal_of h fs ≤ 33))

module _ (h : Host) (fs : List Function) where
  buses_kept_iff : BusesKept h fs ↔ (¬ BusesRunOut h fs)
  buses_kept_iff = omega arith

  pool_past_iff : (q : Pool) → PoolPast h fs q ↔ PoolRunsOut h fs q
  pool_past_iff q = (
    some_imp _ _ (λ x p. record { on_root_bus = p.root.bus; of_pool_lem = p.root.pool; last_byte_above = omega (arith, p.beyond) })
        (placed h fs),
    some_imp _ _ (λ x r. record { root = record { bus = r.on_root_bus; pool = r.of_pool_lem }; beyond = omega (arith, r.last_byte_above) })
        (placed h fs),
  )

  kept_iff_not : (q : Pool) → Kept h fs q ↔ (¬ PoolRunsOut h fs q)
  kept_iff_not q = (
    λ k s. some_elim _ (placed h fs) (λ x g. omega (arith, g.1.last_byte_above, g.0 g.1.on_root_bus g.1.of_pool_lem))
        (some_and _ _ (placed h fs) k s),
    λ n. (kept_iff h fs q).0 (false_of_not (out_of_pool h fs q) (λ e. n ((pool_past_iff q).0 ((out_of_pool_iff h fs q).0 e)))),
  )

  no_other : (refusal_of h fs ≡ 0) ⊎ ((30 ≤ refusal_of h fs) × (refusal_of h fs ≤ 33))
  unfolding refusal_of
  no_other = go (out_of_buses h fs) (out_of_pool h fs low) (out_of_pool h fs high) (out_of_pool h fs io)
    where
      First : Bool → Bool → Bool → Bool → ℕ
      First a b c d = cond a 30 (cond b 31 (cond c 32 (cond d 33 0)))

      go : (a b c d : Bool) → (First a b c d ≡ 0) ⊎ ((30 ≤ First a b c d) × (First a b c d ≤ 33))
      go true b c d = inr (omega arith)
      go false true c d = inr (omega arith)
      go false false true d = inr (omega arith)
      go false false false true = inr (omega arith)
      go false false false false = inl refl

  pub refused_exactly : RefusedExactly h fs
  refused_exactly =
      let law = refusal_law h fs in
      record {
        no_buses_left = law.buses_iff;
        no_low_room = simp (buses_kept_iff, pool_past_iff) at law.low_iff;
        no_high_room = simp (buses_kept_iff, kept_iff_not, pool_past_iff) at law.high_iff;
        no_io_room = simp (buses_kept_iff, kept_iff_not, pool_past_iff) at law.io_iff;
        planned_else = simp (buses_kept_iff, kept_iff_not) at law.none_iff;
        no_other_number = no_other;
      }
