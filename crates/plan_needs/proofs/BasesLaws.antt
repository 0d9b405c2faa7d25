-- A host record with its closed pools at 0, as placing sees it. Assumes nothing.
use Rattle.std.specs.Prelude.{◌≡◌, refl}
use Rattle.plan_rule.specs.Pools.{Pool, low, high, io}
use Rattle.board_record.specs.declared.Host.{Host}
use Rattle.board.specs.ToPlacing.{to_host}
use Rattle.plan_needs.specs.Bases.{layout_base, laid_host, laid_host_of}

pub laid_base : (h : Host) (q : Pool) → (to_host (laid_host_of h)).base q ≡ layout_base (to_host h) q
unfolding laid_host_of
laid_base h low = refl
laid_base h high = refl
laid_base h io = refl

laid_last : (h : Host) (q : Pool) → (to_host (laid_host_of h)).last q ≡ (to_host h).last q
unfolding laid_host_of
laid_last h low = refl
laid_last h high = refl
laid_last h io = refl

pub laid_host_lem : (h : Host) → to_host (laid_host_of h) ≡ laid_host (to_host h)
unfolding laid_host_of
laid_host_lem h =
    λ i. record { first_bus = h.first_bus; last_bus = h.last_bus; base = λ q. laid_base h q i; last = λ q. laid_last h q i }
