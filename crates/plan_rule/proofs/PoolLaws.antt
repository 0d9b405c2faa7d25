-- The laws of the pools and of the test that picks a bus and a pool. Assumes nothing.
use Rattle.std.specs.Prelude.{◌≡◌, refl, true, false, ℕ, eqb}
use Rattle.std.proofs.lemmas.Bool.{false≢true}
use Rattle.std.proofs.Common.{eqb-true, eq-eqb, ne_eqb}
use Rattle.arith.specs.BoolLaws.{both_of_and}
use Rattle.arith.specs.Powers.{PowerOfTwo}
use Rattle.plan_rule.specs.Pools.{Pool, low, high, io, granule, same_pool}
use Rattle.plan_rule.specs.Layout.{Piece, is_on}

pub granule_power : (q : Pool) → PowerOfTwo (granule q)
granule_power low = (20, refl)
granule_power high = (20, refl)
granule_power io = (12, refl)

pub same_pool_refl : (q : Pool) → same_pool q q ≡ true
same_pool_refl low = refl
same_pool_refl high = refl
same_pool_refl io = refl

pub eq_of_same_pool : (p q : Pool) → same_pool p q ≡ true → p ≡ q
eq_of_same_pool low low e = refl
eq_of_same_pool low high e = absurd (false≢true e)
eq_of_same_pool low io e = absurd (false≢true e)
eq_of_same_pool high low e = absurd (false≢true e)
eq_of_same_pool high high e = refl
eq_of_same_pool high io e = absurd (false≢true e)
eq_of_same_pool io low e = absurd (false≢true e)
eq_of_same_pool io high e = absurd (false≢true e)
eq_of_same_pool io io e = refl

pub record On (b : ℕ) (q : Pool) (p : Piece) : Type 0 where
  pub bus : p.bus ≡ b
  pub pool : p.pool ≡ q

pub on_of_is_on : (b : ℕ) (q : Pool) (p : Piece) → is_on b q p ≡ true → On b q p
on_of_is_on b q p e =
    let h = both_of_and (eqb p.bus b) (same_pool p.pool q) e in
    record { bus = eqb-true p.bus b h.0; pool = eq_of_same_pool p.pool q h.1 }

pub is_on_of_on : (b : ℕ) (q : Pool) (p : Piece) → On b q p → is_on b q p ≡ true
is_on_of_on b q p h = rw (eq-eqb p.bus b h.bus, h.pool) (same_pool_refl q)

pub is_on_self : (p : Piece) → is_on p.bus p.pool p ≡ true
is_on_self p = is_on_of_on p.bus p.pool p (record { bus = refl; pool = refl })

pub is_on_of_ne : (b : ℕ) (q : Pool) (p : Piece) → (p.bus ≡ b → ⊥) → is_on b q p ≡ false
is_on_of_ne b q p h = rw (ne_eqb p.bus b h)
