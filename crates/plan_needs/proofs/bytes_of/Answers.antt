-- `plan_needs::bytes_of` meets its contract. Assumes nothing.
use mathlib.Core.Path.{ap}
use Prim.Native.Nat.{ℕ, ◌-◌}
use native.Mathlib.Omega.{arith}
use borrow.Author.Tests.{eq-eqb, ne_eqb}
use Rattle.pools.specs.Pools.{granule}
use Rattle.pools.specs.PoolsLaws.{granule_pos}
use Rattle.plan_rule.specs.Cap.{cap}
use Rattle.arith.specs.AlignLaws.{le_align_up}
use Rattle.plan_needs.proofs.bytes_of.Goals as goal

pub returns-then-e-eq0 : goal.returns-then-e-eq0
returns-then-e-eq0 c = rw (eq-eqb c.args.e.align 0 c.if-e-eq0.true)

pub overflow_sub-result : goal.overflow_sub-result
overflow_sub-result c = let g = granule c.args.q in
    omega (arith, c.window_size.ensures, c.requires, le_align_up g (granule_pos c.args.q) (cap c.args.e.end))

pub returns : goal.returns
returns c = rw (ne_eqb c.args.e.align 0 c.if-e-eq0.false) (ap (λ (n : ℕ). n - c.args.base) c.window_size.ensures)
