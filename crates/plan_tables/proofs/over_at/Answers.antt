-- `plan_tables::over_at` meets its contract. Assumes nothing.
use mathlib.Core.Path.{refl}
use Prim.Native.Nat.{◌+◌, ◌*◌}
use native.Mathlib.Omega.{arith}
use Rattle.plan_tables.proofs.over_at.Goals as goal

pub overflow_cast-result : goal.overflow_cast-result
overflow_cast-result c = omega (arith, c.type_inv.counts (2 * c.args.k + 1))

pub returns : goal.returns
returns c = (refl, omega (arith, c.type_inv.counts (2 * c.args.k + 1)))
