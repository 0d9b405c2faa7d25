-- `address` meets its contract: a register adds less than an upper word's unit, so that no sum wraps. Assumes nothing.
use Prim.Native.Nat.{◌*◌, ◌/◌, ◌≤◌}
use native.Mathlib.Omega.{arith}
use Rattle.window.proofs.WindowLaws.{offset_le}
use Rattle.window.proofs.address.Goals as goal
use Rattle.window.proofs.address.Goals.{After-granule}

-- what the register adds
offset : (c : After-granule) → c.from-2.result / 16 * c.granule.result ≤ 4293918720
offset c = rw c.granule.ensures (offset_le c.args.q _ (rw c.from-2.ensures c.ranges.register.fits))

pub overflow_mul-result-2 : goal.overflow_mul-result-2
overflow_mul-result-2 c = omega (arith, offset (goal.at.overflow_mul-result-2 c).After-granule)

pub overflow_add-result : goal.overflow_add-result
overflow_add-result c = omega (arith, offset (goal.at.overflow_add-result c).After-granule)

pub returns : goal.returns
returns c = (rw (c.from.ensures, c.from-2.ensures, c.granule.ensures), omega (arith, offset (goal.at.returns c).After-granule))
